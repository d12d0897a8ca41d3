-- `store_words`: the loop has stored j of the k words (`Storing`).
use Rattle.image.specs.Storing.{Storing}
use Rattle.image.proofs.contents.store_words.Given as goal

abbrev pub invariant-loop-j : goal.invariant-loop-j
invariant-loop-j l = Storing l.initial.dst l.b l.src l.k l.j l.dst
