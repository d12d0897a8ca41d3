-- `decode`: the loop has stored i of the k words (`Storing`).
use Rattle.image.specs.Storing.{Storing}
use Rattle.image.specs.Bytes.{words_of}
use Rattle.image.proofs.bytes.decode.Given as goal

abbrev pub invariant-loop-i : goal.invariant-loop-i
invariant-loop-i l = Storing l.initial.words 0 (words_of l.bytes) l.k l.i l.words
