-- `put_spaced`: each way out is a law.
use Rattle.text.specs.Putting.{Spacing}
use Rattle.text.proofs.put_spaced.Given as goal

abbrev pub invariant-loop-x : goal.invariant-loop-x
invariant-loop-x l = Spacing l.initial.out l.at l.numbers l.x-index l.out l.k
