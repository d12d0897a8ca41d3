-- `rebuild`: the slots from s on are entered (`Rebuilding`).
use Rattle.index.specs.Exits.{Rebuilding}
use Rattle.index.proofs.rebuild.Given as goal

abbrev pub invariant-loop-s : goal.invariant-loop-s
invariant-loop-s l = Rebuilding l.z l.working l.initial.transient l.transient l.s
