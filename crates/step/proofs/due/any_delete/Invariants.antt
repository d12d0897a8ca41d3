-- `any_delete`: a search of the sixteen (`Sought`).
use Rattle.search.specs.First.{Sought}
use Rattle.step.specs.Requires.{is_delete}
use Prim.Native.Nat.{◌-◌}
use Rattle.step.proofs.due.any_delete.Given as goal

abbrev pub invariant-loop-j : goal.invariant-loop-j
invariant-loop-j l = Sought (is_delete l.working l.s) 16 l.j
