-- `any_retired`: all of the sixteen are looked at (`Seen`).
use Rattle.search.specs.Some.{Seen}
use Rattle.step.specs.Requires.{is_retired}
use Prim.Native.Nat.{◌-◌}
use Rattle.step.proofs.due.any_retired.Given as goal

abbrev pub invariant-loop-j : goal.invariant-loop-j
invariant-loop-j l = Seen (is_retired l.z l.transient l.e l.s) 16 l.j l.any
