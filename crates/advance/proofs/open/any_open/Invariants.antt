-- `any_open`: a search (`Sought`).
use Rattle.search.specs.First.{Sought}
use Rattle.advance.specs.Stages.{is_open}
use Prim.Native.Nat.{◌-◌}
use Rattle.advance.proofs.open.any_open.Given as goal

abbrev pub invariant-loop-thread : goal.invariant-loop-thread
invariant-loop-thread l = Sought (is_open l.transient) l.z.t l.thread
