-- `open_below`: a search (`Sought`).
use Rattle.search.specs.First.{Sought}
use Rattle.advance.specs.Stages.{is_open_below}
use Prim.Native.Nat.{◌-◌}
use Rattle.advance.proofs.open.open_below.Given as goal

abbrev pub invariant-loop-thread : goal.invariant-loop-thread
invariant-loop-thread l = Sought (is_open_below l.transient l.c) l.z.t l.thread
