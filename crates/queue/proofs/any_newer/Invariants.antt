-- `any_newer`: a search.
use Prim.Native.Nat.{◌-◌}
use Rattle.search.specs.First.{Sought}
use Rattle.queue.specs.Front.{entry_newer_at}
use Rattle.queue.proofs.any_newer.Given as goal

abbrev pub invariant-loop-s : goal.invariant-loop-s
invariant-loop-s l = Sought (entry_newer_at l.working l.e) l.z.n l.s
