-- `place`: from link to link (`Placing`).
use Rattle.index.specs.Exits.{Placing}
use Prim.Native.Nat.{◌-◌}
use Rattle.index.proofs.place.Given as goal

abbrev pub invariant-loop-t : goal.invariant-loop-t
invariant-loop-t l = Placing l.z l.transient l.b l.s l.at l.t

abbrev pub decreases-loop-t : goal.decreases-loop-t
decreases-loop-t l = l.s - l.t
