-- `free_slot`: a search around the table (`Turning`).
use Rattle.table.specs.Exits.{Turning}
use Prim.Native.Nat.{◌-◌}
use Rattle.table.specs.Find.{free_at}
use Rattle.table.proofs.find.free_slot.Given as goal

abbrev pub invariant-loop-k : goal.invariant-loop-k
invariant-loop-k l = Turning (free_at l.working) l.n l.last l.steps l.k l.s

abbrev pub decreases-loop-k : goal.decreases-loop-k
decreases-loop-k l = l.steps - l.k
