-- `look_up`: from one slot of the chain with the key to the next (`LookingUp`).
use Rattle.table.specs.Exits.{LookingUp}
use Prim.Native.Nat.{◌-◌}
use Rattle.transient.specs.Store.{table}
use Rattle.table.proofs.find.look_up.Given as goal

abbrev pub invariant-loop-s : goal.invariant-loop-s
invariant-loop-s l = LookingUp l.z (table l.working l.transient) l.key l.e l.s l.live

abbrev pub decreases-loop-s : goal.decreases-loop-s
decreases-loop-s l = l.z.n - l.s
