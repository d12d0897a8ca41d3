-- `key_on`: along the chain (`Keying`).
use Rattle.table.specs.KeyExits.{Keying}
use Prim.Native.Nat.{◌-◌}
use Rattle.transient.specs.Store.{table}
use Rattle.table.proofs.find.key_on.Given as goal

abbrev pub invariant-loop-s : goal.invariant-loop-s
invariant-loop-s l = Keying l.z (table l.working l.transient) l.key l.from l.s

abbrev pub decreases-loop-s : goal.decreases-loop-s
decreases-loop-s l = l.z.n - l.s
