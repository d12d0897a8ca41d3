-- `find_live`: from one slot of the chain with the key to the next (`Finding`).
use Rattle.table.specs.Exits.{Finding}
use Prim.Native.Nat.{◌-◌}
use Rattle.transient.specs.Store.{table}
use Rattle.table.proofs.find.find_live.Given as goal

abbrev pub invariant-loop-s : goal.invariant-loop-s
invariant-loop-s l = Finding l.z (table l.working l.transient) l.key l.s

abbrev pub decreases-loop-s : goal.decreases-loop-s
decreases-loop-s l = l.z.n - l.s
