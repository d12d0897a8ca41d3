-- `look_up_front`: from one stop to the next (`Fronting`).
use Prim.Native.Nat.{◌-◌}
use Rattle.transient.specs.Store.{table}
use Rattle.queue.specs.Exits.{Fronting}
use Rattle.queue.proofs.look_up_front.Given as goal

abbrev pub invariant-loop-s : goal.invariant-loop-s
invariant-loop-s l = Fronting l.z (table l.working l.transient) l.e l.from l.best

abbrev pub decreases-loop-s : goal.decreases-loop-s
decreases-loop-s l = l.z.n - l.from
