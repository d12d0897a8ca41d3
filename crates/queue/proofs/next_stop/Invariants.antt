-- `next_stop`: the first that stops it (`From`).
use Rattle.search.specs.From.{From}
use Rattle.transient.specs.Store.{table}
use Rattle.queue.specs.Requires.{stops_at}
use Rattle.queue.proofs.next_stop.Given as goal

abbrev pub invariant-loop-s : goal.invariant-loop-s
invariant-loop-s l = From (stops_at l.z (table l.working l.transient) l.e l.best) l.z.n l.from l.s
