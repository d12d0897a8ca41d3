-- `sync_lines`: the calls left are enough (`Syncing`), and each lowers the budget.
use Rattle.transient.specs.Store.{table}
use Rattle.sync.specs.Budget.{budget}
use Rattle.sync.specs.Exits.{Syncing}
use Rattle.sync.proofs.sync_lines.Given as goal

abbrev pub invariant-loop-ticks : goal.invariant-loop-ticks
invariant-loop-ticks l = Syncing l.z l.initial.working l.initial.persistent l.initial.transient l.ticks l.lines l.working l.persistent l.transient

abbrev pub decreases-loop-ticks : goal.decreases-loop-ticks
decreases-loop-ticks l = budget (table l.working l.transient) l.ticks
