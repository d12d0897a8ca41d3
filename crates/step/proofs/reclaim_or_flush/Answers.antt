-- `reclaim_or_flush`: each way out is a law.
use borrow.Author.Rules.{rules}
use Rattle.step.specs.Exits.{slots}
use Rattle.step.proofs.reclaim_or_flush.Goals as goal

pub flush_from-requires : goal.flush_from-requires
flush_from-requires c = search (rules, slots)
