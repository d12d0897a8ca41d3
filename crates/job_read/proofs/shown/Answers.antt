-- `shown`: each way out is a law.
use borrow.Author.Rules.{rules}
use Rattle.job_read.specs.Exits.{values}
use Rattle.job_read.proofs.shown.Goals as goal

pub value_at-requires : goal.value_at-requires
value_at-requires c = search (rules, values)
