-- `reading_position`: each way out is a law.
use borrow.Author.Rules.{rules}
use Rattle.job_read.specs.Exits.{values}
use Rattle.job_read.proofs.reading_position.Goals as goal

pub value_start-requires : goal.value_start-requires
value_start-requires c = search (rules, values)
