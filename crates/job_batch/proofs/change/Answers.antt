-- `change`: each way out is a law.
use Rattle.std.proofs.Common.{rules}
use Rattle.job_batch.specs.Exits.{laws}
use Rattle.job_batch.proofs.change.Goals as goal

pub returns-in-Err : goal.returns-in-Err
returns-in-Err c = search (rules, laws)
