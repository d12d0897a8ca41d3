-- `batch_jobs`: each way out is a law.
use borrow.Author.Rules.{rules}
use Rattle.job_batch.specs.Exits.{entering}
use Rattle.job_batch.proofs.batch_jobs.Goals as goal

pub returns-in-Ok : goal.returns-in-Ok
returns-in-Ok c = search (rules, entering)
