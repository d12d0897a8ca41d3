use borrow.Author.Rules.{rules}
use Rattle.job_batch.specs.Exits.{laws}
use Rattle.job_batch.proofs.changes_open.Goals as goal

pub returns-in-Err : goal.returns-in-Err
returns-in-Err c = search (rules, laws)

pub loop-k-preserved : goal.loop-k-preserved
loop-k-preserved c = search (rules, laws)

pub returns : goal.returns
returns c = search (rules, laws)
