-- `new_at`: each way out is a law.
use borrow.Author.Rules.{rules}
use Rattle.job_new.specs.Exits.{laws}
use Rattle.job_new.proofs.new_at.Goals as goal

pub returns : goal.returns
returns c = search (rules, laws)
