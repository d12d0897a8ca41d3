use Rattle.std.proofs.lemmas.Result.{err_from_is_err_and}
-- `read_slot`: each way out is a law.
use borrow.Author.Rules.{rules}
use Rattle.job_read.specs.Exits.{reads}
use Rattle.job_read.proofs.read_slot.Goals as goal

pub returns-in_err-check : goal.returns-in_err-check
returns-in_err-check c = let p = err_from_is_err_and c.from_residual.result c.from_residual.ensures.1 in let w0 = c.in_err-check.was in rw (p.1, p.2) (search (rules, reads))
