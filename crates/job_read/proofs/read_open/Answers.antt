use Rattle.std.proofs.lemmas.Result.{err_from_is_err_and}
-- `read_open`: each way out is a law.
use borrow.Author.Rules.{rules}
use Rattle.job_read.specs.Exits.{reads}
use Rattle.job_read.proofs.read_open.Goals as goal

pub returns-in_err-look_up : goal.returns-in_err-look_up
returns-in_err-look_up c = let p = err_from_is_err_and c.from_residual.result c.from_residual.ensures.1 in let w0 = c.in_err-look_up.was in rw (p.1, p.2) (search (rules, reads))
