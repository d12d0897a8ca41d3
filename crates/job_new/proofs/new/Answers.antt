use Rattle.std.proofs.lemmas.Result.{err_from_is_err_and}
-- `new`: each way out is a law.
use borrow.Author.Rules.{rules}
use Rattle.job_new.specs.Exits.{laws}
use Rattle.job_new.proofs.new.Goals as goal

pub returns-in_err-check : goal.returns-in_err-check
returns-in_err-check c = let p = err_from_is_err_and c.from_residual.result c.from_residual.ensures.1 in let w0 = c.in_err-check.was in rw (p.1, p.2) (search (rules, laws))

pub read_sizes-z-requires : goal.read_sizes-z-requires
read_sizes-z-requires c = let w0 = c.in_ok-check.was in search (rules, laws)

pub returns : goal.returns
returns c = let w0 = c.in_ok-check.was in search (rules, laws)
