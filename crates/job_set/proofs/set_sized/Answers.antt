use Rattle.std.proofs.lemmas.Result.{err_from_is_err_and}
-- `set_sized`: each way out is a law.
use borrow.Author.Rules.{rules}
use Rattle.job_set.specs.Exits.{laws}
use Rattle.job_set.proofs.set_sized.Goals as goal

pub returns-in_err-e : goal.returns-in_err-e
returns-in_err-e c = let p = err_from_is_err_and c.from_residual.result c.from_residual.ensures.1 in let w0 = c.in_err-e.was in rw (p.1, p.2) (search (rules, laws))

pub set_open-requires : goal.set_open-requires
set_open-requires c = let w0 = c.in_ok-e.was in search (rules, laws)

pub returns : goal.returns
returns c = let w0 = c.in_ok-e.was in search (rules, laws)
