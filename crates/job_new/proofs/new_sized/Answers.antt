use Rattle.std.proofs.lemmas.Result.{err_from_is_err_and}
-- `new_sized`: each way out is a law.
use borrow.Author.Rules.{rules}
use Rattle.job_new.specs.Exits.{laws}
use Rattle.job_new.proofs.new_sized.Goals as goal

pub returns-in_err-e : goal.returns-in_err-e
returns-in_err-e c = let p = err_from_is_err_and c.from_residual.result c.from_residual.ensures.1 in let w0 = c.in_err-e.was in rw (p.1, p.2) (search (rules, laws))

pub new_open-requires : goal.new_open-requires
new_open-requires c = let w0 = c.in_ok-e.was in search (rules, laws)

pub returns : goal.returns
returns c = let w0 = c.in_ok-e.was in search (rules, laws)
