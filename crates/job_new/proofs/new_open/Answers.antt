use Rattle.std.proofs.lemmas.Result.{err_from_is_err_and}
-- `new_open`: each way out is a law.
use borrow.Author.Rules.{rules}
use Rattle.job_new.specs.Exits.{laws}
use Rattle.job_new.proofs.new_open.Goals as goal

pub returns-in_err-look_up : goal.returns-in_err-look_up
returns-in_err-look_up c = let p = err_from_is_err_and c.from_residual.result c.from_residual.ensures.1 in let w0 = c.in_err-look_up.was in rw (p.1, p.2) (search (rules, laws))

pub returns-in-Some : goal.returns-in-Some
returns-in-Some c = let w0 = c.in_ok-look_up.was in let m1 = rw c.in-Some.is at w0 in search (rules, laws)
