use Rattle.std.proofs.lemmas.Result.{err_from_is_err_and}
use Rattle.reply.specs.Refusals.{ok-some}
-- `set_open`: each way out is a law.
use borrow.Author.Rules.{rules}
use Rattle.job_set.specs.Exits.{laws}
use Rattle.jobs.specs.Requires.{looked-held}
use Rattle.job_set.proofs.set_open.Goals as goal

pub returns-in_err-look_up : goal.returns-in_err-look_up
returns-in_err-look_up c = let p = err_from_is_err_and c.from_residual.result c.from_residual.ensures.1 in let w0 = c.in_err-look_up.was in rw (p.1, p.2) (search (rules, laws))

pub set_live-requires : goal.set_live-requires
set_live-requires c = let w0 = c.in_ok-look_up.was in let w1 = ok-some _ _ c.ok_or.ensures.value c.in_ok-s.was in looked-held _ _ c.look_up.ensures (rw w1 at w0) (search (rules, laws))

pub returns : goal.returns
returns c = let w0 = c.in_ok-look_up.was in let w1 = ok-some _ _ c.ok_or.ensures.value c.in_ok-s.was in let v1 = rw w1 at w0 in search (rules, laws)
