use Rattle.std.proofs.lemmas.Result.{err_from_is_err_and}
-- `look_open`: each way out is a law.
use borrow.Author.Rules.{rules}
use Rattle.queue_look.specs.Exits.{laws}
use Rattle.queue_look.proofs.look_open.Goals as goal

pub returns-in_err-look_up_front : goal.returns-in_err-look_up_front
returns-in_err-look_up_front c = let p = err_from_is_err_and c.from_residual.result c.from_residual.ensures.1 in let w0 = c.in_err-look_up_front.was in rw (p.1, p.2) (search (rules, laws))
