use Rattle.std.proofs.lemmas.Result.{err_from_is_err_and}
-- `append_given`: each way out is a law.
use borrow.Author.Rules.{rules}
use Rattle.queue_append.specs.Exits.{laws}
use Rattle.queue_append.proofs.append_given.Goals as goal

pub returns-in_err-append_sized : goal.returns-in_err-append_sized
returns-in_err-append_sized c = let p = err_from_is_err_and c.from_residual.result c.from_residual.ensures.1 in let w0 = c.in_err-append_sized.was in rw (p.1, p.2) (search (rules, laws))

pub returns : goal.returns
returns c = let w0 = c.in_ok-append_sized.was in search (rules, laws)
