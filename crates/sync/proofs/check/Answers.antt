use Rattle.std.proofs.lemmas.Result.{err_from_is_err_and}
-- `check`: each way out is a law.
use borrow.Author.Rules.{rules}
use Rattle.transient.specs.Passed.{passing}
use Rattle.sync.specs.Exits.{checks}
use Rattle.sync.proofs.check.Goals as goal

pub returns-in_err-check : goal.returns-in_err-check
returns-in_err-check c = let p = err_from_is_err_and c.from_residual.result c.from_residual.ensures.1 in let w0 = c.in_err-check.was in rw (p.1, p.2) (search (rules, checks, passing))
