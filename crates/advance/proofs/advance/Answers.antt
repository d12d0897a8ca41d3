use Rattle.std.proofs.lemmas.Result.{err_from_is_err_and}
-- `advance`: each way out is a law.
use borrow.Author.Rules.{rules}
use Rattle.transient.specs.Passed.{passing, sized-with, entry-both}
use Rattle.advance.specs.Exits.{calls}
use Rattle.advance.proofs.advance.Goals as goal

pub advance_sized-requires : goal.advance_sized-requires
advance_sized-requires c = sized-with (entry-both _ _ _ c.check.ensures c.in_ok-check.was) c.read_sizes-z.ensures

pub returns-in_err-check : goal.returns-in_err-check
returns-in_err-check c = let p = err_from_is_err_and c.from_residual.result c.from_residual.ensures.1 in let w0 = c.in_err-check.was in rw (p.1, p.2) (search (rules, calls, passing))

pub read_sizes-z-requires : goal.read_sizes-z-requires
read_sizes-z-requires c = let w0 = c.in_ok-check.was in search (rules, calls, passing)
