use Rattle.std.proofs.lemmas.Result.{err_from_is_err_and}
-- `recover_sized`: each way out is a law.
use borrow.Author.Rules.{rules}
use Rattle.recovery.specs.Exits.{steps}
use Rattle.recovery.proofs.recover_sized.Goals as goal

pub returns-in_err-check_slots : goal.returns-in_err-check_slots
returns-in_err-check_slots c = let p = err_from_is_err_and c.from_residual.result c.from_residual.ensures.1 in let w0 = c.in_err-check_slots.was in rw (p.1, p.2) (search (rules, steps))
