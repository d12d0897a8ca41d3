-- `whole`: each way out is a law.
use Rattle.std.proofs.lemmas.Result.{err_from_is_err_and}
use Rattle.std.proofs.Common.{rules}
use Rattle.acceptance.specs.Exits.{whole}
use Rattle.acceptance.proofs.checks.whole.Goals as goal

pub returns-in_err-head : goal.returns-in_err-head
returns-in_err-head g c = let p = err_from_is_err_and c.from_residual.result c.from_residual.ensures.1 in let w = c.in_err-head.was in rw (p.1, p.2) (search (rules, whole))

pub slots-requires-clause-sized : goal.slots-requires-clause-sized
slots-requires-clause-sized g c = let w = c.in_ok-head.was in search (rules, whole)

pub returns : goal.returns
returns g c = let w = c.in_ok-head.was in search (rules, whole)
