-- `slots_in`: each way out is a law.
use Rattle.std.proofs.lemmas.Result.{err_from_is_err_and}
use Rattle.std.proofs.Common.{rules}
use Rattle.acceptance.specs.Checking.{checks}
use Rattle.acceptance.proofs.checks.slots_in.Goals as goal

pub returns-in_err-version : goal.returns-in_err-version
returns-in_err-version g c = let p = err_from_is_err_and c.from_residual.result c.from_residual.ensures.1 in let w = c.in_err-version.was in rw (p.1, p.2) (search (rules, checks))

pub returns-in_err-name : goal.returns-in_err-name
returns-in_err-name g c = let p = err_from_is_err_and c.from_residual-in_err-name.result c.from_residual-in_err-name.ensures.1 in let v = c.in_ok-version.was in let w = c.in_err-name.was in rw (p.1, p.2) (search (rules, checks))

pub returns-then-version-name : goal.returns-then-version-name
returns-then-version-name g c = let v = c.in_ok-version.was in let w = c.in_ok-name.was in search (rules, checks)

pub returns : goal.returns
returns g c = let v = c.in_ok-version.was in let w = c.in_ok-name.was in search (rules, checks)
