-- `judge`: a refusal of the image is handed on.
use borrow.Author.Rules.{rules}
use Rattle.std.proofs.lemmas.Result.{err_from_is_err_and}
use Rattle.console.specs.Exits.{laws}
use Rattle.console.proofs.judge.Goals as goal

pub returns-in_err-check : goal.returns-in_err-check
returns-in_err-check c =
    let p = err_from_is_err_and c.from_residual.result c.from_residual.ensures.1 in let w = c.in_err-check.was in rw (p.1, p.2) (search (rules, laws))
