-- `count_words`: each way out is a law.
use Rattle.std.proofs.lemmas.Result.{err_from_is_err_and}
use Rattle.std.proofs.Common.{rules}
use Rattle.acceptance.specs.Exits.{whole}
use Rattle.acceptance.specs.InPlace.{answers}
use Rattle.acceptance.proofs.questions.count_words.Goals as goal

pub returns-in_err-head : goal.returns-in_err-head
returns-in_err-head c = let p = err_from_is_err_and c.from_residual.result c.from_residual.ensures.1 in let w = c.in_err-head.was in rw (p.1, p.2) (search (rules, whole, answers))

pub slots-requires-clause-sized : goal.slots-requires-clause-sized
slots-requires-clause-sized c = let w = c.in_ok-head.was in search (rules, whole)

pub returns-in_err-slots : goal.returns-in_err-slots
returns-in_err-slots c = let p = err_from_is_err_and c.from_residual-in_err-slots.result c.from_residual-in_err-slots.ensures.1 in let v = c.in_ok-head.was in let w = c.in_err-slots.was in rw (p.1, p.2) (search (rules, whole, answers))
