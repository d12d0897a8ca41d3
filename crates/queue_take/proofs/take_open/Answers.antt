use Rattle.reply.specs.Refusals.{ok-some}
-- `take_open`: each way out is a law.
use borrow.Author.Rules.{rules}
use Rattle.queue_take.specs.Exits.{laws}
use Rattle.queue_take.proofs.take_open.Goals as goal

pub returns : goal.returns
returns c = let w0 = c.in_ok-look_up_front.was in let w1 = ok-some _ _ c.ok_or.ensures.value c.in_ok-s.was in let v1 = rw w1 at w0 in search (rules, laws)
