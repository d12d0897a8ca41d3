use Rattle.reply.specs.Refusals.{ok-some}
-- `append_in_room`: each way out is a law.
use borrow.Author.Rules.{rules}
use Rattle.queue_append.specs.Exits.{laws}
use Rattle.queue_append.proofs.append_in_room.Goals as goal

pub append_at-requires : goal.append_at-requires
append_at-requires c = let w0 = ok-some _ _ c.ok_or.ensures.value c.in_ok-s.was in search (rules, laws)
