use Rattle.reply.specs.Refusals.{ok-some}
-- `new_in_room`: each way out is a law.
use borrow.Author.Rules.{rules}
use Rattle.job_new.specs.Exits.{laws}
use Rattle.job_new.proofs.new_in_room.Goals as goal

pub new_at-requires : goal.new_at-requires
new_at-requires c = let w0 = ok-some _ _ c.ok_or.ensures.value c.in_ok-s.was in search (rules, laws)
