use Rattle.reply.specs.Refusals.{ok-some}
-- `cover`: each way out is a law.
use borrow.Author.Rules.{rules}
use Rattle.job_delete.specs.Exits.{laws}
use Rattle.job_delete.proofs.cover.Goals as goal

pub fill_zeros-requires : goal.fill_zeros-requires
fill_zeros-requires c = let w0 = ok-some _ _ c.ok_or.ensures.value c.in_ok-f.was in search (rules, laws)

pub note_superseded-requires : goal.note_superseded-requires
note_superseded-requires c = let w0 = ok-some _ _ c.ok_or.ensures.value c.in_ok-f.was in search (rules, laws)

pub returns : goal.returns
returns c = let w0 = ok-some _ _ c.ok_or.ensures.value c.in_ok-f.was in search (rules, laws)
