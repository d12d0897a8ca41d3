-- `update`: each way out is a law.
use borrow.Author.Rules.{rules}
use Rattle.job_set.specs.Exits.{laws}
use Rattle.job_set.proofs.update.Goals as goal

pub fill-requires : goal.fill-requires
fill-requires c = search (rules, laws)

pub note_superseded-requires : goal.note_superseded-requires
note_superseded-requires c = search (rules, laws)

pub returns-in-Some : goal.returns-in-Some
returns-in-Some c = search (rules, laws)
