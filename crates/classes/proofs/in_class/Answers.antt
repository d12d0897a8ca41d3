-- `in_class`: each way out is a law.
use borrow.Author.Rules.{rules}
use Rattle.classes.specs.Exits.{laws}
use Rattle.classes.proofs.in_class.Goals as goal

pub returns-in-Kept : goal.returns-in-Kept
returns-in-Kept c = search (rules, laws)
