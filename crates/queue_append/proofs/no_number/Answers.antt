-- `no_number`: each way out is a law.
use borrow.Author.Rules.{rules}
use Rattle.queue_append.specs.Exits.{laws}
use Rattle.queue_append.proofs.no_number.Goals as goal

pub returns : goal.returns
returns c = search (rules, laws)
