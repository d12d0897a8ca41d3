-- `take_sized`: each way out is a law.
use borrow.Author.Rules.{rules}
use Rattle.queue_take.specs.Exits.{laws}
use Rattle.queue_take.proofs.take_sized.Goals as goal

pub returns : goal.returns
returns c = let w0 = c.in_ok-e.was in search (rules, laws)
