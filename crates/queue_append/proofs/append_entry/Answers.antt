-- `append_entry`: each way out is a law.
use borrow.Author.Rules.{rules}
use Rattle.queue_append.specs.Exits.{laws}
use Rattle.queue_append.proofs.append_entry.Goals as goal

pub returns : goal.returns
returns c = let w0 = c.in_ok-check.was in search (rules, laws)
