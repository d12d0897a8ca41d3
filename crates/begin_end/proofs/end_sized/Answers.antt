-- `end_sized`: each way out is a law.
use borrow.Author.Rules.{rules}
use Rattle.begin_end.specs.Exits.{laws}
use Rattle.begin_end.proofs.end_sized.Goals as goal

pub returns : goal.returns
returns c = let w0 = c.in_ok-way_in.was in search (rules, laws)
