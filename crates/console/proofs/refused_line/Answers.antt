-- `refused_line`: each way out is a law.
use borrow.Author.Rules.{rules}
use Rattle.console.specs.Exits.{laws}
use Rattle.console.proofs.refused_line.Goals as goal

pub returns : goal.returns
returns c = search (rules, laws)
