-- `link`: each need is a law.
use borrow.Author.Rules.{rules}
use Rattle.chains.specs.Exits.{laws}
use Rattle.chains.proofs.link.Goals as goal

pub bounds-l-b-2 : goal.bounds-l-b-2
bounds-l-b-2 c = search (rules, laws)
