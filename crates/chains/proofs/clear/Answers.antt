use borrow.Author.Rules.{rules}
use Rattle.chains.specs.Exits.{laws}
use Rattle.chains.proofs.clear.Goals as goal

pub loop-b-preserved : goal.loop-b-preserved
loop-b-preserved c = search (rules, laws)
