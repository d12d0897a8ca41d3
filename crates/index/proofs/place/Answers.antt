use borrow.Author.Rules.{rules}
use Rattle.index.specs.Exits.{places}
use Rattle.index.proofs.place.Goals as goal

pub loop-t-init : goal.loop-t-init
loop-t-init c = search (rules, places)

pub loop-t-preserved : goal.loop-t-preserved
loop-t-preserved c = search (rules, places)
