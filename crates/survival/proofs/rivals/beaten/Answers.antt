use borrow.Author.Rules.{rules}
use Rattle.survival.specs.Rivals.{newer}
use Rattle.chains.specs.Walking.{meetings}
use Rattle.survival.proofs.rivals.beaten.Goals as goal

pub loop-k-init : goal.loop-k-init
loop-k-init c = search (rules, newer, meetings)

pub returns-then-y-label : goal.returns-then-y-label
returns-then-y-label c = search (rules, newer, meetings)

pub loop-k-preserved : goal.loop-k-preserved
loop-k-preserved c = search (rules, newer, meetings)

pub returns : goal.returns
returns c = search (rules, newer, meetings)
