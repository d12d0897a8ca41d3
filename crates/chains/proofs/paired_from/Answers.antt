use borrow.Author.Rules.{rules}
use Rattle.chains.specs.Exits.{laws, pairs}
use Rattle.chains.specs.Walking.{meetings}
use Rattle.chains.proofs.paired_from.Goals as goal

pub loop-k-init : goal.loop-k-init
loop-k-init c = search (rules, laws, pairs, meetings)

pub returns-then-label-y : goal.returns-then-label-y
returns-then-label-y c = search (rules, laws, pairs, meetings)

pub loop-k-preserved : goal.loop-k-preserved
loop-k-preserved c = search (rules, laws, pairs, meetings)

pub returns : goal.returns
returns c = search (rules, laws, pairs, meetings)
