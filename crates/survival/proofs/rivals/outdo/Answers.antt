use borrow.Author.Rules.{rules}
use Rattle.survival.specs.Rivals.{outdoes}
use Rattle.survival.proofs.rivals.outdo.Goals as goal

pub loop-k-init : goal.loop-k-init
loop-k-init c = search (rules, outdoes)

pub loop-k-preserved-then-label-y : goal.loop-k-preserved-then-label-y
loop-k-preserved-then-label-y c = search (rules, outdoes)

pub loop-k-preserved : goal.loop-k-preserved
loop-k-preserved c = search (rules, outdoes)
