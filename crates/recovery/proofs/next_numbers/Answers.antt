use borrow.Author.Rules.{rules}
use Rattle.recovery.specs.Exits.{steps}
use Rattle.recovery.proofs.next_numbers.Goals as goal

pub loop-s-init : goal.loop-s-init
loop-s-init c = search (rules, steps)

pub loop-s-preserved : goal.loop-s-preserved
loop-s-preserved c = search (rules, steps)
