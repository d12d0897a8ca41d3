use borrow.Author.Rules.{rules}
use Rattle.step.specs.DueExits.{walks}
use Rattle.step.proofs.due.due_from.Goals as goal

pub loop-s-preserved-then-group_stays : goal.loop-s-preserved-then-group_stays
loop-s-preserved-then-group_stays c = search (rules, walks)
