use borrow.Author.Rules.{rules}
use Rattle.table.specs.Exits.{finds}
use Rattle.table.proofs.find.find_live.Goals as goal

pub loop-s-init : goal.loop-s-init
loop-s-init c = search (rules, finds)

pub returns-then-live_at : goal.returns-then-live_at
returns-then-live_at c = search (rules, finds)

pub loop-s-preserved : goal.loop-s-preserved
loop-s-preserved c = search (rules, finds)
