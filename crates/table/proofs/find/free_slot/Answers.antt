use borrow.Author.Rules.{rules}
use Rattle.table.specs.Exits.{finds}
use Rattle.table.proofs.find.free_slot.Goals as goal

pub loop-k-init : goal.loop-k-init
loop-k-init c = search (rules, finds)

pub free_at-requires : goal.free_at-requires
free_at-requires c = search (rules, finds)

pub loop-k-preserved : goal.loop-k-preserved
loop-k-preserved c = search (rules, finds)

pub returns-then-steps-k : goal.returns-then-steps-k
returns-then-steps-k c = search (rules, finds)

pub returns-then-free_at : goal.returns-then-free_at
returns-then-free_at c = search (rules, finds)
