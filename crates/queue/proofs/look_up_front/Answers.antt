use borrow.Author.Rules.{rules}
use Rattle.queue.specs.Exits.{walks}
use Rattle.queue.proofs.look_up_front.Goals as goal

pub loop-s-init : goal.loop-s-init
loop-s-init c = search (rules, walks)

pub newer_at-requires : goal.newer_at-requires
newer_at-requires c = search (rules, walks)

pub returns-then-newer_at : goal.returns-then-newer_at
returns-then-newer_at c = search (rules, walks)

pub best_at-requires : goal.best_at-requires
best_at-requires c = search (rules, walks)

pub overflow_add-from : goal.overflow_add-from
overflow_add-from c = search (rules, walks)

pub loop-s-smaller : goal.loop-s-smaller
loop-s-smaller c = search (rules, walks)

pub loop-s-preserved : goal.loop-s-preserved
loop-s-preserved c = search (rules, walks)

pub returns : goal.returns
returns c = search (rules, walks)
