use borrow.Author.Rules.{rules}
use Rattle.table.specs.Exits.{finds, looking-keyed}
use Rattle.table.proofs.find.look_up.Goals as goal

pub loop-s-init : goal.loop-s-init
loop-s-init c = search (rules, finds)

pub returns-then-newer_at : goal.returns-then-newer_at
returns-then-newer_at c = search (rules, finds)

pub key_next-s-requires : goal.key_next-s-requires
key_next-s-requires c = looking-keyed _ (search (rules, finds)) (search (rules, finds)) c.loop-s.invariant

pub loop-s-preserved : goal.loop-s-preserved
loop-s-preserved c = search (rules, finds)
