use borrow.Author.Rules.{rules}
use Rattle.table.specs.KeyExits.{keys}
use Rattle.table.proofs.find.key_on.Goals as goal

pub loop-s-preserved : goal.loop-s-preserved
loop-s-preserved c = search (rules, keys)
