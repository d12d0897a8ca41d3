-- `key_first`: each need is a law.
use borrow.Author.Rules.{rules}
use Rattle.table.specs.KeyExits.{keys}
use Rattle.table.proofs.find.key_first.Goals as goal

pub key_on-requires : goal.key_on-requires
key_on-requires c = search (rules, keys)
