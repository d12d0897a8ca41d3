-- `place_of`: each need is a law.
use borrow.Author.Rules.{rules}
use Rattle.index.specs.Exits.{joins}
use Rattle.index.proofs.place_of.Goals as goal

pub place-requires : goal.place-requires
place-requires c = search (rules, joins)
