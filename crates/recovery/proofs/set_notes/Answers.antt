-- `set_notes`: each way out is a law.
use borrow.Author.Rules.{rules}
use Rattle.recovery.specs.Exits.{steps}
use Rattle.recovery.proofs.set_notes.Goals as goal

pub rebuild-requires : goal.rebuild-requires
rebuild-requires c = search (rules, steps)
