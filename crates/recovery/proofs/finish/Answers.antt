-- `finish`: each way out is a law.
use borrow.Author.Rules.{rules}
use Rattle.recovery.specs.Exits.{steps}
use Rattle.recovery.proofs.finish.Goals as goal

pub returns : goal.returns
returns c = search (rules, steps)
