-- `reclaim`: each way out is a law.
use borrow.Author.Rules.{rules}
use Rattle.step.specs.Exits.{lines, steps}
use Rattle.step.proofs.reclaim.Goals as goal

pub returns : goal.returns
returns c = search (rules, lines, steps)
