-- `flush_from`: each way out is a law.
use borrow.Author.Rules.{rules}
use Rattle.step.specs.Exits.{lines, steps}
use Rattle.step.proofs.flush_from.Goals as goal

pub copy_contents-requires : goal.copy_contents-requires
copy_contents-requires c = search (rules, lines, steps)

pub returns-in-Some : goal.returns-in-Some
returns-in-Some c = search (rules, lines, steps)
