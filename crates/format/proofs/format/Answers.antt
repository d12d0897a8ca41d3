-- `format`: each way out is a law.
use borrow.Author.Rules.{rules}
use Rattle.format.specs.Exits.{laws}
use Rattle.format.proofs.format.Goals as goal

pub returns-then-format_fits : goal.returns-then-format_fits
returns-then-format_fits c = search (rules, laws)
