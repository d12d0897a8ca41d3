-- `fill_zeros`: each way out is a law.
use borrow.Author.Rules.{rules}
use Rattle.table.specs.Exits.{fills}
use Rattle.table.proofs.fill.fill_zeros.Goals as goal

pub returns : goal.returns
returns c = search (rules, fills)
