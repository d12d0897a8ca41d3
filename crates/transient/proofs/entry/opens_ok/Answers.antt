use Rattle.std.proofs.Common.{rules}
use Rattle.transient.specs.Exits.{laws, entries}
use Rattle.transient.proofs.entry.opens_ok.Goals as goal

pub returns : goal.returns
returns c = search (rules, laws, entries)
