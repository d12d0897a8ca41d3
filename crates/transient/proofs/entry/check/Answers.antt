-- `check`: each way out is a law.
use Rattle.std.proofs.Common.{rules}
use Rattle.transient.specs.Exits.{laws, entries}
use Rattle.transient.proofs.entry.check.Goals as goal

pub threads-t-requires : goal.threads-t-requires
threads-t-requires c = search (rules, laws, entries)
