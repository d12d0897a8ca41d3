-- `name_slot`: refused, or linked.
use Rattle.std.proofs.Common.{rules}
use Rattle.acceptance.specs.Naming.{namings}
use Rattle.acceptance.proofs.names.name_slot.Goals as goal

pub paired-twice-requires : goal.paired-twice-requires
paired-twice-requires c = search (rules, namings)
