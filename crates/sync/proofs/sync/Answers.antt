-- `sync`: each way out is a law.
use Rattle.sync.specs.Exits.{sync-ready}
use Rattle.sync.proofs.sync.Goals as goal

pub sync_lines-requires : goal.sync_lines-requires
sync_lines-requires c = sync-ready _ _ _ c.check.ensures c.in_ok-check.was c.read_sizes-z.ensures
