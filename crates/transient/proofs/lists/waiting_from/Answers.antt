use Rattle.std.proofs.Common.{rules}
use Rattle.transient.specs.ListExits.{walks}
use Rattle.transient.proofs.lists.waiting_from.Goals as goal

pub loop-s-preserved-then-x-eq0 : goal.loop-s-preserved-then-x-eq0
loop-s-preserved-then-x-eq0 c = search (rules, walks)
