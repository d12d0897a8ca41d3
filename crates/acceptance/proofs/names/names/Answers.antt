-- `names`: the loop goes by the laws.
use Rattle.std.proofs.Common.{rules}
use Rattle.acceptance.specs.Naming.{names}
use Rattle.acceptance.proofs.names.names.Goals as goal

pub loop-s-init : goal.loop-s-init
loop-s-init g c = search (rules, names)

pub loop-s-preserved : goal.loop-s-preserved
loop-s-preserved g c = let w = c.in_ok-any.was in search (rules, names)

pub returns : goal.returns
returns g c = search (rules, names)
