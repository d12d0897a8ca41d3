-- `judge`: the loop goes by the laws.
use Rattle.std.proofs.Common.{rules}
use Rattle.acceptance.specs.Judging.{judgings}
use Rattle.acceptance.proofs.marks.judge.Goals as goal

pub loop-s-init : goal.loop-s-init
loop-s-init g c = search (rules, judgings)

pub loop-s-preserved : goal.loop-s-preserved
loop-s-preserved g c = let w = c.in_ok-twice.was in search (rules, judgings)

pub returns : goal.returns
returns g c = search (rules, judgings)
