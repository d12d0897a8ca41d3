-- `judge_filled`: kept, or too new.
use Rattle.std.proofs.Common.{rules}
use Rattle.acceptance.specs.Judging.{judgements}
use Rattle.acceptance.proofs.marks.judge_filled.Goals as goal

pub returns-then-h-c : goal.returns-then-h-c
returns-then-h-c c = search (rules, judgements)

pub returns : goal.returns
returns c = search (rules, judgements)
