-- `judge_slot`: free, filled, or refused.
use Rattle.std.proofs.Common.{rules}
use Rattle.acceptance.specs.Judging.{judgements}
use Rattle.acceptance.proofs.marks.judge_slot.Goals as goal

pub judge_filled-requires : goal.judge_filled-requires
judge_filled-requires c = search (rules, judgements)

pub returns-then-has_zero : goal.returns-then-has_zero
returns-then-has_zero c = search (rules, judgements)

pub returns : goal.returns
returns c = search (rules, judgements)
