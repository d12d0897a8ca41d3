-- `job_count`: the loop goes by the laws of a count.
use Rattle.std.proofs.Common.{rules}
use Rattle.search.specs.Count.{loops as counts}
use Rattle.acceptance.specs.InPlace.{answers}
use Rattle.acceptance.proofs.questions.job_count.Goals as goal
use Rattle.acceptance.proofs.questions.job_count.Goals.{then-job_at, else-job_at}

pub loop-s-preserved : goal.loop-s-preserved
loop-s-preserved c =
    elim c.if-job_at.branch [ then-job_at w ↦ search (rules, answers, counts) | else-job_at w ↦ search (rules, answers, counts) ]

pub loop-s-init : goal.loop-s-init
loop-s-init c = search (rules, answers, counts)

pub returns : goal.returns
returns c = search (rules, answers, counts)
