-- `job_count`: the loop has counted s of n slots.
use Rattle.search.specs.Count.{Counted}
use Rattle.image.specs.Layout.{jobs_board}
use Rattle.image.specs.Bytes.{words_of}
use Rattle.survival.specs.Survivors.{survives_on}
use Rattle.acceptance.proofs.questions.job_count.Given as goal

abbrev pub invariant-loop-s : goal.invariant-loop-s
invariant-loop-s l = Counted (survives_on (words_of l.bytes) l.n jobs_board) l.n l.s l.k
