-- `judge`: s of n slots are judged.
use Rattle.acceptance.specs.Judging.{Judging}
use Rattle.acceptance.proofs.marks.judge.Given as goal

abbrev pub invariant-loop-s : goal.invariant-loop-s
invariant-loop-s g l = Judging (g.W.Words.words l.img) l.n l.c l.m l.s l.l l.flags l.twice
