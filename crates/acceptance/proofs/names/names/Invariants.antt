-- `names`: s of n slots are judged.
use Rattle.acceptance.specs.Naming.{Naming}
use Rattle.acceptance.proofs.names.names.Given as goal

abbrev pub invariant-loop-s : goal.invariant-loop-s
invariant-loop-s g l = Naming (g.W.Words.words l.img) l.n l.w l.m l.s l.l l.any
