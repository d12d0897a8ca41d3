-- `push_survivors`: each way out is a law.
use Rattle.lister.specs.Requires.{Listing}
use Rattle.lister.proofs.push_survivors.Given as goal

abbrev pub invariant-loop-s : goal.invariant-loop-s
invariant-loop-s g l = Listing l.initial.out l.img l.n l.w l.s l.out
