-- `clear`: b of m heads are cleared.
use Rattle.chains.specs.Exits.{Clearing}
use Rattle.chains.proofs.clear.Given as goal

abbrev pub invariant-loop-b : goal.invariant-loop-b
invariant-loop-b l = Clearing l.m l.b l.l
