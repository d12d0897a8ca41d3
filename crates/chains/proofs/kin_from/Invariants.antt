-- `kin_from`: a walk down the chain.
use Rattle.chains.specs.Walking.{Walking}
use Rattle.chains.proofs.kin_from.Given as goal

abbrev pub invariant-loop-k : goal.invariant-loop-k
invariant-loop-k l = Walking l.m l.i l.from l.x l.l l.k

abbrev pub decreases-loop-k : goal.decreases-loop-k
decreases-loop-k l = l.k
