-- `outdo`: a walk from place to place of the uid, which clears flags.
use Rattle.survival.specs.Rivals.{Outdoing}
use Rattle.survival.proofs.rivals.outdo.Given as goal

abbrev pub invariant-loop-k : goal.invariant-loop-k
invariant-loop-k l = Outdoing l.m l.i l.x l.y l.l l.initial.flags l.k l.flags

abbrev pub decreases-loop-k : goal.decreases-loop-k
decreases-loop-k l = l.k
