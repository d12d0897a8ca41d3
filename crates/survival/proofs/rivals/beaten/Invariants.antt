-- `beaten`: a walk from place to place of the uid.
use Rattle.chains.specs.Walking.{Meeting}
use Rattle.chains.specs.Chains.{newer_in}
use Rattle.survival.proofs.rivals.beaten.Given as goal

abbrev pub invariant-loop-k : goal.invariant-loop-k
invariant-loop-k l = Meeting (newer_in l.l l.x l.y) l.m l.i l.x l.l l.k

abbrev pub decreases-loop-k : goal.decreases-loop-k
decreases-loop-k l = l.k
