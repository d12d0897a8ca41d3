-- `paired_from`: a walk from place to place of the number.
use Rattle.chains.specs.Walking.{Meeting}
use Rattle.chains.specs.Chains.{pair_in}
use Rattle.chains.proofs.paired_from.Given as goal

abbrev pub invariant-loop-k : goal.invariant-loop-k
invariant-loop-k l = Meeting (pair_in l.l l.x l.y) l.m l.i l.x l.l l.k

abbrev pub decreases-loop-k : goal.decreases-loop-k
decreases-loop-k l = l.k
