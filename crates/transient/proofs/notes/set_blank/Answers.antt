-- `set_blank`: cleared, then four stores, of which each keeps the length.
use Rattle.std.proofs.Common.{arith, length-set, rules}
use Rattle.transient.specs.Exits.{blank-set}
use Rattle.transient.proofs.notes.set_blank.Goals as goal

pub overflow_sub-last : goal.overflow_sub-last
overflow_sub-last c = search (rules, blank-set)

pub clear-requires : goal.clear-requires
clear-requires c = search (rules, blank-set)

pub bounds-transient-0 : goal.bounds-transient-0
bounds-transient-0 c = search (rules, blank-set)

pub bounds-transient-1 : goal.bounds-transient-1
bounds-transient-1 c = simp length-set (omega arith)

pub bounds-transient-2 : goal.bounds-transient-2
bounds-transient-2 c = simp length-set (omega arith)

pub bounds-transient-3 : goal.bounds-transient-3
bounds-transient-3 c = simp length-set (omega arith)

pub shape_of-transient : goal.shape_of-transient
shape_of-transient c = search (rules, blank-set)

pub returns : goal.returns
returns c = search (rules, blank-set)
