-- `set_fresh`: cleared, then three stores, of which each keeps the length.
use lib.ListN.{length-set}
use native.Mathlib.Omega.{arith}
use Rattle.format.proofs.set_fresh.Goals as goal

pub bounds-img-1 : goal.bounds-img-1
bounds-img-1 c = simp length-set (omega arith)

pub bounds-img-2 : goal.bounds-img-2
bounds-img-2 c = simp length-set (omega arith)
