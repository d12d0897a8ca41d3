-- `set_header`: four stores, of which each keeps the length.
use lib.ListN.{length-set}
use native.Mathlib.Omega.{arith}
use Rattle.image.proofs.header.set_header.Goals as goal

pub bounds-img-b-2 : goal.bounds-img-b-2
bounds-img-b-2 c = simp length-set (omega arith)

pub bounds-img-b-3 : goal.bounds-img-b-3
bounds-img-b-3 c = simp length-set (omega arith)

pub bounds-img-b-4 : goal.bounds-img-b-4
bounds-img-b-4 c = simp length-set (omega arith)
