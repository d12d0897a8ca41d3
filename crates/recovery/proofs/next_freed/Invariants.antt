-- `next_freed`: s of n slots are passed (`Freeing`).
use Rattle.recovery.specs.Exits.{Freeing}
use Prim.Native.Nat.{◌-◌}
use Rattle.recovery.proofs.next_freed.Given as goal

abbrev pub invariant-loop-s : goal.invariant-loop-s
invariant-loop-s l = Freeing l.img l.n l.s l.anti
