-- `next_numbers`: s of n slots are passed (`Numbering`).
use Rattle.recovery.specs.Exits.{Numbering}
use Prim.Native.Nat.{◌-◌}
use Rattle.recovery.proofs.next_numbers.Given as goal

abbrev pub invariant-loop-s : goal.invariant-loop-s
invariant-loop-s l = Numbering l.img l.n l.w l.s l.uid l.order
