-- `due_in`: a search from p on (`From`).
use Rattle.search.specs.From.{From}
use Rattle.step.specs.Step.{due}
use Rattle.transient.specs.Store.{table}
use Prim.Native.Nat.{◌-◌}
use Rattle.step.proofs.due.due_in.Given as goal

abbrev pub invariant-loop-s : goal.invariant-loop-s
invariant-loop-s l = From (due l.z (table l.working l.transient) l.c) l.to l.p l.s
