-- `count_class`: each way out is a law.
use Prim.Native.Nat.{◌-◌}
use Rattle.search.specs.Count.{Counted}
use Rattle.classes.specs.Classes.{in_class}
use Rattle.classes.proofs.count_class.Given as goal

abbrev pub invariant-loop-s : goal.invariant-loop-s
invariant-loop-s l = Counted (in_class l.class l.img l.n) l.n l.s l.k
