-- `survivor_count`: the loop has counted s of n flags.
use Rattle.search.specs.Count.{Counted}
use Rattle.survival.specs.Survivors.{survivor}
use Rattle.survival.proofs.survivor_count.Given as goal

abbrev pub invariant-loop-s : goal.invariant-loop-s
invariant-loop-s l = Counted (survivor l.img l.n) l.n l.s l.k
