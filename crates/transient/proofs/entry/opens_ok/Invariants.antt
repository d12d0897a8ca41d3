-- `opens_ok`: the open epochs passed are right (`Held`).
use Rattle.search.specs.Some.{Held}
use Rattle.transient.specs.Layout.{open_epoch}
use Rattle.transient.specs.Requires.{open_ok}
use Rattle.transient.proofs.entry.opens_ok.Given as goal

abbrev pub invariant-loop-thread : goal.invariant-loop-thread
invariant-loop-thread l = Held (λ k. open_ok l.c (open_epoch l.transient k)) l.t l.thread
