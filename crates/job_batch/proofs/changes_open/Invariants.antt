-- `changes_open`: the rest from here is the whole (`Batching`).
use Rattle.job_batch.specs.Exits.{Batching}
use Rattle.job_batch.proofs.changes_open.Given as goal

abbrev pub invariant-loop-k : goal.invariant-loop-k
invariant-loop-k l = Batching l.z l.e l.changes l.initial.working l.initial.transient l.k l.working l.transient
