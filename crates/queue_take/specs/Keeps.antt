-- A refused take changes nothing, and take never stores into the persistent image.
use Rattle.reply.specs.declared.Refusal.{Refusal}
use Rattle.std.specs.Prelude.{ℕ, Option, Some, None, Result, Ok, Err}
use Rattle.reply.specs.declared.Refusal.TheVariants.{QueueEmpty}
use Rattle.transient.specs.declared.sizes.Sizes.{Sizes}
use Rattle.transient.specs.Store.{Store, Table}
use Rattle.jobs.specs.Keeps.{Keeps, KeepsInside, refused-keeps, shapes, call-keeps}
use Rattle.job_delete.specs.Delete.{delete_at}
use Rattle.queue_take.specs.Take.{take_entry}
use Rattle.queue_take.specs.Stages.{take_looked, take_open, take_sized}

looked-keeps : (z : Sizes) (tb : Table) (e : ℕ) (k : Result (Option ℕ) Refusal) → KeepsInside tb (take_looked k z tb e)
unfolding delete_at
looked-keeps z tb e (Err r) = refused-keeps tb r
looked-keeps z tb e (Ok (Some s)) = search shapes
looked-keeps z tb e (Ok None) = refused-keeps tb QueueEmpty

sized-keeps : (thread : ℕ) (z : Sizes) (tb : Table) → KeepsInside tb (take_sized thread z tb)
unfolding take_sized take_open
sized-keeps thread z tb = search (shapes, looked-keeps)

pub take-keeps : (st : Store) (thread : ℕ) → Keeps st (take_entry st thread)
unfolding take_entry take_sized take_open
take-keeps st thread = call-keeps st (take_sized thread) (sized-keeps thread)
