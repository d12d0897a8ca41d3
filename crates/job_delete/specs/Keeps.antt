-- A refused delete changes nothing, and delete never stores into the persistent image.
use Rattle.reply.specs.declared.Refusal.{Refusal}
use Rattle.std.specs.Prelude.{ℕ, Option, Some, None, Result, Ok, Err}
use Rattle.reply.specs.declared.Refusal.TheVariants.{NoJob}
use Rattle.transient.specs.declared.sizes.Sizes.{Sizes}
use Rattle.transient.specs.Store.{Store, Table}
use Rattle.jobs.specs.Keeps.{Keeps, KeepsInside, refused-keeps, shapes, call-keeps}
use Rattle.job_delete.specs.Delete.{delete_at, delete_job}
use Rattle.job_delete.specs.Stages.{delete_looked, delete_open, delete_sized}

looked-keeps : (z : Sizes) (tb : Table) (e key : ℕ) (k : Result (Option ℕ) Refusal) → KeepsInside tb (delete_looked k z tb e key)
unfolding delete_at
looked-keeps z tb e key (Err r) = refused-keeps tb r
looked-keeps z tb e key (Ok (Some s)) = search shapes
looked-keeps z tb e key (Ok None) = refused-keeps tb NoJob

sized-keeps : (thread key : ℕ) (z : Sizes) (tb : Table) → KeepsInside tb (delete_sized thread key z tb)
unfolding delete_sized delete_open
sized-keeps thread key z tb = search (shapes, looked-keeps)

pub delete-keeps : (st : Store) (thread key : ℕ) → Keeps st (delete_job st thread key)
unfolding delete_job delete_sized delete_open
delete-keeps st thread key = call-keeps st (delete_sized thread key) (sized-keeps thread key)
