-- A refused new changes nothing, and new never stores into the persistent image.
use Rattle.reply.specs.declared.Refusal.{Refusal}
use Rattle.std.specs.Prelude.{ℕ, Option, Some, None, Result, Ok, Err}
use Rattle.reply.specs.declared.Refusal.TheVariants.{JobExists, Full}
use Rattle.transient.specs.declared.sizes.Sizes.{Sizes}
use Rattle.transient.specs.Store.{Store, Table}
use Rattle.jobs.specs.Job.{Job}
use Rattle.jobs.specs.Keeps.{Keeps, KeepsInside, accepted-keeps, refused-keeps, shapes, call-keeps}
use Rattle.job_new.specs.New.{new_absent, new_job}
use Rattle.job_new.specs.Stages.{new_at, new_in, new_looked, new_open, new_sized}

module _ (z : Sizes) (tb : Table) (e : ℕ) (j : Job) where
  in-keeps : (g : Option ℕ) → KeepsInside tb (new_in g z tb e j)
  unfolding new_at
  in-keeps (Some s) = accepted-keeps tb _ _
  in-keeps None = refused-keeps tb Full

  looked-keeps : (k : Result (Option ℕ) Refusal) → KeepsInside tb (new_looked k z tb e j)
  unfolding new_absent new_at
  looked-keeps (Err r) = refused-keeps tb r
  looked-keeps (Ok (Some s)) = refused-keeps tb JobExists
  looked-keeps (Ok None) = search (shapes, in-keeps)

sized-keeps : (thread : ℕ) (j : Job) (z : Sizes) (tb : Table) → KeepsInside tb (new_sized thread j z tb)
unfolding new_sized new_open
sized-keeps thread j z tb = search (shapes, looked-keeps)

pub new-keeps : (st : Store) (thread : ℕ) (j : Job) → Keeps st (new_job st thread j)
unfolding new_job new_sized new_open
new-keeps st thread j = call-keeps st (new_sized thread j) (sized-keeps thread j)
