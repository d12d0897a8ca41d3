-- A refused set changes nothing, and set never stores into the persistent image.
use Rattle.reply.specs.declared.Refusal.{Refusal}
use Rattle.std.specs.Prelude.{ℕ, Option, Some, None, Result, Ok, Err}
use Rattle.reply.specs.declared.Refusal.TheVariants.{NoJob}
use Rattle.transient.specs.declared.sizes.Sizes.{Sizes}
use Rattle.transient.specs.Store.{Store, Table}
use Rattle.jobs.specs.Job.{Job}
use Rattle.jobs.specs.Keeps.{Keeps, KeepsInside, accepted-keeps, refused-keeps, shapes, call-keeps}
use Rattle.job_set.specs.Set.{set_at, set_job}
use Rattle.job_set.specs.Stages.{live-way, set_looked, set_opened, set_sized}

looked-keeps : (z : Sizes) (tb : Table) (e : ℕ) (j : Job) (k : Result (Option ℕ) Refusal) → KeepsInside tb (set_looked k z tb e j)
unfolding set_at
looked-keeps z tb e j (Err r) = refused-keeps tb r
looked-keeps z tb e j (Ok (Some s)) = live-way (KeepsInside tb) z tb e s j (λ p q. accepted-keeps tb _ _) (search shapes)
looked-keeps z tb e j (Ok None) = refused-keeps tb NoJob

sized-keeps : (thread : ℕ) (j : Job) (z : Sizes) (tb : Table) → KeepsInside tb (set_sized thread j z tb)
unfolding set_sized set_opened
sized-keeps thread j z tb = search (shapes, looked-keeps)

pub set_keeps : (st : Store) (thread : ℕ) (j : Job) → Keeps st (set_job st thread j)
unfolding set_job set_sized set_opened
set_keeps st thread j = call-keeps st (set_sized thread j) (sized-keeps thread j)
