-- After a new the store passes refusals 1 and 2 again.
use Rattle.reply.specs.declared.Refusal.{Refusal}
use Rattle.std.specs.Prelude.{ℕ, ◌≤◌, ◌≡◌, refl, List, ltb, Option, Some, None, Result, Ok, Err}
use Rattle.std.proofs.Common.{ltb-false}
use Rattle.reply.specs.declared.Refusal.TheVariants.{NoUid}
use Rattle.image.specs.Layout.{most_number}
use Rattle.image.specs.Name.{job_name}
use Rattle.transient.specs.declared.sizes.Sizes.{Sizes}
use Rattle.transient.specs.Layout.{note, next_uid_at}
use Rattle.transient.specs.Store.{table}
use Rattle.transient.specs.Calls.{Changed}
use Rattle.transient.specs.Requires.{Entered}
use Rattle.transient.specs.Again.{TableKept, table_kept}
use Rattle.table.specs.Find.{lookup, room}
use Rattle.table.specs.Laws.{room-below}
use Rattle.jobs.specs.Job.{Job}
use Rattle.jobs.specs.Laws.{declines-way}
use Rattle.jobs.specs.Again.{made_kept}
use Rattle.job_new.specs.New.{new_absent}
use Rattle.job_new.specs.Stages.{new_at, new_in, new-absent-is, new_looked, new_open}

module _ {wk tr : List ℕ} {z : Sizes} (y : Entered wk tr z) (e : ℕ) (j : Job) where
  abbrev Kept : Changed → Type 0
  Kept c = TableKept z (table wk tr) c.table

  absent-kept : Kept (new_absent z (table wk tr) e j)
  unfolding new_at
  absent-kept =
      rw (new-absent-is z (table wk tr) e j)
      (declines-way Kept (table wk tr) (ltb most_number (note next_uid_at tr)) NoUid _ (table_kept y)
      (λ u. go (ltb-false most_number (note next_uid_at tr) u) (room z (table wk tr) 2) refl))
    where
      go : note next_uid_at tr ≤ most_number → (g : Option ℕ) → room z (table wk tr) 2 ≡ g → Kept (new_in g z (table wk tr) e j)
      go u (Some s) q = made_kept y e s (job_name j.key) j.value (room-below z (table wk tr) 2 s y.last q) u
      go u None q = table_kept y

  looked-kept : (k : Result (Option ℕ) Refusal) → Kept (new_looked k z (table wk tr) e j)
  looked-kept (Err r) = table_kept y
  looked-kept (Ok (Some s)) = table_kept y
  looked-kept (Ok None) = absent-kept

  pub new-kept : Kept (new_open z (table wk tr) j e)
  unfolding new_open
  new-kept = looked-kept (lookup z (table wk tr) (job_name j.key) e)
