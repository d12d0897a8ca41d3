-- After a set the store passes refusals 1 and 2 again.
use Rattle.reply.specs.declared.Refusal.{Refusal}
use Rattle.std.specs.Prelude.{ℕ, ◌<◌, ◌≡◌, true, false, List, Option, Some, None, Result, Ok, Err}
use Rattle.std.proofs.Math.Path.{refl}
use Rattle.std.proofs.Math.Logic.{⊎_elim}
use Rattle.std.proofs.Math.Dec.{eqb}
use Rattle.search.specs.Bools.{cases}
use Rattle.image.specs.Layout.{header}
use Rattle.image.specs.Name.{job_name}
use Rattle.transient.specs.declared.sizes.Sizes.{Sizes}
use Rattle.transient.specs.Store.{table}
use Rattle.transient.specs.Calls.{Changed}
use Rattle.transient.specs.Requires.{Entered}
use Rattle.transient.specs.Again.{TableKept, table_kept}
use Rattle.table.specs.Find.{lookup}
use Rattle.table.specs.Laws.{lookup-below}
use Rattle.jobs.specs.Job.{Job}
use Rattle.jobs.specs.Again.{waiting_kept, value-kept, super-kept}
use Rattle.job_set.specs.Set.{set_at, set_live}
use Rattle.job_set.specs.Stages.{rewritten, updated, set-at-is, live-way, set_looked, set_opened}

module _ {wk tr : List ℕ} {z : Sizes} (y : Entered wk tr z) (e : ℕ) (j : Job) where
  abbrev Kept : Changed → Type 0
  Kept c = TableKept z (table wk tr) c.table

  at-kept : (s : ℕ) → s < z.n → Kept (set_at z (table wk tr) e s j)
  unfolding rewritten updated
  at-kept s h =
      ⊎_elim
      (λ (a : eqb (header wk s).epoch e ≡ true). rw (set-at-is z (table wk tr) e s j, a) (value-kept y (waiting_kept y e s h) s j.value))
      (λ (a : eqb (header wk s).epoch e ≡ false). rw (set-at-is z (table wk tr) e s j, a) (super-kept y 2 e s _ _ _))
      (cases (eqb (header wk s).epoch e))

  -- the same value again leaves all as it was
  live-kept : (s : ℕ) → s < z.n → Kept (set_live z (table wk tr) e s j)
  live-kept s h = live-way Kept z (table wk tr) e s j (λ p q. table_kept y) (at-kept s h)

  looked-kept : (k : Result (Option ℕ) Refusal) → lookup z (table wk tr) (job_name j.key) e ≡ k → Kept (set_looked k z (table wk tr) e j)
  looked-kept (Err r) q = table_kept y
  looked-kept (Ok (Some s)) q = live-kept s (lookup-below z (table wk tr) (job_name j.key) e s q)
  looked-kept (Ok None) q = table_kept y

  pub set-kept : Kept (set_opened z (table wk tr) j e)
  unfolding set_opened
  set-kept = looked-kept (lookup z (table wk tr) (job_name j.key) e) refl
