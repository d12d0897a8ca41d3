-- After a delete the store passes refusals 1 and 2 again.
use Rattle.reply.specs.declared.Refusal.{Refusal}
use Rattle.std.specs.Prelude.{ℕ, ◌<◌, ◌≡◌, true, false, List, Option, Some, None, Result, Ok, Err}
use Rattle.std.proofs.Math.Path.{refl}
use Rattle.std.proofs.Math.Logic.{⊎_elim}
use Rattle.std.proofs.Math.Dec.{eqb}
use Rattle.search.specs.Bools.{cases}
use Rattle.image.specs.Layout.{header}
use Rattle.image.specs.Name.{job_name}
use Rattle.transient.specs.declared.sizes.Sizes.{Sizes}
use Rattle.transient.specs.Store.{table}
use Rattle.transient.specs.Calls.{Changed}
use Rattle.transient.specs.Requires.{Entered}
use Rattle.transient.specs.Again.{TableKept, table_kept}
use Rattle.table.specs.Find.{lookup}
use Rattle.table.specs.Laws.{lookup-below}
use Rattle.jobs.specs.Again.{waiting_kept, freed-kept, header-kept, super-kept}
use Rattle.job_delete.specs.Delete.{delete_at}
use Rattle.job_delete.specs.Stages.{freed_at, turned, covered, delete-at-is, delete_looked, delete_open}

module _ {wk tr : List ℕ} {z : Sizes} (y : Entered wk tr z) (e key : ℕ) where
  abbrev Kept : Changed → Type 0
  Kept c = TableKept z (table wk tr) c.table

  at-kept : (s : ℕ) → s < z.n → Kept (delete_at z (table wk tr) e s key)
  unfolding freed_at turned covered
  at-kept s h =
      ⊎_elim
      (λ (a : eqb (header wk s).epoch e ≡ true).
      ⊎_elim
      (λ (b : eqb (header wk s).kind 1 ≡ true). rw (delete-at-is z (table wk tr) e s key, a, b) (header-kept y (freed-kept y e s _ h) s _))
      (λ (b : eqb (header wk s).kind 1 ≡ false). rw (delete-at-is z (table wk tr) e s key, a, b) (header-kept y (waiting_kept y e s h) s _))
      (cases (eqb (header wk s).kind 1)))
      (λ (a : eqb (header wk s).epoch e ≡ false). rw (delete-at-is z (table wk tr) e s key, a) (super-kept y 1 e s _ _ _))
      (cases (eqb (header wk s).epoch e))

  looked-kept : (k : Result (Option ℕ) Refusal) → lookup z (table wk tr) (job_name key) e ≡ k → Kept (delete_looked k z (table wk tr) e key)
  looked-kept (Err r) q = table_kept y
  looked-kept (Ok (Some s)) q = at-kept s (lookup-below z (table wk tr) (job_name key) e s q)
  looked-kept (Ok None) q = table_kept y

  pub delete-kept : Kept (delete_open z (table wk tr) key e)
  unfolding delete_open
  delete-kept = looked-kept (lookup z (table wk tr) (job_name key) e) refl
