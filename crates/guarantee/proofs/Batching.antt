-- A batch keeps the invariant: each of its accepted changes does, as its own call.
use Prim.Native.Nat.{ℕ, zero, suc, ◌+◌, ◌/◌, ◌<◌}
use Rattle.std.specs.Prelude.{◌≡◌, cond, List, length, None, Some}
use Rattle.std.proofs.Math.Bool.{false}
use Rattle.std.proofs.Math.Dec.{eqb}
use borrow.Author.Tests.{eq-eqb, ne_eqb}
use Rattle.std.proofs.Common.{arith}
use Rattle.image.specs.Name.{job_name}
use Rattle.transient.specs.declared.sizes.Sizes.{Sizes}
use Rattle.transient.specs.Store.{Store, table_of, sizes_of, Outcome}
use Rattle.job_batch.specs.declared.Batch.{Batch}
use Rattle.job_batch.specs.Batch.{change_at, kind_of, job_of, change_job, changes_from, batch_jobs}
use Rattle.job_batch.specs.Ways.{kind-way, next_way, batch-way}
use Rattle.crash.specs.Reference.{Jobs}
use Rattle.guarantee.specs.Trace.{Plain, told_change, told_changes}
use Rattle.guarantee.proofs.Good.{Good}
use Rattle.guarantee.proofs.Changing.{sizes-is}
use Rattle.guarantee.proofs.Making.{new-good}
use Rattle.guarantee.proofs.Replacing.{set-good, delete-good}
use Rattle.reply.specs.Refusals.{Check}

module _ (sz : Sizes) (start : Jobs) (thread : ℕ) where
  -- what a change leaves, with what the reference map hears of it
  abbrev Heard : List ℕ → Plain → Outcome Check → Type 0
  Heard c p o = Good sz start o.store (told_change thread (job_name (job_of c).key) (cond (eqb (kind_of c) 3) None (Some (job_of c).value)) o.reply p)

  change-good : (c : List ℕ) {st : Store} {p : Plain} → Good sz start st p → Heard c p (change_job st thread c)
  unfolding change_job
  change-good c {st} {p} g =
      let j = job_of c in
      kind-way (Heard c p) (kind_of c) (λ k. rw (not-gone k (omega arith)) (new-good thread j g)) (λ k. rw (not-gone k (omega arith)) (set-good thread g j))
      (λ k. rw (eq-eqb (kind_of c) 3 k) (delete-good thread g (job_of c).key)) (λ k. g)
    where
      not-gone : {x : ℕ} → kind_of c ≡ x → x < 3 → eqb (kind_of c) 3 ≡ false
      not-gone k h = ne_eqb (kind_of c) 3 (λ q. omega (arith, k, q))

  module _ (list : List ℕ) (p : Plain) where
    abbrev Batched : Outcome Batch → Type 0
    Batched a = Good sz start a.store (told_changes sz thread list a.reply.accepted p)

    changes-good : (k more : ℕ) (st : Store) → Good sz start st (told_changes sz thread list k p) → Batched (changes_from sz thread list k more st)
    unfolding changes_from told_changes
    changes-good k zero st g = g
    changes-good k (suc more) st g =
        let x = change-good (change_at sz list k) g in
        next_way Batched sz thread list k more st (λ r e. rw e at x) (λ e. changes-good (suc k) more _ (rw e at x))

-- by the sizes of the store
module _ {sz : Sizes} {start : Jobs} (thread : ℕ) where
  pub batch-good : (list : List ℕ) {st : Store} {p : Plain} → Good sz start st p
      → Good sz start (batch_jobs st thread list).store (told_changes (sizes_of (table_of st)) thread list (batch_jobs st thread list).reply.accepted p)
  unfolding told_changes
  batch-good list {st} {p} g =
      let z = sizes_of (table_of st) in
      batch-way (λ a. Good sz start a.store (told_changes z thread list a.reply.accepted p)) st thread list (λ r. g)
      (rw (sizes-is g) (changes-good sz start thread list p 0 (length list / (sz.w + 1)) st g))
