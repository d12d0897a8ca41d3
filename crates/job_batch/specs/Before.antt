-- 02, No. 8, in a list: a batch that did not end by 13 has the same reply and effect as before the request.
use Prim.Native.Nat.{ℕ, zero, suc, ◌+◌, ◌/◌}
use Rattle.std.specs.Prelude.{◌≡◌, Bool, true, false, cond, ◌≢◌, List, length, eqb, Ok, Err}
use Rattle.std.proofs.Math.Path.{refl}
use Rattle.std.proofs.Common.{arith}
use Rattle.reply.specs.declared.Refusal.TheVariants.{BadArgument}
use Rattle.reply.specs.Refusals.{Check, by_check}
use Rattle.transient.specs.declared.sizes.Sizes.{Sizes}
use Rattle.transient.specs.Store.{Store, table_of, sizes_of, Outcome, after_check}
use Rattle.transient.specs.Entry.{entry_check}
use Rattle.transient.specs.Calls.{check_number}
use Rattle.jobs.specs.Way.{way_in}
use Rattle.job_new.specs.New.{new_job}
use Rattle.job_set.specs.Set.{set_job}
use Rattle.job_set.specs.Before.{set_before, set_widened}
use Rattle.job_delete.specs.Delete.{delete_job}
use Rattle.job_batch.specs.declared.Batch.{Batch}
use Rattle.job_batch.specs.Batch.{change_at, kind_of, job_of, change_job, changes_from, bad_list, way_check, batch_jobs}
use Rattle.job_batch.specs.Stages.{by_kind, ended}
use Rattle.job_batch.specs.By.{changes_by, batch_by}

-- `change_job`, `changes_from` and `batch_jobs` as they were
abbrev pub change_before : Store → ℕ → List ℕ → Outcome Check
change_before st thread c =
    by_kind (kind_of c) (new_job st thread (job_of c)) (set_before st thread (job_of c)) (delete_job st thread (job_of c).key) (record { reply = Err BadArgument; store = st })

abbrev pub batch_before : Store → ℕ → List ℕ → Outcome Batch
batch_before st thread list = batch_by (λ s c. change_before s thread c) st thread list

-- ---- a change, the changes from one on, and the whole call
change-kept : (st : Store) (thread : ℕ) (c : List ℕ) → check_number (change_before st thread c).reply ≢ 13 → change_job st thread c ≡ change_before st thread c
unfolding change_job
change-kept st thread c = go (eqb (kind_of c) 1) (eqb (kind_of c) 2) _ _
  where
    go : (x y : Bool) (new rest : Outcome Check) → check_number (cond x new (cond y (set_before st thread (job_of c)) rest)).reply ≢ 13
        → cond x new (cond y (set_job st thread (job_of c)) rest) ≡ cond x new (cond y (set_before st thread (job_of c)) rest)
    go true y new rest h = refl
    go false true new rest h = (set_widened st thread (job_of c)).kept h
    go false false new rest h = refl

module _ (z : Sizes) (thread : ℕ) (list : List ℕ) where
  abbrev before : ℕ → ℕ → Store → Outcome Batch
  before = changes_by (λ s c. change_before s thread c) z list

  -- the first change, and those that follow an accepted one
  next-kept : (k more : ℕ) (st : Store)
      → (let o = change_before st thread (change_at z list k) in
      (check_number (before (suc k) more o.store).reply.ended ≢ 13 → changes_from z thread list (suc k) more o.store ≡ before (suc k) more o.store)
      → check_number (before k (suc more) st).reply.ended ≢ 13 → changes_from z thread list k (suc more) st ≡ before k (suc more) st)
  unfolding changes_from changes_by
  next-kept k more st rest = go o.reply refl
    where
      o : Outcome Check
      o = change_before st thread (change_at z list k)

      from : Check → Outcome Batch → Outcome Batch
      from r next = by_check r (λ q. ended k (Err q) o.store) next

      go : (r : Check) → o.reply ≡ r → check_number (from r (before (suc k) more o.store)).reply.ended ≢ 13
          → changes_from z thread list k (suc more) st ≡ from r (before (suc k) more o.store)
      go (Err q) e d = rw (change-kept st thread (change_at z list k) (rw e d), e)
      go (Ok _) e d = rw (change-kept st thread (change_at z list k) (rw e (λ q. omega arith)), e) (rest d)

  changes-kept : (k more : ℕ) (st : Store) → check_number (before k more st).reply.ended ≢ 13 → changes_from z thread list k more st ≡ before k more st
  unfolding changes_from changes_by
  changes-kept k zero st h = refl
  changes-kept k (suc more) st h = next-kept k more st (changes-kept (suc k) more _) h

pub batch-kept : (st : Store) (thread : ℕ) (list : List ℕ) → check_number (batch_before st thread list).reply.ended ≢ 13
    → batch_jobs st thread list ≡ batch_before st thread list
unfolding batch_jobs
batch-kept st thread list = go (by_check (entry_check st) Err (way_check (way_in z st.transient thread (bad_list z list))))
  where
    z : Sizes
    z = sizes_of (table_of st)

    all : ℕ
    all = length list / (z.w + 1)

    refusing : Check → Outcome Batch → Outcome Batch
    refusing k next = after_check k (λ r. record { accepted = 0; ended = Err r }) st next

    go : (k : Check) → check_number (refusing k (before z thread list 0 all st)).reply.ended ≢ 13
        → refusing k (changes_from z thread list 0 all st) ≡ refusing k (before z thread list 0 all st)
    go (Err r) h = refl
    go (Ok _) h = changes-kept z thread list 0 all st h
