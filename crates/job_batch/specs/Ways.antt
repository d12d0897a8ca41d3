-- What holds of every way through a change's kind; and "Change calls never store into the lasting image", nor does a batch of them.
use Rattle.std.specs.Prelude.{ℕ, zero, suc, ◌+◌, ◌/◌, ◌≡◌, refl, Bool, true, false, cond, ◌≢◌, List, length, eqb, Ok, Err}
use Rattle.std.proofs.Common.{◌∙◌, eqb-true}
use Rattle.std.proofs.lemmas.Bool.{eqb-false}
use Rattle.reply.specs.declared.Refusal.{Refusal}
use Rattle.reply.specs.Refusals.{Check, by_check}
use Rattle.transient.specs.declared.sizes.Sizes.{Sizes}
use Rattle.transient.specs.Store.{Store, table_of, sizes_of, Outcome, after_check}
use Rattle.transient.specs.Entry.{entry_check}
use Rattle.transient.specs.Passed.{on-persistent}
use Rattle.jobs.specs.Job.{Job}
use Rattle.jobs.specs.Way.{way_in}
use Rattle.job_new.specs.New.{new_job}
use Rattle.job_new.specs.Stages.{new_open, new_sized}
use Rattle.job_set.specs.Set.{set_job}
use Rattle.job_set.specs.Stages.{set_opened, set_sized}
use Rattle.job_delete.specs.Delete.{delete_job}
use Rattle.job_delete.specs.Stages.{delete_open, delete_sized}
use Rattle.job_batch.specs.declared.Batch.{Batch}
use Rattle.job_batch.specs.Batch.{change_at, kind_of, job_of, change_job, changes_from, bad_list, way_check, batch_jobs}
use Rattle.job_batch.specs.Stages.{by_kind, ended}

pub kind-way : {A : Type 0} (P : A → Type 0) (kind : ℕ) {a b c d : A} → (kind ≡ 1 → P a) → (kind ≡ 2 → P b) → (kind ≡ 3 → P c) → (kind ≢ 3 → P d)
    → P (by_kind kind a b c d)
kind-way P kind {a} {b} {c} {d} p q r s = go (eqb kind 1) (eqb kind 2) (eqb kind 3) refl refl refl
  where
    go : (x y z : Bool) → eqb kind 1 ≡ x → eqb kind 2 ≡ y → eqb kind 3 ≡ z → P (cond x a (cond y b (cond z c d)))
    go true y z e f g = p (eqb-true kind 1 e)
    go false true z e f g = q (eqb-true kind 2 f)
    go false false true e f g = r (eqb-true kind 3 g)
    go false false false e f g = s (eqb-false kind 3 g)

-- ---- the persistent image stays
change-persistent : (st : Store) (thread : ℕ) (c : List ℕ) → (change_job st thread c).store.persistent ≡ st.persistent
unfolding change_job new_job new_sized new_open set_job set_sized set_opened delete_job delete_sized delete_open
change-persistent st thread c =
    kind-way (λ (o : Outcome Check). o.store.persistent ≡ st.persistent) (kind_of c) (λ q. on-persistent st (new_sized thread j)) (λ q. on-persistent st (set_sized thread j))
    (λ q. on-persistent st (delete_sized thread (job_of c).key)) (λ q. refl)
  where
    j : Job
    j = job_of c

-- what holds where a change declines, and of the rest where it is accepted, holds from that change on
pub next_way : (P : Outcome Batch → Type 0) (z : Sizes) (thread : ℕ) (list : List ℕ) (k more : ℕ) (st : Store)
    → (let o = change_job st thread (change_at z list k) in
    ((r : Refusal) → o.reply ≡ Err r → P (ended k (Err r) o.store)) → (o.reply ≡ Ok tt → P (changes_from z thread list (suc k) more o.store))
    → P (changes_from z thread list k (suc more) st))
unfolding changes_from
next_way P z thread list k more st a b = go o.reply refl
  where
    o : Outcome Check
    o = change_job st thread (change_at z list k)

    go : (r : Check) → o.reply ≡ r → P (by_check r (λ q. ended k (Err q) o.store) (changes_from z thread list (suc k) more o.store))
    go (Err r) e = a r e
    go (Ok _) e = b e

changes-persistent : (z : Sizes) (thread : ℕ) (list : List ℕ) (k more : ℕ) (st : Store) → (changes_from z thread list k more st).store.persistent ≡ st.persistent
unfolding changes_from
changes-persistent z thread list k zero st = refl
changes-persistent z thread list k (suc more) st =
    let same = change-persistent st thread (change_at z list k) in
    next_way (λ a. a.store.persistent ≡ st.persistent) z thread list k more st (λ r e. same) (λ e. changes-persistent z thread list (suc k) more _ ∙ same)

-- what holds of a refusal with none accepted, and of the changes, holds of the whole call
pub batch-way : (P : Outcome Batch → Type 0) (st : Store) (thread : ℕ) (list : List ℕ) → ((r : Refusal) → P (ended 0 (Err r) st))
    → (let z = sizes_of (table_of st) in P (changes_from z thread list 0 (length list / (z.w + 1)) st)) → P (batch_jobs st thread list)
unfolding batch_jobs
batch-way P st thread list a b = go (by_check (entry_check st) Err (way_check (way_in z st.transient thread (bad_list z list))))
  where
    z : Sizes
    z = sizes_of (table_of st)

    go : (k : Check) → P (after_check k (λ r. record { accepted = 0; ended = Err r }) st (changes_from z thread list 0 (length list / (z.w + 1)) st))
    go (Err r) = a r
    go (Ok _) = b

pub batch-persistent : (st : Store) (thread : ℕ) (list : List ℕ) → (batch_jobs st thread list).store.persistent ≡ st.persistent
batch-persistent st thread list =
    batch-way (λ o. o.store.persistent ≡ st.persistent) st thread list (λ r. refl) (changes-persistent (sizes_of (table_of st)) thread list 0 _ st)
