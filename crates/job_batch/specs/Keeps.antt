-- 02, No. 5: "The call as a whole counts as declining only when it refuses with none accepted": then nothing is changed.
use Rattle.std.specs.Prelude.{ℕ, zero, suc, ◌≤◌, ◌≡◌, refl, List, Err}
use Rattle.std.proofs.Common.{arith}
use Rattle.reply.specs.declared.Refusal.{Refusal}
use Rattle.transient.specs.declared.sizes.Sizes.{Sizes}
use Rattle.transient.specs.Store.{Store, table_of, sizes_of, Outcome}
use Rattle.jobs.specs.Keeps.{Keeps}
use Rattle.job_new.specs.Keeps.{new-keeps}
use Rattle.job_set.specs.Keeps.{set_keeps}
use Rattle.job_delete.specs.Keeps.{delete-keeps}
use Rattle.job_batch.specs.declared.Batch.{Batch}
use Rattle.job_batch.specs.Batch.{change_at, kind_of, job_of, change_job, changes_from, batch_jobs}
use Rattle.job_batch.specs.Stages.{ended}
use Rattle.job_batch.specs.Ways.{kind-way, next_way, batch-way}

pub change-keeps : (st : Store) (thread : ℕ) (c : List ℕ) → Keeps st (change_job st thread c)
unfolding change_job
change-keeps st thread c =
    kind-way (Keeps st) (kind_of c) (λ q. new-keeps st thread (job_of c)) (λ q. set_keeps st thread (job_of c))
    (λ q. delete-keeps st thread (job_of c).key) (λ q. record { when-refused = λ r e. refl; persistent = refl })

-- of what a batch leaves: k were accepted before
pub record BatchKeeps (k : ℕ) (st : Store) (a : Outcome Batch) : Type 0 where
  pub accepted-lo : k ≤ a.reply.accepted
  pub when-refused : (r : Refusal) → a.reply.accepted ≡ k → a.reply.ended ≡ Err r → a.store ≡ st

changes-keep : (z : Sizes) (thread : ℕ) (list : List ℕ) (k more : ℕ) (st : Store) → BatchKeeps k st (changes_from z thread list k more st)
unfolding changes_from
changes-keep z thread list k zero st = record { accepted-lo = omega arith; when-refused = λ r e q. refl }
changes-keep z thread list k (suc more) st =
    let rest = changes-keep z thread list (suc k) more (change_job st thread (change_at z list k)).store in
    next_way (BatchKeeps k st) z thread list k more st
    (λ q e. record { accepted-lo = omega arith; when-refused = λ r i j. (change-keeps st thread (change_at z list k)).when-refused q e })
    (λ e. record { accepted-lo = omega (arith, rest.accepted-lo); when-refused = λ r i j. absurd (omega (arith, rest.accepted-lo, i)) })

pub batch-keeps : (st : Store) (thread : ℕ) (list : List ℕ) → BatchKeeps 0 st (batch_jobs st thread list)
batch-keeps st thread list =
    batch-way (BatchKeeps 0 st) st thread list (λ q. record { accepted-lo = omega arith; when-refused = λ r e i. refl })
    (changes-keep (sizes_of (table_of st)) thread list 0 _ st)
