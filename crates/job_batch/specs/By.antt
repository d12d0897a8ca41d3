-- `changes_from` and `batch_jobs` with the changes of a list made by other calls than `change_job`: a batch to compare with.
use Rattle.std.specs.Prelude.{ℕ, zero, suc, ◌+◌, ◌/◌, List, length, Ok, Err}
use Rattle.reply.specs.Refusals.{Check, by_check}
use Rattle.transient.specs.declared.sizes.Sizes.{Sizes}
use Rattle.transient.specs.Store.{Store, table_of, sizes_of, Outcome, after_check}
use Rattle.transient.specs.Entry.{entry_check}
use Rattle.jobs.specs.Way.{way_in}
use Rattle.job_batch.specs.declared.Batch.{Batch}
use Rattle.job_batch.specs.Batch.{change_at, bad_list, way_check}
use Rattle.job_batch.specs.Stages.{ended}

unfoldable pub changes_by : (Store → List ℕ → Outcome Check) → Sizes → List ℕ → ℕ → ℕ → Store → Outcome Batch
changes_by change z list k zero st = ended k (Ok tt) st
changes_by change z list k (suc more) st =
    let o = change st (change_at z list k) in
    by_check o.reply (λ r. ended k (Err r) o.store) (changes_by change z list (suc k) more o.store)

abbrev pub batch_by : (Store → List ℕ → Outcome Check) → Store → ℕ → List ℕ → Outcome Batch
batch_by change st thread list =
    let z = sizes_of (table_of st) in
    after_check (by_check (entry_check st) Err (way_check (way_in z st.transient thread (bad_list z list)))) (λ r. record { accepted = 0; ended = Err r }) st
    (changes_by change z list 0 (length list / (z.w + 1)) st)
