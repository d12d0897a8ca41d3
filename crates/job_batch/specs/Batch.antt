-- 02, No. 5: "A call should accept a list of up to 64 changes (new, set or delete) within the caller's open operation."
use Rattle.std.specs.Prelude.{ℕ, zero, suc, ◌+◌, ◌*◌, ◌/◌, ◌%◌, Bool, not, ◌||◌, cond, List, length, get_or, take, drop, ltb, eqb, Result, Ok, Err}
use Rattle.reply.specs.declared.Refusal.TheVariants.{BadArgument}
use Rattle.reply.specs.Refusals.{Check, by_check}
use Rattle.transient.specs.declared.sizes.Sizes.{Sizes}
use Rattle.transient.specs.Store.{Store, table_of, sizes_of, Outcome, after_check}
use Rattle.transient.specs.Entry.{entry_check}
use Rattle.transient.specs.Calls.{check_number}
use Rattle.jobs.specs.Job.{Job, job}
use Rattle.jobs.specs.Way.{way_in}
use Rattle.job_new.specs.New.{new_job}
use Rattle.job_set.specs.Set.{set_job}
use Rattle.job_delete.specs.Delete.{delete_job}
use Rattle.job_batch.specs.declared.Batch.{Batch}
use Rattle.reply.specs.declared.Refusal.{Refusal}

-- "Each change is W + 1 words": change number k of a list
abbrev pub change_at : Sizes → List ℕ → ℕ → List ℕ
change_at z list k = take (z.w + 1) (drop ((z.w + 1) * k) list)

-- "kind (1 new, 2 set, 3 delete), key and V value words, which delete ignores"
abbrev pub kind_of : List ℕ → ℕ
kind_of c = get_or c 0 0

abbrev pub job_of : List ℕ → Job
job_of c = job (get_or c 1 0) (drop 2 c)

-- "the same calls"; "an unknown kind of change gives 8 in its turn"
unfoldable pub change_job : Store → ℕ → List ℕ → Outcome Check
change_job st thread c =
    cond (eqb (kind_of c) 1) (new_job st thread (job_of c))
    (cond (eqb (kind_of c) 2) (set_job st thread (job_of c))
    (cond (eqb (kind_of c) 3) (delete_job st thread (job_of c).key) (record { reply = Err BadArgument; store = st })))

-- "made one by one up to the first that declines. .. It returns how many were accepted and that refusal, if there was one.": k have been
-- accepted, and so many are to come
unfoldable pub changes_from : Sizes → ℕ → List ℕ → ℕ → ℕ → Store → Outcome Batch
changes_from z thread list k zero st = record { reply = record { accepted = k; ended = Ok tt }; store = st }
changes_from z thread list k (suc more) st =
    let o = change_job st thread (change_at z list k) in
    by_check o.reply (λ r. record { reply = record { accepted = k; ended = Err r }; store = o.store }) (changes_from z thread list (suc k) more o.store)

-- 8 "for a list longer than 64 or not of whole changes"
unfoldable pub bad_list : Sizes → List ℕ → Bool
bad_list z list = ltb (64 * (z.w + 1)) (length list) || not (eqb (length list % (z.w + 1)) 0)

-- the way in of the whole call
abbrev pub way_check : Result ℕ Refusal → Check
way_check (Ok e) = Ok tt
way_check (Err r) = Err r

-- "1, 2, 5 and 7 come first, for an empty list too; then 8 .., before any change is tried"
unfoldable pub batch_jobs : Store → ℕ → List ℕ → Outcome Batch
batch_jobs st thread list =
    let z = sizes_of (table_of st) in
    after_check (by_check (entry_check st) Err (way_check (way_in z st.transient thread (bad_list z list)))) (λ r. record { accepted = 0; ended = Err r }) st
    (changes_from z thread list 0 (length list / (z.w + 1)) st)

-- the reply as one number: how many were accepted, and by 2^32 the refusal, 0 for none
abbrev pub batch_number : Batch → ℕ
batch_number b = b.accepted + 4294967296 * check_number b.ended
