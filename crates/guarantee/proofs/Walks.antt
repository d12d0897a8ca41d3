-- 02, No. 6: "Wherever it holds each filled slot under its board and key, and no other slot, as it must in every run up to the cut, each
-- reply and each image equals what the walk gives."
--
-- The calls that look a job up, as they are by a walk of the whole table. In every store whose index is right, also one that no run leaves,
-- each of them answers and leaves what its call by the index does, the notes included; and the index is right at every moment of every
-- run. Append, take and look walk the table, so there is nothing to say of them.
use Rattle.std.specs.Prelude.{ℕ, zero, suc, ◌+◌, ◌/◌, ◌≡◌, refl, Bool, cond, length, leb, Result, Err, Option, Ok}
use Rattle.std.proofs.Common.{ap}
use Rattle.std.proofs.Math.Path.{fun_ext}
use mathlib.Core.List.{List, Memᴰ}
use Rattle.std.proofs.Math.Dec.{eqb}
use Rattle.reply.specs.declared.Refusal.TheVariants.{NoThread, BadArgument, NoJob, JobExists}
use Rattle.reply.specs.Refusals.{Check, by_check}
use Rattle.image.specs.Name.{job_name}
use Rattle.transient.specs.declared.sizes.Sizes.{Sizes}
use Rattle.transient.specs.Layout.{open_epoch}
use Rattle.transient.specs.Store.{Store, Table, table_of, sizes_of, Outcome}
use Rattle.transient.specs.Entry.{entry_check}
use Rattle.transient.specs.Calls.{Changed, refused}
use Rattle.index.specs.Indexed.{Indexed}
use Rattle.table.specs.Walk.{walk_live, walk_lookup, live-walks, lookup-walks}
use Rattle.jobs.specs.Job.{Job, bad_job}
use Rattle.jobs.specs.Way.{on_found, on_job}
use Rattle.job_new.specs.New.{new_absent, new_job}
use Rattle.job_set.specs.Set.{set_live, set_job}
use Rattle.job_delete.specs.Delete.{delete_at, delete_job}
use Rattle.job_batch.specs.declared.Batch.{Batch}
use Rattle.job_batch.specs.Batch.{change_at, kind_of, job_of, change_job, changes_from, batch_jobs}
use Rattle.job_batch.specs.Stages.{by_kind, ended}
use Rattle.job_batch.specs.By.{changes_by, batch_by}
use Rattle.job_read.specs.Read.{read_sized, read_job}
use Rattle.job_read.specs.Stages.{read_looked}
use Rattle.guarantee.specs.Trace.{Call, Moment, moments}
use Rattle.guarantee.specs.Promise.{Started}
use Rattle.guarantee.proofs.Changing.{sizes-is}
use Rattle.guarantee.proofs.StaysIndexed.{Right, change-right}
use Rattle.guarantee.proofs.Running.{moments-good}
use Rattle.reply.specs.declared.Refusal.{Refusal}

-- ---- the calls by a walk
-- as `on_job`, but for the look-up
abbrev on_walk : Store → ℕ → ℕ → (Sizes → Bool) → (Sizes → Table → ℕ → ℕ → Changed) → (Sizes → Table → ℕ → Changed) → Outcome Check
on_walk st thread key bad live absent = on_found st thread bad (λ z tb e. walk_lookup z tb (job_name key) e) live absent

abbrev pub new_walk : Store → ℕ → Job → Outcome Check
new_walk st thread j = on_walk st thread j.key (λ z. bad_job z j) (λ z tb e s. refused JobExists tb) (λ z tb e. new_absent z tb e j)

abbrev pub set_walk : Store → ℕ → Job → Outcome Check
set_walk st thread j = on_walk st thread j.key (λ z. bad_job z j) (λ z tb e s. set_live z tb e s j) (λ z tb e. refused NoJob tb)

abbrev pub delete_walk : Store → ℕ → ℕ → Outcome Check
delete_walk st thread key = on_walk st thread key (λ z. eqb key 0) (λ z tb e s. delete_at z tb e s key) (λ z tb e. refused NoJob tb)

-- as `change_job` and `batch_jobs`, of these
abbrev pub change_walk : Store → ℕ → List ℕ → Outcome Check
change_walk st thread c =
    by_kind (kind_of c) (new_walk st thread (job_of c)) (set_walk st thread (job_of c)) (delete_walk st thread (job_of c).key) (record { reply = Err BadArgument; store = st })

abbrev pub batch_walk : Store → ℕ → List ℕ → Outcome Batch
batch_walk st thread list = batch_by (λ s c. change_walk s thread c) st thread list

-- as `read_sized` and `read_job`
abbrev pub read_walk : Store → ℕ → ℕ → Result ℕ Refusal
read_walk st thread key =
    let z = sizes_of (table_of st) in
    let e = open_epoch st.transient thread in
    by_check (entry_check st) Err
    (cond (leb z.t thread) (Err NoThread)
    (cond (eqb key 0) (Err BadArgument)
    (read_looked (cond (eqb e 0) (Ok (walk_live z (table_of st) (job_name key))) (walk_lookup z (table_of st) (job_name key) e)))))

-- ---- with a right index
-- each reply, each image and all the notes are what the walk gives
pub record Walks (st : Store) : Type 0 where
  pub new : (thread : ℕ) (j : Job) → new_job st thread j ≡ new_walk st thread j
  pub set : (thread : ℕ) (j : Job) → set_job st thread j ≡ set_walk st thread j
  pub delete : (thread key : ℕ) → delete_job st thread key ≡ delete_walk st thread key
  pub batch : (thread : ℕ) (list : List ℕ) → batch_jobs st thread list ≡ batch_walk st thread list
  pub read : (thread key : ℕ) → read_job st thread key ≡ read_walk st thread key

module _ {z : Sizes} (st : Store) (x : Right z st) (thread : ℕ) where
  right-index : Indexed (sizes_of (table_of st)) st.working st.transient
  right-index = rw x.sizes x.index

  found-walks : (key : ℕ) (bad : Sizes → Bool) (live : Sizes → Table → ℕ → ℕ → Changed) (absent : Sizes → Table → ℕ → Changed)
      → on_job st thread key bad live absent ≡ on_walk st thread key bad live absent
  found-walks key bad live absent = ap (λ (look : ℕ → Result (Option ℕ) Refusal). on_found st thread bad (λ z tb e. look e) live absent) (fun_ext (λ e. lookup-walks right-index (job_name key) e))

  new_walks : (j : Job) → new_job st thread j ≡ new_walk st thread j
  unfolding new_job
  new_walks j = found-walks j.key (λ z. bad_job z j) (λ z tb e s. refused JobExists tb) (λ z tb e. new_absent z tb e j)

  set_walks : (j : Job) → set_job st thread j ≡ set_walk st thread j
  unfolding set_job
  set_walks j = found-walks j.key (λ z. bad_job z j) (λ z tb e s. set_live z tb e s j) (λ z tb e. refused NoJob tb)

  delete-walks : (key : ℕ) → delete_job st thread key ≡ delete_walk st thread key
  unfolding delete_job
  delete-walks key = found-walks key (λ z. eqb key 0) (λ z tb e s. delete_at z tb e s key) (λ z tb e. refused NoJob tb)

  change-walks : (c : List ℕ) → change_job st thread c ≡ change_walk st thread c
  unfolding change_job
  change-walks c = rw (new_walks (job_of c), set_walks (job_of c), delete-walks (job_of c).key)

  read-walks : (key : ℕ) → read_job st thread key ≡ read_walk st thread key
  unfolding read_job read_sized
  read-walks key = rw (live-walks right-index (job_name key), lookup-walks right-index (job_name key) (open_epoch st.transient thread))

-- an accepted change leaves a right index to the next one
changes-walk : {z : Sizes} (thread : ℕ) (list : List ℕ) (k more : ℕ) (st : Store) → Right z st → changes_from z thread list k more st ≡ changes_by (λ s c. change_walk s thread c) z list k more st
unfolding changes_from changes_by
changes-walk thread list k zero st x = refl
changes-walk {z} thread list k (suc more) st x =
    let c = change_at z list k in
    let o = change_job st thread c in
    rw (← change-walks st x thread c) (ap (by_check o.reply (λ r. ended k (Err r) o.store)) (changes-walk thread list (suc k) more o.store (change-right x thread c)))

-- in every store
pub index-walks : (st : Store) → Indexed (sizes_of (table_of st)) st.working st.transient → Walks st
unfolding batch_jobs
index-walks st i =
    let x : Right (sizes_of (table_of st)) st = record { sizes = refl; index = i } in
    record {
      new = new_walks st x;
      set = set_walks st x;
      delete = delete-walks st x;
      batch = λ thread list. rw (changes-walk thread list 0 (length list / ((sizes_of (table_of st)).w + 1)) st x);
      read = read-walks st x;
    }

-- at every moment of every run
pub run-walks : (st : Store) → Started st → (calls : List Call) (m : Moment) → Memᴰ m (moments st calls) → Walks m.store
run-walks st s calls m i = let g = moments-good s calls m i in index-walks m.store (rw (sizes-is g) g.index)
