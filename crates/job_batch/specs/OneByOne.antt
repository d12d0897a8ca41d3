-- A batch judges refusals 1, 2, 5 and 7 once, and each of its changes equals its own call, which judges them every time: an accepted change
-- keeps a store that passed them.
use Prim.Native.Nat.{ℕ, zero, suc, ◌+◌, ◌-◌, ◌/◌, ◌<◌}
use Rattle.std.specs.Prelude.{◌≡◌, Bool, true, false, cond, ◌||◌, ◌≢◌, List, drop, Result, Ok, Err}
use Rattle.std.proofs.Math.Path.{refl}
use Rattle.std.proofs.Common.{◌∙◌, arith}
use Rattle.std.proofs.Math.ListN.{length, length-drop}
use Rattle.std.proofs.Math.Dec.{eqb}
use borrow.Author.Tests.{lt-leb, eq-eqb, ne_eqb}
use Rattle.reply.specs.declared.Refusal.TheVariants.{BadArgument}
use Rattle.reply.specs.Refusals.{Check, by_check}
use Rattle.transient.specs.declared.sizes.Sizes.{Sizes}
use Rattle.transient.specs.Layout.{open_epoch}
use Rattle.transient.specs.Store.{Store, Table, store, table, table_of, sizes_of, Outcome, after_check}
use Rattle.transient.specs.Entry.{entry_check}
use Rattle.transient.specs.Calls.{Changed, refused, on_store}
use Rattle.transient.specs.Requires.{Entered}
use Rattle.transient.specs.Passed.{in_store, entry-with}
use Rattle.transient.specs.Again.{TableKept, table_kept, kept-sizes, kept_entry}
use Rattle.jobs.specs.Job.{Job, bad_job}
use Rattle.jobs.specs.Way.{way_in, by_way}
use Rattle.jobs.specs.Laws.{declines-way, way-operating}
use Rattle.job_new.specs.New.{new_job}
use Rattle.job_new.specs.Stages.{new_open}
use Rattle.job_new.specs.Again.{new-kept}
use Rattle.job_set.specs.Set.{set_job}
use Rattle.job_set.specs.Stages.{set_opened}
use Rattle.job_set.specs.Again.{set-kept}
use Rattle.job_delete.specs.Delete.{delete_job}
use Rattle.job_delete.specs.Stages.{delete_open}
use Rattle.job_delete.specs.Again.{delete-kept}
use Rattle.job_batch.specs.declared.Batch.{Batch}
use Rattle.job_batch.specs.Batch.{change_at, kind_of, job_of, change_job, changes_from, bad_list, way_check, batch_jobs}
use Rattle.job_batch.specs.Stages.{by_kind, ended, Batched, change_open, ended_at, changes_open, by_list_way, batch_sized}
use Rattle.job_batch.specs.Requires.{list-whole, change-words}
use Rattle.job_batch.specs.Ways.{kind-way}
use Rattle.reply.specs.declared.Refusal.{Refusal}

-- ---- an accepted change keeps a store that passed refusals 1 and 2
pub change-kept : {wk tr : List ℕ} {z : Sizes} → Entered wk tr z → (e : ℕ) (c : List ℕ) → TableKept z (table wk tr) (change_open z (table wk tr) e c).table
unfolding change_open
change-kept {wk} {tr} {z} y e c =
    declines-way Kept (table wk tr) (eqb (job_of c).key 0) BadArgument _ (table_kept y)
    (λ h. kind-way Kept (kind_of c) (λ q. new-kept y e (job_of c)) (λ q. set-kept y e (job_of c)) (λ q. delete-kept y e (job_of c).key) (λ q. table_kept y))
  where
    Kept : Changed → Type 0
    Kept ch = TableKept z (table wk tr) ch.table

-- a key of 0 may be asked before the kind
key-first : (st : Store) (kind : ℕ) (b : Bool) (r n s d : Changed)
    → by_kind kind (in_store st (cond b r n)) (in_store st (cond b r s)) (in_store st (cond b r d)) (in_store st r) ≡ in_store st (cond b r (by_kind kind n s d r))
key-first st kind b r n s d = go b (eqb kind 1) (eqb kind 2) (eqb kind 3)
  where
    go : (b x y z : Bool)
        → cond x (in_store st (cond b r n)) (cond y (in_store st (cond b r s)) (cond z (in_store st (cond b r d)) (in_store st r))) ≡ in_store st (cond b r (cond x n (cond y s (cond z d r))))
    go true true y z = refl
    go true false true z = refl
    go true false false true = refl
    go true false false false = refl
    go false true y z = refl
    go false false true z = refl
    go false false false true = refl
    go false false false false = refl

or-none : (b : Bool) → b || false ≡ b
or-none true = refl
or-none false = refl

-- ---- a store with an operation of the thread open, past refusals 1, 2, 5 and 7
pub record Opened (z : Sizes) (thread e : ℕ) (st : Store) : Type 0 where
  pub entry : entry_check st ≡ Ok tt
  pub sizes : sizes_of (table_of st) ≡ z
  pub within : thread < z.t
  pub epoch : open_epoch st.transient thread ≡ e
  pub some : e ≢ 0

module _ {z : Sizes} {thread e : ℕ} {st : Store} (o : Opened z thread e st) where
  entered : Entered st.working st.transient z
  entered = rw o.sizes at (entry-with st.working st.persistent st.transient o.entry).entered

  -- 8 alone is left of the way in
  way-left : (bad : Bool) → way_in z st.transient thread bad ≡ cond bad (Err BadArgument) (Ok e)
  unfolding way_in
  way-left bad = rw (lt-leb z.t thread o.within, o.epoch, ne_eqb e 0 o.some)

  -- a call on jobs: 8, or its part within the operation
  called : (bad : Sizes → Bool) (next : Sizes → Table → ℕ → Changed)
      → on_store st (λ y tb. by_way (way_in y tb.transient thread (bad y)) tb (next y tb)) ≡ in_store st (cond (bad z) (refused BadArgument (table_of st)) (next z (table_of st) e))
  called bad next = rw (o.entry, o.sizes, way-left (bad z)) (go (bad z))
    where
      go : (b : Bool) → in_store st (by_way (cond b (Err BadArgument) (Ok e)) (table_of st) (next z (table_of st))) ≡ in_store st (cond b (refused BadArgument (table_of st)) (next z (table_of st) e))
      go true = refl
      go false = refl

  module _ (c : List ℕ) (words : length c ≡ z.w + 1) where
    abbrev j : Job
    j = job_of c

    -- the value has its length
    bad-key : bad_job z j ≡ eqb (job_of c).key 0
    unfolding bad_job
    bad-key = let long : length (drop 2 c) ≡ z.w - 1 = simp length-drop (omega (arith, words)) in rw (eq-eqb _ _ long) (or-none (eqb (job_of c).key 0))

    new_is : new_job st thread j ≡ in_store st (cond (eqb (job_of c).key 0) (refused BadArgument (table_of st)) (new_open z (table_of st) j e))
    unfolding new_job new_open
    new_is = rw bad-key at (called (λ y. bad_job y j) (λ y tb. new_open y tb j))

    set_is : set_job st thread j ≡ in_store st (cond (eqb (job_of c).key 0) (refused BadArgument (table_of st)) (set_opened z (table_of st) j e))
    unfolding set_job set_opened
    set_is = rw bad-key at (called (λ y. bad_job y j) (λ y tb. set_opened y tb j))

    delete-is : delete_job st thread (job_of c).key ≡ in_store st (cond (eqb (job_of c).key 0) (refused BadArgument (table_of st)) (delete_open z (table_of st) (job_of c).key e))
    unfolding delete_job delete_open
    delete-is = called (λ y. eqb (job_of c).key 0) (λ y tb. delete_open y tb (job_of c).key)

    -- a change is its own call
    pub change-is : change_job st thread c ≡ in_store st (change_open z (table_of st) e c)
    unfolding change_job change_open
    change-is = rw (new_is, set_is, delete-is) (key-first st (kind_of c) (eqb (job_of c).key 0) (refused BadArgument (table_of st)) _ _ _)

  pub opened_after : (c : List ℕ) → Opened z thread e (in_store st (change_open z (table_of st) e c)).store
  opened_after c =
      let k = change-kept entered e c in
      record {
        entry = kept_entry st.working st.persistent st.transient (rw o.sizes k) o.entry;
        sizes = kept-sizes k ∙ o.sizes;
        within = o.within;
        epoch = k.notes.opens thread o.within ∙ o.epoch;
        some = o.some;
      }

-- ---- and so is every change of the list
abbrev after : Store → Table → Store
after st tb = store tb.working st.persistent tb.transient

abbrev pub beside : Store → Batched → Outcome Batch
beside st b = record { reply = b.reply; store = after st b.table }

module _ (z : Sizes) (thread e : ℕ) (list : List ℕ) where
  pub changes-same : (k more : ℕ) (st : Store) → Opened z thread e st → ((i : ℕ) → i < k + more → length (change_at z list i) ≡ z.w + 1)
      → changes_from z thread list k more st ≡ beside st (changes_open z e list k more (table_of st))
  unfolding changes_from changes_open
  changes-same k zero st o long = refl
  changes-same k (suc more) st o long =
      let ch = change_open z (table_of st) e (change_at z list k) in
      rw (change-is o (change_at z list k) (long k (omega arith)))
      (go ch.reply ch.table (changes-same (suc k) more (in_store st ch).store (opened_after o (change_at z list k)) (λ i h. long i (omega arith))))
    where
      go : (r : Check) (tb : Table) → changes_from z thread list (suc k) more (after st tb) ≡ beside st (changes_open z e list (suc k) more tb)
          → by_check r (λ q. ended k (Err q) (after st tb)) (changes_from z thread list (suc k) more (after st tb))
          ≡ beside st (by_check r (λ q. ended_at k (Err q) tb) (changes_open z e list (suc k) more tb))
      go (Err q) tb x = refl
      go (Ok _) tb x = x

-- ---- the whole batch past refusals 1 and 2
pub batch-is : (st : Store) (thread : ℕ) (list : List ℕ) → entry_check st ≡ Ok tt
    → batch_jobs st thread list ≡ beside st (batch_sized thread list (sizes_of (table_of st)) (table_of st))
unfolding batch_jobs batch_sized
batch-is st thread list a = rw a (go (way_in z st.transient thread (bad_list z list)) refl)
  where
    z : Sizes
    z = sizes_of (table_of st)

    go : (k : Result ℕ Refusal) → way_in z st.transient thread (bad_list z list) ≡ k
        → after_check (way_check k) (λ r. record { accepted = 0; ended = Err r }) st (changes_from z thread list 0 (length list / (z.w + 1)) st)
        ≡ beside st (by_list_way k (table_of st) (λ e. changes_open z e list 0 (length list / (z.w + 1)) (table_of st)))
    go (Err r) q = refl
    go (Ok e) q =
        let o = way-operating z st.transient thread (bad_list z list) q in
        let whole = list-whole z list o.fine in
        changes-same z thread e list 0 _ st (record { entry = a; sizes = refl; within = o.within; epoch = o.epoch; some = o.some })
        (λ i h. change-words whole i (omega arith))
