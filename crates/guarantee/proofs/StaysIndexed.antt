-- A change of a job leaves a right index right, in every store, also one that no run leaves: damaged images, or other notes.
use Rattle.reply.specs.declared.Refusal.{Refusal}
use Rattle.std.specs.Prelude.{ℕ, ◌+◌, ◌-◌, ◌≤◌, ◌<◌, ◌≡◌, Bool, false, ◌≢◌, List, length, replicate, ltb, Option, Some, None, Result, Ok, Err}
use Rattle.std.proofs.Math.Path.{refl}
use Rattle.std.proofs.Common.{◌∙◌, arith}
use Rattle.std.proofs.Math.Bool.{true}
use Rattle.std.proofs.Math.Logic.{⊎_elim}
use Rattle.std.proofs.Math.ListN.{length-replicate}
use Rattle.std.proofs.Math.Dec.{eqb}
use Rattle.search.specs.Bools.{cases, and_right}
use Rattle.search.specs.First.{found_first}
use Rattle.reply.specs.declared.Refusal.TheVariants.{NoUid}
use Rattle.image.specs.declared.header.Header.{Header}
use Rattle.image.specs.Layout.{most_number, jobs_board, is_filled, header_of, header, fresh_header}
use Rattle.image.specs.Name.{name_of, job_name}
use Rattle.transient.specs.declared.sizes.Sizes.{Sizes}
use Rattle.transient.specs.Layout.{note, next_uid_at, open_epoch}
use Rattle.transient.specs.Store.{Store, Table, table, table_of, sizes_of, Outcome}
use Rattle.transient.specs.Requires.{Entered}
use Rattle.transient.specs.Laws.{uid-index, retired-index}
use Rattle.transient.specs.Calls.{Changed, on_store}
use Rattle.transient.specs.Passed.{in_store, entry-with}
use Rattle.transient.specs.Again.{TableKept, kept-sizes}
use Rattle.index.specs.Indexed.{Indexed}
use Rattle.table.specs.Find.{listed, live_on, live_slot, lookup, free_at, room}
use Rattle.table.specs.Fill.{taken}
use Rattle.table.specs.Laws.{Called, lookup-below}
use Rattle.table.specs.Walk.{live-called}
use Rattle.jobs.specs.Job.{Job, job, bad_job, made, superseded}
use Rattle.jobs.specs.Way.{way_in, by_way}
use Rattle.jobs.specs.Laws.{declines-way, job-words}
use Rattle.job_new.specs.New.{new_absent, new_job}
use Rattle.job_new.specs.Stages.{new_at, new_in, new-absent-is, new_looked, new_open}
use Rattle.job_new.specs.Again.{new-kept}
use Rattle.job_set.specs.Set.{set_at, set_live, set_job}
use Rattle.job_set.specs.Stages.{updated, set-at-is, live-way, set_looked, set_opened}
use Rattle.job_set.specs.Again.{set-kept}
use Rattle.job_delete.specs.Delete.{delete_at, delete_job}
use Rattle.job_delete.specs.Stages.{covered, delete-at-is, delete_looked, delete_open}
use Rattle.job_delete.specs.Again.{delete-kept}
use Rattle.job_batch.specs.Batch.{kind_of, job_of, change_job}
use Rattle.job_batch.specs.Ways.{kind-way}
use Rattle.guarantee.proofs.Indexing.{Stays, made-filled, later-filled, kept-indexed, took, rewritten-stays, turned-stays, freed-stays}
use Rattle.guarantee.proofs.Lookups.{live-says, room_says}
use Rattle.guarantee.proofs.Changing.{way-way, call-way}
use Rattle.reply.specs.Refusals.{Check}

-- ---- a call's part within an operation of epoch e
module _ {wk tr : List ℕ} {z : Sizes} (y : Entered wk tr z) (i : Indexed z wk tr) (e : ℕ) (begun : e ≢ 0) where
  abbrev tb : Table
  tb = table wk tr

  job-long : (j : Job) → bad_job z j ≡ false → length j.value + 1 ≡ z.w
  job-long j c = omega (arith, job-words z j c, y.shaped.working.sizes.width-lo)

  -- ---- new: 9, 11, 12 and 13
  made-stays : (s : ℕ) (j : Job) → s < z.n → free_at wk s ≡ true → length j.value + 1 ≡ z.w → Stays z (new_at z tb e s j)
  unfolding new_at made
  made-stays s j k free long =
      let h = fresh_header e (note next_uid_at tr) jobs_board in
      let full : is_filled h ≡ true = made-filled (omega arith) (omega arith) (omega arith) y.uid-lo (omega arith) in
      kept-indexed (uid-index (taken z tr e s (job_name j.key)) z (note next_uid_at tr + 1)) (took y.shaped i e s h j.key j.value k free full long)

  absent-stays : (j : Job) → bad_job z j ≡ false → Stays z (new_absent z tb e j)
  absent-stays j c = rw (new-absent-is z tb e j) (declines-way (Stays z) tb (ltb most_number (note next_uid_at tr)) NoUid _ i (λ u. go (room z tb 2) refl))
    where
      go : (f : Option ℕ) → room z tb 2 ≡ f → Stays z (new_in f z tb e j)
      go (Some s) q = let b = room_says z tb 2 s y.last q in made-stays s j b.0 b.1 (job-long j c)
      go None q = i

  new-stays : (j : Job) → bad_job z j ≡ false → Stays z (new_open z tb j e)
  unfolding new_open
  new-stays j c = go (lookup z tb (job_name j.key) e)
    where
      go : (k : Result (Option ℕ) Refusal) → Stays z (new_looked k z tb e j)
      go (Err r) = i
      go (Ok (Some s)) = i
      go (Ok None) = absent-stays j c

  -- ---- the live slot that a look-up found
  module _ (key s : ℕ) (q : lookup z tb (job_name key) e ≡ Ok (Some s)) where
    below : s < z.n
    below = lookup-below z tb (job_name key) e s q

    called : Called z wk (job_name key) s
    unfolding live_slot live_on
    called =
        let f = found_first (live_on z tb (job_name key)) z.n (live-says z tb (job_name key) e q).found in
        live-called z (job_name key) s tb (and_right (listed z tr (job_name key) s) _ f.passes)

    -- a later version, or a DELETE, takes a free slot
    super-stays : (k kind : ℕ) (value : List ℕ) → 1 ≤ kind → kind ≤ 3 → length value + 1 ≡ z.w
        → Stays z (superseded (room z tb k) z tb e s (header_of kind e (header wk s).uid (header wk s).board) key value)
    super-stays k kind value lo hi long = go (room z tb k) refl
      where
        h : Header
        h = header_of kind e (header wk s).uid (header wk s).board

        go : (g : Option ℕ) → room z tb k ≡ g → Stays z (superseded g z tb e s h key value)
        go (Some f) r =
            let b = room_says z tb k f y.last r in
            let full : is_filled h ≡ true = later-filled (header wk s) lo hi (omega arith) called.filled in
            kept-indexed (retired-index (taken z tr e f (name_of h.board key)) z s e below) (took y.shaped i e f h key value b.0 b.1 full long)
        go None r = i

    set-at-stays : (value : List ℕ) → length value + 1 ≡ z.w → Stays z (set_at z tb e s (job key value))
    unfolding updated
    set-at-stays value long =
        ⊎_elim
        (λ (a : eqb (header wk s).epoch e ≡ true). rw (set-at-is z tb e s (job key value), a) (rewritten-stays y.shaped i e below called value long))
        (λ (a : eqb (header wk s).epoch e ≡ false). rw (set-at-is z tb e s (job key value), a) (super-stays 2 2 value (omega arith) (omega arith) long))
        (cases (eqb (header wk s).epoch e))

    set-live-stays : (value : List ℕ) → length value + 1 ≡ z.w → Stays z (set_live z tb e s (job key value))
    set-live-stays value long = live-way (Stays z) z tb e s (job key value) (λ p q. i) (set-at-stays value long)

    covered-stays : Stays z (covered z tb e s key)
    unfolding covered
    covered-stays =
        let long = length-replicate {A = ℕ} (z.w - 1) 0 in
        super-stays 1 3 (replicate (z.w - 1) 0) (omega arith) (omega arith) (omega (arith, long, y.shaped.working.sizes.width-lo))

    delete-at-stays : Stays z (delete_at z tb e s key)
    delete-at-stays =
        ⊎_elim
        (λ (a : eqb (header wk s).epoch e ≡ true).
        ⊎_elim
        (λ (b : eqb (header wk s).kind 1 ≡ true). rw (delete-at-is z tb e s key, a, b) (freed-stays y.shaped i e below called))
        (λ (b : eqb (header wk s).kind 1 ≡ false). rw (delete-at-is z tb e s key, a, b) (turned-stays y.shaped i e below called begun))
        (cases (eqb (header wk s).kind 1)))
        (λ (a : eqb (header wk s).epoch e ≡ false). rw (delete-at-is z tb e s key, a) covered-stays)
        (cases (eqb (header wk s).epoch e))

  -- ---- set and delete: 9 and 10
  set-stays : (j : Job) → bad_job z j ≡ false → Stays z (set_opened z tb j e)
  unfolding set_opened
  set-stays j c = go (lookup z tb (job_name j.key) e) refl
    where
      go : (k : Result (Option ℕ) Refusal) → lookup z tb (job_name j.key) e ≡ k → Stays z (set_looked k z tb e j)
      go (Err r) q = i
      go (Ok (Some s)) q = set-live-stays j.key s q j.value (job-long j c)
      go (Ok None) q = i

  delete-stays : (key : ℕ) → Stays z (delete_open z tb key e)
  unfolding delete_open
  delete-stays key = go (lookup z tb (job_name key) e) refl
    where
      go : (k : Result (Option ℕ) Refusal) → lookup z tb (job_name key) e ≡ k → Stays z (delete_looked k z tb e key)
      go (Err r) q = i
      go (Ok (Some s)) q = delete-at-stays key s q
      go (Ok None) q = i

-- ---- a whole call
pub record Right (z : Sizes) (st : Store) : Type 0 where
  pub sizes : sizes_of (table_of st) ≡ z
  pub index : Indexed z st.working st.transient

module _ {z : Sizes} {st : Store} (x : Right z st) (thread : ℕ) where
  -- refusals 1, 2, 5, 7 and 8 leave the store; else its part leaves the sizes and a right index
  call-right : (bad : Sizes → Bool) (next : Sizes → Table → ℕ → Changed)
      → (Entered st.working st.transient z → (e : ℕ) → e ≢ 0 → bad z ≡ false
      → TableKept z (table_of st) (next z (table_of st) e).table × Stays z (next z (table_of st) e))
      → Right z (on_store st (λ u tb. by_way (way_in u tb.transient thread (bad u)) tb (next u tb))).store
  call-right bad next f =
      call-way (λ a. Right z a.store) st (λ u tb. by_way (way_in u tb.transient thread (bad u)) tb (next u tb)) (λ r. x)
      (λ a.
      let y = rw x.sizes at (entry-with st.working st.persistent st.transient a).entered in
      rw x.sizes
      (way-way (λ ch. Right z (in_store st ch).store) z (table_of st) thread (bad z) (next z (table_of st)) (λ r. x)
      (λ h b c. let k = f y (open_epoch st.transient thread) b c in record { sizes = kept-sizes k.0 ∙ x.sizes; index = k.1 })))

  new-right : (j : Job) → Right z (new_job st thread j).store
  unfolding new_job new_open
  new-right j = call-right (λ u. bad_job u j) (λ u tb. new_open u tb j) (λ y e b c. (new-kept y e j, new-stays y x.index e b j c))

  set-right : (j : Job) → Right z (set_job st thread j).store
  unfolding set_job set_opened
  set-right j = call-right (λ u. bad_job u j) (λ u tb. set_opened u tb j) (λ y e b c. (set-kept y e j, set-stays y x.index e b j c))

  delete-right : (key : ℕ) → Right z (delete_job st thread key).store
  unfolding delete_job delete_open
  delete-right key = call-right (λ u. eqb key 0) (λ u tb. delete_open u tb key) (λ y e b c. (delete-kept y e key, delete-stays y x.index e b key))

  pub change-right : (c : List ℕ) → Right z (change_job st thread c).store
  unfolding change_job
  change-right c = kind-way (λ (a : Outcome Check). Right z a.store) (kind_of c) (λ q. new-right (job_of c)) (λ q. set-right (job_of c)) (λ q. delete-right (job_of c).key) (λ q. x)
