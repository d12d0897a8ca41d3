-- Set and delete keep the invariant: in the version's own slot, by a later version, or with nothing changed. What is said of a delete holds
-- of any name.
use Rattle.reply.specs.declared.Refusal.{Refusal}
use Rattle.std.specs.Prelude.{ℕ, ◌+◌, ◌-◌, ◌≤◌, ◌<◌, ◌≡◌, true, false, ◌≢◌, List, get_or, drop, eqb, Option, Some, None, Result, Ok, Err}
use Rattle.std.proofs.Math.Path.{refl}
use Rattle.std.proofs.Common.{sym, ◌∙◌, ⊎_elim, eqb-true, arith}
use Rattle.std.proofs.Math.ListN.{length, replicate, length-replicate}
use Rattle.std.proofs.lemmas.Bool.{eqb-false}
use Rattle.search.specs.Bools.{cases}
use Rattle.reply.specs.declared.Refusal.TheVariants.{NoJob}
use Rattle.image.specs.Layout.{header, contents, key_at, free_header, anti_header}
use Rattle.image.specs.Requires.{slot}
use Rattle.image.specs.Laws.{key-contents}
use Rattle.image.specs.declared.name.Name.{Name}
use Rattle.image.specs.Name.{name_of, job_name}
use Rattle.transient.specs.declared.sizes.Sizes.{Sizes}
use Rattle.transient.specs.Layout.{note, last_at, open_epoch, retired_in}
use Rattle.transient.specs.Store.{Store, store, table}
use Rattle.transient.specs.Calls.{accepted}
use Rattle.transient.specs.Laws.{front_same}
use Rattle.table.specs.Find.{lookup}
use Rattle.jobs.specs.Job.{Job, job, bad_job}
use Rattle.jobs.specs.Laws.{job-words}
use Rattle.job_set.specs.Set.{set_at, same_value, set_live, set_job}
use Rattle.job_set.specs.Stages.{rewritten, updated, set-at-is, live-way, set_looked, set_opened, set_sized}
use Rattle.job_set.specs.Same.{same-says}
use Rattle.job_delete.specs.Delete.{delete_at, delete_job}
use Rattle.job_delete.specs.Stages.{freed_at, turned, covered, delete-at-is, delete_looked, delete_open, delete_sized}
use Rattle.crash.specs.Table.{Put}
use Rattle.crash.specs.Reference.{Jobs}
use Rattle.crash.specs.Slots.{Value, Entry, Slot, State}
use Rattle.crash.specs.Steps as steps
use Rattle.crash.specs.Steps.{entry, Current, Joins, InPlace}
use Rattle.crash.proofs.InPlace.{set-inv}
use Rattle.crash.proofs.Turn.{turn-inv}
use Rattle.crash.proofs.Unmake.{unmake-inv}
use Rattle.crash.proofs.Resave.{resave-inv}
use Rattle.guarantee.specs.Trace.{Plain, told_change}
use Rattle.guarantee.specs.View.{view, slot_of, view_in, working-value}
use Rattle.guarantee.proofs.Good.{state_of, Good}
use Rattle.guarantee.specs.Notes.{waiting-joins, freed-joins}
use Rattle.guarantee.proofs.Indexing.{rewritten-stays, turned-stays, freed-stays}
use Rattle.guarantee.proofs.Images.{wrote-image, header-wrote, value-wrote}
use Rattle.guarantee.proofs.Frame.{good-shaped, operation-of, change-put, change-joins, good-change, Owes, fifo-after, value-owes, job-owes, row-epoch}
use Rattle.guarantee.proofs.Lookups.{Holding, Lives, live-says, live_of, no-later-of, lives-called}
use Rattle.guarantee.proofs.Changing.{Fine, fine-refused, fine-way, fine-call, last-below}
use Rattle.guarantee.proofs.Superseding.{super-fine}

-- ---- in place, with the entry, the retirement and the name as the call has them
in-place-as : {x y : Entry} {e r now before rr : ℕ} {st : State} {f : ℕ → Slot} → x ≡ y → rr ≡ (st.slots r).retired → Current e r st
    → Joins st.clock e now before (st.slots r) → (st.slots r).working.epoch ≡ e
    → Put st.slots f r (record { working = x; persistent = (st.slots r).persistent; retired = rr; now = now; before = before })
    → InPlace y e r now before st f
in-place-as a b c j q put = record { of = c; joins = j; epoch-is = q; put = rw (a, b) at put }

module _ {sz : Sizes} {start : Jobs} {wk l tr : List ℕ} {p : Plain} (thread : ℕ) (name : Name) (s : ℕ) (g : Good sz start (store wk l tr) p)
    (within : thread < sz.t) (begun : open_epoch tr thread ≢ 0) (lives : Lives g name s) where
  abbrev e : ℕ
  e = open_epoch tr thread

  abbrev old : Slot
  old = view (store wk l tr) sz p.clock s

  at_slot : old ≡ slot_of (store wk l tr) sz p.clock s
  at_slot = view_in (store wk l tr) sz p.clock s lives.below

  current : Current e s (state_of sz start (store wk l tr) p)
  current = record { operation = operation-of g thread within begun; payload = lives.payload; current = lives.current }

  abbrev words : List ℕ
  words = contents wk sz.n sz.w s

  module _ (same : (header wk s).epoch ≡ e) where
    epoch-is : old.working.epoch ≡ e
    epoch-is = rw at_slot same

    rewritten-fine : (v : Value) → length v + 1 ≡ sz.w → Fine sz start l p thread name (Some v) (rewritten sz (table wk tr) e s v)
    unfolding rewritten
    rewritten-fine v long =
        let a = value-wrote {sz = sz} g.working.sized lives.below v long in
        let j = waiting-joins g.notes e s lives.below in
        let x : entry (header wk s).kind (header wk s).epoch (header wk s).uid (name_of (header wk s).board (key_at wk sz.n sz.w s)) v ≡ steps.revalued v old.working =
        rw (at_slot, key-contents wk sz.n sz.w s (omega (arith, g.working.sized.sizes.width-lo))) in
        let r : retired_in sz tr s ≡ old.retired = rw at_slot in
        record {
          good = good-change g (wrote-image a g.working) j.head j.uid j.order
              (rewritten-stays (good-shaped g) g.index e lives.below (lives-called g lives) v long)
              (row-epoch g thread name (Some v) within) (fifo-after g e name (Some v) (λ b. value-owes b))
              (rw lives.named at (set-inv g.inv (in-place-as x r current (change-joins g a j lives.below) epoch-is (change-put g a j lives.below))));
        }

    turned-fine : Owes g e name None → Fine sz start l p thread name None (turned sz (table wk tr) e s)
    unfolding turned
    turned-fine owes =
        let h = anti_header e (header wk s) in
        let a = header-wrote g.working.sized lives.below h in
        let j = waiting-joins g.notes e s lives.below in
        let x : entry 3 e (header wk s).uid (name_of (header wk s).board (get_or words 0 0)) (drop 1 words) ≡ steps.turned old.working = rw (at_slot, same) in
        let r : retired_in sz tr s ≡ old.retired = rw at_slot in
        record {
          good = good-change g (wrote-image a g.working) j.head j.uid j.order
              (turned-stays (good-shaped g) g.index e lives.below (lives-called g lives) begun)
              (row-epoch g thread name None within) (fifo-after g e name None owes)
              (rw lives.named at (turn-inv g.inv (in-place-as x r current (change-joins g a j lives.below) epoch-is (change-put g a j lives.below))));
        }

    freed-fine : Owes g e name None → (header wk s).kind ≡ 1 → Fine sz start l p thread name None (freed_at sz (table wk tr) e s name.key)
    unfolding freed_at
    freed-fine owes alloc =
        let a = header-wrote g.working.sized lives.below free_header in
        let j = freed-joins g.notes e s (name_of (header wk s).board name.key) lives.below in
        let x : entry 0 0 0 (name_of 0 (get_or words 0 0)) (drop 1 words) ≡ steps.freed old.working = rw at_slot in
        let one : old.working.kind ≡ 1 = rw at_slot alloc in
        record {
          good = good-change g (wrote-image a g.working) j.head j.uid j.order
              (freed-stays (good-shaped g) g.index e lives.below (lives-called g lives))
              (row-epoch g thread name None within) (fifo-after g e name None owes)
              (rw lives.named at (unmake-inv g.inv record {
                change = in-place-as x (sym lives.current) current (change-joins g a j lives.below) epoch-is (change-put g a j lives.below);
                alloc = one;
              }));
        }

  -- ---- an older version gives way
  module _ (latest : old.working.epoch ≤ e) (other : (header wk s).epoch ≢ e) where
    older : (header wk s).epoch < e
    older = let q : (header wk s).epoch ≤ e = rw at_slot at latest in omega arith

    updated-fine : note last_at tr < sz.n → (v : Value) → length v + 1 ≡ sz.w → Fine sz start l p thread name (Some v) (updated sz (table wk tr) e s (job name.key v))
    unfolding updated
    updated-fine h v long = super-fine thread name s (steps.updates v) g within begun long lives older (λ b. value-owes b) 2 h

    covered-fine : Owes g e name None → note last_at tr < sz.n → Fine sz start l p thread name None (covered sz (table wk tr) e s name.key)
    unfolding covered
    covered-fine owes h =
        let zeros : Value = replicate (sz.w - 1) 0 in
        let long : length zeros + 1 ≡ sz.w = omega (arith, length-replicate {A = ℕ} (sz.w - 1) 0, g.working.sized.sizes.width-lo) in
        super-fine thread name s (steps.removes zeros) g within begun long lives older owes 1 h

  -- ---- the value that it has, again: the row alone has one entry more
  resaved-fine : old.working.epoch ≤ e → (v : Value) → length v + 1 ≡ sz.w → same_value sz wk s v ≡ true → Fine sz start l p thread name (Some v) (accepted (table wk tr))
  resaved-fine latest v long same =
      let x : v ≡ old.working.value =
      same-says (record { slot = slot g.working.sized lives.below; words = omega arith }) same
      ∙ sym (working-value (store wk l tr) sz p.clock (omega arith) s lives.below) in
      record {
        good = good-change g g.working front_same.head refl refl g.index
            (row-epoch g thread name (Some v) within) (fifo-after g e name (Some v) (λ b. value-owes b))
            (rw (lives.named, ← x) at (resave-inv g.inv record { of = current; begun = latest }));
      }

  -- ---- the job of the name goes away
  pub gone-fine : old.working.epoch ≤ e → Owes g e name None → note last_at tr < sz.n → Fine sz start l p thread name None (delete_at sz (table wk tr) e s name.key)
  gone-fine latest owes last =
      ⊎_elim
      (λ (a : eqb (header wk s).epoch e ≡ true).
      ⊎_elim
      (λ (b : eqb (header wk s).kind 1 ≡ true). rw (delete-at-is sz (table wk tr) e s name.key, a, b) (freed-fine (eqb-true _ _ a) owes (eqb-true _ _ b)))
      (λ (b : eqb (header wk s).kind 1 ≡ false). rw (delete-at-is sz (table wk tr) e s name.key, a, b) (turned-fine (eqb-true _ _ a) owes))
      (cases (eqb (header wk s).kind 1)))
      (λ (a : eqb (header wk s).epoch e ≡ false). rw (delete-at-is sz (table wk tr) e s name.key, a) (covered-fine latest (eqb-false _ _ a) owes last))
      (cases (eqb (header wk s).epoch e))

-- ---- by what the look-up finds: 9 and 10
module _ {sz : Sizes} {start : Jobs} {wk l tr : List ℕ} {p : Plain} (thread : ℕ) (g : Good sz start (store wk l tr) p)
    (within : thread < sz.t) (begun : open_epoch tr thread ≢ 0) (last : note last_at tr < sz.n) where
  abbrev ep : ℕ
  ep = open_epoch tr thread

  set-at-fine : (s : ℕ) (j : Job) → length j.value + 1 ≡ sz.w → Lives g (job_name j.key) s → (view (store wk l tr) sz p.clock s).working.epoch ≤ ep
      → Fine sz start l p thread (job_name j.key) (Some j.value) (set_at sz (table wk tr) ep s j)
  set-at-fine s j long lives latest =
      ⊎_elim
      (λ (a : eqb (header wk s).epoch ep ≡ true). rw (set-at-is sz (table wk tr) ep s j, a) (rewritten-fine thread (job_name j.key) s g within begun lives (eqb-true _ _ a) j.value long))
      (λ (a : eqb (header wk s).epoch ep ≡ false). rw (set-at-is sz (table wk tr) ep s j, a) (updated-fine thread (job_name j.key) s g within begun lives latest (eqb-false _ _ a) last j.value long))
      (cases (eqb (header wk s).epoch ep))

  set-live-fine : (s : ℕ) (j : Job) → length j.value + 1 ≡ sz.w → Holding sz (table wk tr) (job_name j.key) ep s
      → Fine sz start l p thread (job_name j.key) (Some j.value) (set_live sz (table wk tr) ep s j)
  set-live-fine s j long h =
      let lives = live_of g h.found in
      let latest = no-later-of g h.newest s lives.payload.0 lives.named in
      live-way (Fine sz start l p thread (job_name j.key) (Some j.value)) sz (table wk tr) ep s j
      (λ q same. resaved-fine thread (job_name j.key) s g within begun lives latest j.value long same)
      (set-at-fine s j long lives latest)

  pub set-opened-fine : (j : Job) → length j.value + 1 ≡ sz.w → Fine sz start l p thread (job_name j.key) (Some j.value) (set_opened sz (table wk tr) j ep)
  unfolding set_opened
  set-opened-fine j long = go (lookup sz (table wk tr) (job_name j.key) ep) refl
    where
      go : (k : Result (Option ℕ) Refusal) → lookup sz (table wk tr) (job_name j.key) ep ≡ k → Fine sz start l p thread (job_name j.key) (Some j.value) (set_looked k sz (table wk tr) ep j)
      go (Err r) q = fine-refused g r
      go (Ok (Some s)) q = set-live-fine s j long (live-says sz (table wk tr) (job_name j.key) ep q)
      go (Ok None) q = fine-refused g NoJob

  delete-at-fine : (s key : ℕ) → Holding sz (table wk tr) (job_name key) ep s → Fine sz start l p thread (job_name key) None (delete_at sz (table wk tr) ep s key)
  delete-at-fine s key h =
      let lives = live_of g h.found in
      gone-fine thread (job_name key) s g within begun lives (no-later-of g h.newest s lives.payload.0 lives.named) (λ b. job-owes b) last

  pub delete-open-fine : (key : ℕ) → Fine sz start l p thread (job_name key) None (delete_open sz (table wk tr) key ep)
  unfolding delete_open
  delete-open-fine key = go (lookup sz (table wk tr) (job_name key) ep) refl
    where
      go : (k : Result (Option ℕ) Refusal) → lookup sz (table wk tr) (job_name key) ep ≡ k → Fine sz start l p thread (job_name key) None (delete_looked k sz (table wk tr) ep key)
      go (Err r) q = fine-refused g r
      go (Ok (Some s)) q = delete-at-fine s key (live-says sz (table wk tr) (job_name key) ep q)
      go (Ok None) q = fine-refused g NoJob

-- ---- the calls
module _ {sz : Sizes} {start : Jobs} {st : Store} {p : Plain} (thread : ℕ) (g : Good sz start st p) where
  pub set-good : (j : Job) → Good sz start (set_job st thread j).store (told_change thread (job_name j.key) (Some j.value) (set_job st thread j).reply p)
  unfolding set_job set_sized set_opened
  set-good j =
      fine-call (set_sized thread j) g
      (λ a. fine-way g (bad_job sz j) _
      (λ h b c. set-opened-fine thread g h b (last-below g a) j (omega (arith, job-words sz j c, g.working.sized.sizes.width-lo))))

  pub delete-good : (key : ℕ) → Good sz start (delete_job st thread key).store (told_change thread (job_name key) None (delete_job st thread key).reply p)
  unfolding delete_job delete_sized delete_open
  delete-good key =
      fine-call (delete_sized thread key) g
      (λ a. fine-way g (eqb key 0) _ (λ h b c. delete-open-fine thread g h b (last-below g a) key))
