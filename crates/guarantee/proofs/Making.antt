-- New keeps the invariant, as any first version does.
use Rattle.reply.specs.declared.Refusal.{Refusal}
use Prim.Native.Nat.{ℕ, suc, ◌+◌, ◌≤◌, ◌<◌}
use Rattle.std.specs.Prelude.{◌≡◌, ◌≢◌, List, ◌∷◌, length, ltb, Option, Some, None, Ok, Result, Err}
use Rattle.std.proofs.Math.Path.{refl}
use Rattle.std.proofs.Common.{◌∙◌, ltb-false}
use Rattle.std.proofs.Math.Bool.{true}
use native.Mathlib.Omega.{arith}
use Rattle.reply.specs.declared.Refusal.TheVariants.{JobExists, NoUid, Full}
use Rattle.image.specs.Layout.{most_number, jobs_board, queue_board, is_filled, fresh_header}
use Rattle.image.specs.declared.name.Name.{Name}
use Rattle.image.specs.Name.{job_name, Named}
use Rattle.transient.specs.declared.sizes.Sizes.{Sizes}
use Rattle.transient.specs.Layout.{note, last_at, next_uid_at, next_order_at, open_epoch}
use Rattle.transient.specs.Laws.{IndexKept, index-then, uid-index}
use Rattle.transient.specs.Store.{Store, store, table}
use Rattle.transient.specs.Calls.{Changed}
use Rattle.table.specs.Find.{lookup, room, free_at}
use Rattle.table.specs.Fill.{taken}
use Rattle.jobs.specs.Job.{Job, bad_job, made}
use Rattle.jobs.specs.Laws.{job-named, job-words}
use Rattle.job_new.specs.New.{new_absent, new_job}
use Rattle.job_new.specs.Stages.{new_at, new_in, new-absent-is, new_looked, new_open, new_sized}
use Rattle.crash.specs.Reference.{Jobs}
use Rattle.crash.specs.Slots.{Value, Slot, Filled, Payload}
use Rattle.crash.proofs.New.{new-inv}
use Rattle.guarantee.specs.Trace.{Plain, told_change}
use Rattle.guarantee.specs.View.{view}
use Rattle.guarantee.proofs.Good.{Good}
use Rattle.guarantee.specs.Notes.{Joined, made-joins}
use Rattle.guarantee.proofs.Images.{wrote-image, filled-wrote}
use Rattle.guarantee.proofs.Indexing.{made-filled, kept-indexed, took}
use Rattle.guarantee.proofs.Frame.{good-shaped, operation-of, change-put, change-joins, good-change, row-epoch, fifo-after, value-owes, job-owes}
use Rattle.guarantee.proofs.Lookups.{Missing, absent-says, room_says, free-says, no-later-of, no-live-of}
use Rattle.guarantee.proofs.Changing.{Fine, fine-refused, fine-declines, fine-way, fine-call, last-below}

-- ---- a first version
-- a name to give: nothing live and nothing of a later epoch has it, and `x` is the next order number after it
pub record Fresh (slots : ℕ → Slot) (e order : ℕ) (name : Name) (x : ℕ) : Type 0 where
  pub named : Named name
  pub board-lo : jobs_board ≤ name.board
  pub board-hi : name.board ≤ queue_board
  pub orders : order ≤ x
  pub order_below : name.board ≡ queue_board → name.key < x
  pub no-live : (m : ℕ) → Payload (slots m).working → (slots m).working.name ≡ name → 1 ≤ (slots m).retired
  pub no-later : (m : ℕ) → Filled (slots m).working → (slots m).working.name ≡ name → (slots m).working.epoch ≤ e

module _ {sz : Sizes} {start : Jobs} {wk l tr : List ℕ} {p : Plain} (thread : ℕ) (g : Good sz start (store wk l tr) p)
    (within : thread < sz.t) (begun : open_epoch tr thread ≢ 0) where
  -- it takes a free slot, and the notes are those of a slot that joined, with another uid and order number to give
  pub made-good : (s : ℕ) (name : Name) (v : Value) {tr' : List ℕ} {x : ℕ} → s < sz.n → free_at wk s ≡ true
      → Fresh (view (store wk l tr) sz p.clock) (open_epoch tr thread) (note next_order_at tr) name x → note next_uid_at tr ≤ most_number → length v + 1 ≡ sz.w
      → Joined sz tr tr' (open_epoch tr thread) s 0 (note next_uid_at tr + 1) x
      → IndexKept sz (made sz (table wk tr) (open_epoch tr thread) s name v).transient tr'
      → Good sz start (store (made sz (table wk tr) (open_epoch tr thread) s name v).working l tr') (told_change thread name (Some v) (Ok tt) p)
  unfolding made
  made-good s name v h f k u words i kept =
      let e = open_epoch tr thread in
      let o = operation-of g thread within begun in
      let new : is_filled (fresh_header e (note next_uid_at tr) name.board) ≡ true =
      made-filled (omega arith) (omega arith) (omega (arith, o.epoch-least)) g.inv.uid-lo k.board-lo in
      let a = filled-wrote g.working.sized h (fresh_header e (note next_uid_at tr) name.board) (name.key ∷ v) (omega (arith, words)) in
      let up : note next_uid_at tr + 1 ≡ suc (note next_uid_at tr) = omega arith in
      good-change g (wrote-image a g.working) i.head (i.uid ∙ up) i.order
      (kept-indexed (index-then (uid-index (taken sz tr e s name) sz (note next_uid_at tr + 1)) kept)
      (took (good-shaped g) g.index e s (fresh_header e (note next_uid_at tr) name.board) name.key v h f new words))
      (row-epoch g thread name (Some v) within) (fifo-after g e name (Some v) (λ b. value-owes b))
      (new-inv g.inv record {
        operation = o;
        joins = change-joins g a i h;
        free = free-says g h f;
        named = k.named;
        board-lo = k.board-lo;
        board-hi = k.board-hi;
        orders = k.orders;
        order_below = k.order_below;
        uid-hi = u;
        no-live = k.no-live;
        no-later = k.no-later;
        put = change-put g a i h;
      })

  pub made-notes : (s : ℕ) (name : Name) (v : Value) → s < sz.n
      → Joined sz tr (made sz (table wk tr) (open_epoch tr thread) s name v).transient (open_epoch tr thread) s 0 (note next_uid_at tr + 1) (note next_order_at tr)
  unfolding made
  made-notes s name v h = made-joins g.notes (open_epoch tr thread) s name h (note next_uid_at tr + 1)

-- ---- new
module _ {sz : Sizes} {start : Jobs} {wk l tr : List ℕ} {p : Plain} (thread : ℕ) (j : Job) (g : Good sz start (store wk l tr) p)
    (within : thread < sz.t) (begun : open_epoch tr thread ≢ 0) (named : j.key ≢ 0) (words : length j.value + 1 ≡ sz.w) where
  abbrev e : ℕ
  e = open_epoch tr thread

  abbrev Good' : Changed → Type 0
  Good' = Fine sz start l p thread (job_name j.key) (Some j.value)

  made-fine : (s : ℕ) → s < sz.n → free_at wk s ≡ true → Missing sz (table wk tr) (job_name j.key) e → note next_uid_at tr ≤ most_number → Good' (new_at sz (table wk tr) e s j)
  unfolding new_at
  made-fine s h f m u =
      record {
        good = made-good thread g within begun s (job_name j.key) j.value h f
            (record {
              named = record { some = named; top = λ b. job-owes b };
              board-lo = omega arith;
              board-hi = omega arith;
              orders = omega arith;
              order_below = λ b. job-owes b;
              no-live = no-live-of g m.none;
              no-later = no-later-of g m.newest;
            })
            u words (made-notes thread g within begun s (job_name j.key) j.value h) (record { words = λ i b. refl });
      }

  -- 12 and 13
  absent-fine : note last_at tr < sz.n → Missing sz (table wk tr) (job_name j.key) e → Good' (new_absent sz (table wk tr) e j)
  absent-fine h m =
      rw (new-absent-is sz (table wk tr) e j)
      (fine-declines g (ltb most_number (note next_uid_at tr)) NoUid _
      (λ q. go (ltb-false most_number (note next_uid_at tr) q) (room sz (table wk tr) 2) refl))
    where
      go : note next_uid_at tr ≤ most_number → (f : Option ℕ) → room sz (table wk tr) 2 ≡ f → Good' (new_in f sz (table wk tr) e j)
      go u (Some s) q = let b = room_says sz (table wk tr) 2 s h q in made-fine s b.0 b.1 m u
      go u None q = fine-refused g Full

  -- 9 and 11
  pub opened-fine : note last_at tr < sz.n → Good' (new_open sz (table wk tr) j e)
  unfolding new_open
  opened-fine h = go (lookup sz (table wk tr) (job_name j.key) e) refl
    where
      go : (k : Result (Option ℕ) Refusal) → lookup sz (table wk tr) (job_name j.key) e ≡ k → Good' (new_looked k sz (table wk tr) e j)
      go (Err r) q = fine-refused g r
      go (Ok (Some s)) q = fine-refused g JobExists
      go (Ok None) q = absent-fine h (absent-says sz (table wk tr) (job_name j.key) e q)

-- 5, 7 and 8
pub new-good : {sz : Sizes} {start : Jobs} {st : Store} {p : Plain} (thread : ℕ) (j : Job) → Good sz start st p
    → Good sz start (new_job st thread j).store (told_change thread (job_name j.key) (Some j.value) (new_job st thread j).reply p)
unfolding new_job new_sized new_open
new-good {sz} {start} {st} {p} thread j g =
    fine-call (new_sized thread j) g
    (λ a. fine-way g (bad_job sz j) _
    (λ h b c. opened-fine thread j g h b (job-named sz j c) (omega (arith, job-words sz j c, g.working.sized.sizes.width-lo)) (last-below g a)))
