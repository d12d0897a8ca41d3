-- Append and take keep the invariant; and a take takes the front.
use Rattle.reply.specs.declared.Refusal.{Refusal}
use Rattle.std.specs.Prelude.{ℕ, ◌+◌, ◌-◌, ◌≤◌, ◌<◌, ◌≡◌, true, ◌≢◌, List, length, Option, Some, None, Ok, Err, Result}
use Rattle.std.proofs.Math.Path.{refl}
use Rattle.std.proofs.Common.{sym, ap, ◌∙◌}
use Rattle.std.proofs.Math.Bool.{false}
use Rattle.std.proofs.Math.Dec.{ltb, eqb}
use borrow.Author.Tests.{ltb-false, eqb-true, eq-eqb, ne_eqb, lt-ltb, not-false}
use native.Mathlib.Omega.{arith}
use Rattle.std.proofs.Math.Decide.{dec_le}
use Rattle.search.specs.Bools.{never, not-is-true, and_both, and_left, and_right, or_left, or_right}
use Rattle.search.specs.Some.{any_of, some-none}
use Rattle.search.specs.Least.{least-found}
use Rattle.reply.specs.declared.Refusal.TheVariants.{Newer, NoUid, Full, QueueEmpty}
use Rattle.reply.specs.Refusals.{Check, by_check}
use Rattle.image.specs.Layout.{most_number, queue_board, is_payload, header, key_at}
use Rattle.image.specs.declared.name.Name.{Name}
use Rattle.image.specs.Name.{entry_name, name-is as name-made, names-meet, key-same}
use Rattle.transient.specs.declared.sizes.Sizes.{Sizes}
use Rattle.transient.specs.Layout.{note, last_at, next_uid_at, next_order_at, open_epoch, retired_in, set_note}
use Rattle.transient.specs.Laws.{order-index}
use Rattle.transient.specs.Store.{Store, store, table, table_of}
use Rattle.transient.specs.Calls.{Changed, on_store}
use Rattle.table.specs.Find.{room, free_at}
use Rattle.jobs.specs.Job.{made}
use Rattle.job_delete.specs.Delete.{delete_at}
use Rattle.queue.specs.Front.{entry_newer_at, entry_at, front_slot, front_lookup}
use Rattle.queue.specs.Laws.{Faced, front-faced}
use Rattle.queue_append.specs.Append.{append_open, append_entry}
use Rattle.queue_append.specs.Stages.{bad_value, no_number, append_at, append_in, append-open-is, append_sized}
use Rattle.queue_take.specs.Take.{take_entry}
use Rattle.queue_take.specs.Stages.{take_looked, take_open, take_sized}
use Rattle.crash.specs.Reference.{Jobs}
use Rattle.crash.specs.Slots.{Slot, Filled}
use Rattle.crash.specs.Steps.{Foremost}
use Rattle.crash.proofs.Fifo.{front-from}
use Rattle.guarantee.specs.Trace.{Plain, told_change, told_append, front_order}
use Rattle.guarantee.specs.View.{view, view_in}
use Rattle.guarantee.proofs.Good.{state_of, Good}
use Rattle.guarantee.specs.Notes.{Joined, order-joins}
use Rattle.guarantee.specs.Says.{payload-of}
use Rattle.guarantee.proofs.Frame.{operation-of}
use Rattle.guarantee.proofs.Lookups.{Lives, filled_in, slot-name, filled_at, payload-at, room_says}
use Rattle.guarantee.proofs.Changing.{Fine, fine-refused, fine-declines, fine-way, fine-call, sizes-is, last-below, order-low}
use Rattle.guarantee.proofs.Making.{Fresh, made-good, made-notes}
use Rattle.guarantee.proofs.Replacing.{gone-fine}

-- ---- what the look-ups of the queue say of the table
module _ {sz : Sizes} {start : Jobs} {st : Store} {p : Plain} (g : Good sz start st p) where
  abbrev slots : ℕ → Slot
  slots = view st sz p.clock

  board-of : (m : ℕ) → m < sz.n → (slots m).working.name.board ≡ (header st.working m).board
  board-of m h = rw (view_in st sz p.clock m h)

  key_of : (m : ℕ) → m < sz.n → (slots m).working.name.key ≡ key_at st.working sz.n sz.w m
  key_of m h = key-same (slot-name g m h ∙ name-made st.working sz.n sz.w m)

  -- refusal 9 passed: no entry has a later epoch
  no-newer : {e : ℕ} → e ≢ 0 → any_of (entry_newer_at st.working e) sz.n ≡ false
      → (m : ℕ) → Filled (slots m).working → (slots m).working.name.board ≡ queue_board → (slots m).working.epoch ≤ e
  unfolding entry_newer_at
  no-newer {e} o q m f b =
      let h = filled_in g m f in
      let f' = rw (view_in st sz p.clock m h) at f in
      let off = some-none (entry_newer_at st.working e) sz.n q m h in
      rw (view_in st sz p.clock m h)
      (elim (dec_le (header st.working m).epoch e) [
        | yes y ↦ y
        | no y ↦ never _ (and_both (filled_at g m h f') (and_both (eq-eqb _ queue_board (sym (board-of m h) ∙ b)) (and_both (lt-ltb e _ (omega arith)) (not-is-true (ne_eqb e 0 o))))) off
      ])

  -- the front's slot holds the live entry with the smallest number
  front_of : {e s : ℕ} (thread : ℕ) → thread < sz.t → open_epoch st.transient thread ≢ 0 → open_epoch st.transient thread ≡ e
      → any_of (entry_newer_at st.working e) sz.n ≡ false → front_slot sz (table_of st) ≡ Some s
      → (s < sz.n) × Foremost e s (state_of sz start st p)
  unfolding front_slot entry_at
  front_of {e} {s} thread within begun is q found =
      let w = least-found (entry_at sz (table_of st)) (key_at st.working sz.n sz.w) sz.n s found in
      let h = w.below in
      let a = is_payload (header st.working s) in
      let b = eqb (retired_in sz st.transient s) 0 in
      let rest = and_right a _ w.passes in (
        h,
        record {
          of = record {
            operation = rw is at (operation-of g thread within begun);
            payload = rw (view_in st sz p.clock s h) (payload-of (header st.working s) (and_left a _ w.passes));
            current = rw (view_in st sz p.clock s h) (eqb-true _ 0 (and_left b _ rest));
          };
          board-is = board-of s h ∙ eqb-true _ queue_board (and_right b _ rest);
          newest = no-newer (rw is at begun) q;
          smallest = λ m pay cur bd.
              let k = filled_in g m pay.0 in
              let pay' = rw (view_in st sz p.clock m k) at pay in
              let cur' = rw (view_in st sz p.clock m k) at cur in
              omega (
                arith,
                key_of s h,
                key_of m k,
                w.least m k (and_both (payload-at g m k pay') (and_both (eq-eqb _ 0 cur') (eq-eqb _ queue_board (sym (board-of m k) ∙ bd)))),
              );
        },
      )

-- ---- append
module _ {sz : Sizes} {start : Jobs} {wk l tr : List ℕ} {p : Plain} (thread : ℕ) (value : List ℕ) (g : Good sz start (store wk l tr) p)
    (within : thread < sz.t) (begun : open_epoch tr thread ≢ 0) (words : length value + 1 ≡ sz.w) (numbered : 1 ≤ note next_order_at tr) where
  abbrev e : ℕ
  e = open_epoch tr thread

  abbrev order : ℕ
  order = note next_order_at tr

  abbrev Good' : Changed → Type 0
  Good' = Fine sz start l p thread (entry_name order) (Some value)

  -- no slot has the number that is given
  given-fresh : order ≤ most_number → Fresh (view (store wk l tr) sz p.clock) e order (entry_name order) (order + 1)
  given-fresh h =
      record {
        named = record { some = λ q. omega arith; top = λ _. h };
        board-lo = omega arith;
        board-hi = omega arith;
        orders = omega arith;
        order_below = λ _. omega arith;
        no-live = λ m pay n. absurd (omega (arith, (g.inv.one m).order_below pay.0 (ap (λ (x : Name). x.board) n), key-same n));
        no-later = λ m f n. absurd (omega (arith, (g.inv.one m).order_below f (ap (λ (x : Name). x.board) n), key-same n));
      }

  given-notes : (s : ℕ) → s < sz.n
      → Joined sz tr (set_note next_order_at (made sz (table wk tr) e s (entry_name order) value).transient (order + 1)) e s 0 (note next_uid_at tr + 1) (order + 1)
  given-notes s h = order-joins g.notes (made-notes thread g within begun s (entry_name order) value h) (order + 1)

  appended-fine : (s : ℕ) → s < sz.n → free_at wk s ≡ true → note next_uid_at tr ≤ most_number → order ≤ most_number → Good' (append_at sz (table wk tr) e s value)
  unfolding append_at
  appended-fine s h f u o = record { good = made-good thread g within begun s (entry_name order) value h f (given-fresh o) u words (given-notes s h) (order-index _ sz (order + 1)) }

  -- 12: both numbers can be given
  both_left : no_number tr ≡ false → (note next_uid_at tr ≤ most_number) × (order ≤ most_number)
  unfolding no_number
  both_left q =
      let a = ltb most_number (note next_uid_at tr) in
      (ltb-false most_number (note next_uid_at tr) (or_left a _ q), ltb-false most_number order (or_right a _ q))

  -- 9, 12 and 13
  append-fine : note last_at tr < sz.n → Good' (append_open sz (table wk tr) value e)
  append-fine last =
      rw (append-open-is sz (table wk tr) value e)
      (fine-declines g (any_of (entry_newer_at wk e) sz.n) Newer _
      (λ _. fine-declines g (no_number tr) NoUid _ (λ q. go (both_left q) (room sz (table wk tr) 2) refl)))
    where
      go : (note next_uid_at tr ≤ most_number) × (order ≤ most_number) → (f : Option ℕ) → room sz (table wk tr) 2 ≡ f → Good' (append_in f sz (table wk tr) e value)
      go b (Some s) q = let r = room_says sz (table wk tr) 2 s last q in appended-fine s r.0 r.1 b.0 b.1
      go b None q = fine-refused g Full

-- ---- take
-- what is said of a change under one name is said of it under the same
fine-as : {sz : Sizes} {start : Jobs} {l : List ℕ} {p : Plain} {thread : ℕ} {k k' : Name} {ch : Changed} → k' ≡ k → Fine sz start l p thread k None ch
    → Fine sz start l p thread k' None ch
fine-as q f = rw q f

module _ {sz : Sizes} {start : Jobs} {wk l tr : List ℕ} {p : Plain} (thread : ℕ) (g : Good sz start (store wk l tr) p)
    (within : thread < sz.t) (begun : open_epoch tr thread ≢ 0) (last : note last_at tr < sz.n) where
  abbrev ep : ℕ
  ep = open_epoch tr thread

  -- the front's name, as the slot has it
  abbrev name_in : ℕ → Name
  name_in s = entry_name (key_at wk sz.n sz.w s)

  front-order : {s : ℕ} → front_slot sz (table wk tr) ≡ Some s → entry_name (front_order (store wk l tr)) ≡ name_in s
  front-order q = rw (sizes-is g, q)

  taken_fine : (s : ℕ) → Faced sz (table wk tr) ep s → Fine sz start l p thread (name_in s) None (delete_at sz (table wk tr) ep s (key_at wk sz.n sz.w s))
  taken_fine s w =
      let f = front_of g thread within begun refl w.newest w.found in
      let h = f.0 in
      let named : (view (store wk l tr) sz p.clock s).working.name ≡ name_in s = names-meet f.1.board-is (key_of g s h) in
      let lives : Lives g (name_in s) s = record { below = h; payload = f.1.of.payload; current = f.1.of.current; named = named } in
      gone-fine thread (name_in s) s g within begun lives (f.1.newest s f.1.of.payload.0 f.1.board-is)
      (λ _ _ d b. rw (key-same named) at (front-from g.inv f.1 d b)) last

  -- 9 and 17
  take-fine : Fine sz start l p thread (entry_name (front_order (store wk l tr))) None (take_open sz (table wk tr) ep)
  unfolding take_open
  take-fine = go (front_lookup sz (table wk tr) ep) refl
    where
      go : (k : Result (Option ℕ) Refusal) → front_lookup sz (table wk tr) ep ≡ k → Fine sz start l p thread (entry_name (front_order (store wk l tr))) None (take_looked k sz (table wk tr) ep)
      go (Err r) q = fine-refused g r
      go (Ok (Some s)) q = let w = front-faced sz (table wk tr) ep s q in fine-as (front-order w.found) (taken_fine s w)
      go (Ok None) q = fine-refused g QueueEmpty

-- ---- the calls: 5, 7 and 8
-- the reference map hears the number from the reply
told-given : {sz : Sizes} {start : Jobs} {x : Store} (p : Plain) (thread order : ℕ) (value : List ℕ) (k : Check)
    → Good sz start x (told_change thread (entry_name order) (Some value) k p) → Good sz start x (told_append thread value (by_check k Err (Ok order)) p)
told-given p thread order value (Ok _) g = g
told-given p thread order value (Err r) g = g

value-words : (sz : Sizes) (value : List ℕ) → 2 ≤ sz.w → bad_value sz value ≡ false → length value + 1 ≡ sz.w
unfolding bad_value
value-words sz value h q = let e = eqb-true (length value) (sz.w - 1) (not-false _ q) in omega arith

module _ {sz : Sizes} {start : Jobs} {st : Store} {p : Plain} (thread : ℕ) where
  pub append-good : (value : List ℕ) → Good sz start st p
      → Good sz start (append_entry st thread value).store (told_append thread value (append_entry st thread value).reply p)
  unfolding append_entry append_sized bad_value
  append-good value g =
      told-given p thread (note next_order_at st.transient) value (on_store st (append_sized thread value)).reply
      (fine-call (append_sized thread value) g
      (λ a. fine-way g (bad_value sz value) _
      (λ h b c. append-fine thread value g h b (value-words sz value g.working.sized.sizes.width-lo c) (order-low g a) (last-below g a))))

  pub take-good : Good sz start st p → Good sz start (take_entry st thread).store (told_change thread (entry_name (front_order st)) None (take_entry st thread).reply p)
  unfolding take_entry take_sized take_open
  take-good g = fine-call (take_sized thread) g (λ a. fine-way g false _ (λ h b c. take-fine thread g h b (last-below g a)))
