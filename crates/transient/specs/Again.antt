-- A store that has passed refusals 1 and 2, and what a call leaves of it so that it passes them again.
use Rattle.std.specs.Prelude.{◌≡◌, ℕ, ◌+◌, ◌<◌, ◌≤◌, true, not, ◌&&◌, List, length, ◌==◌, nat_eq, refl, Ok}
use Rattle.std.proofs.Common.{ap, ◌∙◌, le-leb, lt-ltb, eqb-true}
use Rattle.std.proofs.lemmas.Bool.{not-false}
use Rattle.search.specs.Bools.{and_left, and_right, and_both}
use Rattle.search.specs.Some.{every-same}
use Rattle.reply.specs.declared.Refusal.TheVariants.{BadSizes, BadClock}
use Rattle.reply.specs.Refusals.{refuse, not-refused}
use Rattle.image.specs.Layout.{most_number, slots_of, clock_of, shape_ok, clock_ok}
use Rattle.image.specs.Requires.{sized-after}
use Rattle.image.specs.Alike.{Alike, unchanged}
use Rattle.transient.specs.declared.sizes.Sizes.{Sizes}
use Rattle.transient.specs.Layout.{threads_ok, note, slots_at, last_at, next_uid_at, next_order_at, place_at, open_epoch, set_note, set_place}
use Rattle.transient.specs.Store.{Store, Table, store, table, table_of, sizes_of}
use Rattle.transient.specs.Entry.{images_fit, next_ok, notes_fit, opens_ok, entry_check}
use Rattle.transient.specs.Requires.{sizes_fit, open_ok, clocks_fit, Notes, Entered, notes-after}
use Rattle.transient.specs.Laws.{FrontKept, last-head, last-noted, last-uid, last-order, last_set, uid-head, uid-noted, uid-last, uid-order, uid-set, place-long, place-opens, place-noted, place-last, place-uid, place-order, slot-set}

-- ---- the two tests of the entry check
pub record Passes (st : Store) : Type 0 where
  pub sizes : sizes_fit st.working st.persistent st.transient ≡ true
  pub clocks : clocks_fit st.working st.persistent st.transient (sizes_of (table_of st)).t ≡ true

pub entry-passes : (st : Store) → entry_check st ≡ Ok tt → Passes st
unfolding entry_check sizes_fit clocks_fit
entry-passes st a =
    let fit = sizes_fit st.working st.persistent st.transient in
    let clocks = clocks_fit st.working st.persistent st.transient (sizes_of (table_of st)).t in
    let first = not-refused (not fit) BadSizes (refuse (not clocks) BadClock (Ok tt)) a in
    record { sizes = not-false fit first.0; clocks = not-false clocks (not-refused (not clocks) BadClock (Ok tt) first.1).0 }

pub passes-entry : {st : Store} → Passes st → entry_check st ≡ Ok tt
unfolding entry_check sizes_fit clocks_fit
passes-entry y = rw (y.sizes, y.clocks)

pub clocks-agree : (wk l tr : List ℕ) (t : ℕ) → clocks_fit wk l tr t ≡ true → clock_of l ≡ clock_of wk
unfolding clocks_fit
clocks-agree wk l tr t e =
    let k = clock_ok (clock_of wk) in
    let q = nat_eq (clock_of l) (clock_of wk) in
    eqb-true _ _ (and_left q _ (and_right k _ e))

pub images-same : {wk l wk' l' : List ℕ} → Alike wk wk' → Alike l l' → images_fit wk' l' ≡ images_fit wk l
unfolding images_fit shape_ok
images-same a b = rw (a.long, a.slots, a.width, b.long, b.slots, b.width)

-- ---- what a call leaves of the notes: length, N and the threads' operations, and numbers in range
pub record NotesKept (z : Sizes) (tr tr' : List ℕ) : Type 0 where
  pub long : length tr' ≡ length tr
  pub opens : (thread : ℕ) → thread < z.t → open_epoch tr' thread ≡ open_epoch tr thread
  pub noted : note slots_at tr' ≡ note slots_at tr
  pub last : note last_at tr' < z.n
  pub place : note place_at tr' < z.n
  pub uid-lo : 1 ≤ note next_uid_at tr'
  pub uid-hi : note next_uid_at tr' ≤ most_number + 1
  pub order-lo : 1 ≤ note next_order_at tr'
  pub order-hi : note next_order_at tr' ≤ most_number + 1

next_fits : (x : ℕ) → 1 ≤ x → x ≤ most_number + 1 → next_ok x ≡ true
unfolding next_ok
next_fits x lo hi = and_both (le-leb 1 x lo) (le-leb x (most_number + 1) hi)

-- refusal 1 passes again
pub sizes-again : {wk l tr wk' l' tr' : List ℕ} → sizes_fit wk l tr ≡ true → Alike wk wk' → Alike l l' → NotesKept (sizes_of (table wk tr)) tr tr'
    → sizes_fit wk' l' tr' ≡ true
unfolding sizes_fit notes_fit sizes_of
sizes-again {wk} {l} {tr} fit a b k =
    let images = images_fit wk l in
    let threaded = threads_ok (length tr) (slots_of wk) in
    let rest = and_right images _ fit in
    let slots = and_left (note slots_at tr == slots_of wk) _ (and_right threaded _ rest) in
    rw (images-same a b, k.long, a.slots, k.noted)
    (and_both (and_left images _ fit) (and_both (and_left threaded _ rest) (and_both slots
    (and_both (lt-ltb _ _ k.last) (and_both (lt-ltb _ _ k.place)
    (and_both (next_fits _ k.uid-lo k.uid-hi) (next_fits _ k.order-lo k.order-hi)))))))

-- ---- .. after each writer
module _ {z : Sizes} {tr₀ tr : List ℕ} (k : NotesKept z tr₀ tr) where
  -- what is a slot's
  pub kept-front : {tr' : List ℕ} → FrontKept z tr tr' → NotesKept z tr₀ tr'
  kept-front f =
      record {
        long = f.head.long ∙ k.long;
        opens = λ u h. f.head.opens u h ∙ k.opens u h;
        noted = f.noted ∙ k.noted;
        last = rw f.last k.last;
        place = rw f.head.slot k.place;
        uid-lo = rw f.uid k.uid-lo;
        uid-hi = rw f.uid k.uid-hi;
        order-lo = rw f.order k.order-lo;
        order-hi = rw f.order k.order-hi;
      }

  module _ (y : Notes tr₀ z) where
    pub kept-last : (s : ℕ) → s < z.n → NotesKept z tr₀ (set_note last_at tr s)
    kept-last s h =
        let f = last-head tr z s in
        record {
          long = f.long ∙ k.long;
          opens = λ u i. f.opens u i ∙ k.opens u i;
          noted = last-noted tr z s ∙ k.noted;
          last = rw (last_set {tr = tr} (notes-after k.long y) s) h;
          place = rw f.slot k.place;
          uid-lo = rw (last-uid tr z s) k.uid-lo;
          uid-hi = rw (last-uid tr z s) k.uid-hi;
          order-lo = rw (last-order tr z s) k.order-lo;
          order-hi = rw (last-order tr z s) k.order-hi;
        }

    pub kept-uid : (u : ℕ) → 1 ≤ u → u ≤ most_number + 1 → NotesKept z tr₀ (set_note next_uid_at tr u)
    kept-uid u lo hi =
        let f = uid-head tr z u in
        let set = uid-set {tr = tr} (notes-after k.long y) u in
        record {
          long = f.long ∙ k.long;
          opens = λ v i. f.opens v i ∙ k.opens v i;
          noted = uid-noted tr z u ∙ k.noted;
          last = rw (uid-last tr z u) k.last;
          place = rw f.slot k.place;
          uid-lo = rw set lo;
          uid-hi = rw set hi;
          order-lo = rw (uid-order tr z u) k.order-lo;
          order-hi = rw (uid-order tr z u) k.order-hi;
        }

    pub kept-place : (phase slot : ℕ) → slot < z.n → NotesKept z tr₀ (set_place tr phase slot)
    kept-place phase slot h =
        record {
          long = place-long tr z phase slot ∙ k.long;
          opens = λ u i. place-opens tr z phase slot u ∙ k.opens u i;
          noted = place-noted tr z phase slot ∙ k.noted;
          last = rw (place-last tr z phase slot) k.last;
          place = rw (slot-set {tr = tr} (notes-after k.long y) phase slot) h;
          uid-lo = rw (place-uid tr z phase slot) k.uid-lo;
          uid-hi = rw (place-uid tr z phase slot) k.uid-hi;
          order-lo = rw (place-order tr z phase slot) k.order-lo;
          order-hi = rw (place-order tr z phase slot) k.order-hi;
        }

-- ---- what a change leaves of a table: sizes, clock and sound notes
pub record TableKept (z : Sizes) (tb tb' : Table) : Type 0 where
  pub working : Alike tb.working tb'.working
  pub clock : clock_of tb'.working ≡ clock_of tb.working
  pub notes : NotesKept z tb.transient tb'.transient

module _ {wk tr : List ℕ} {z : Sizes} (y : Entered wk tr z) where
  pub notes-kept : NotesKept z tr tr
  notes-kept =
      record {
        long = refl;
        opens = λ u h. refl;
        noted = refl;
        last = y.last;
        place = y.place;
        uid-lo = y.uid-lo;
        uid-hi = y.uid-hi;
        order-lo = y.order-lo;
        order-hi = y.order-hi;
      }

  pub table_kept : TableKept z (table wk tr) (table wk tr)
  table_kept = record { working = unchanged wk; clock = refl; notes = notes-kept }

  pub kept-entered : {wk' tr' : List ℕ} → TableKept z (table wk tr) (table wk' tr') → Entered wk' tr' z
  kept-entered k =
      record {
        shaped = record { working = sized-after k.working.long y.shaped.working; notes = notes-after k.notes.long y.shaped.notes };
        some = y.some;
        last = k.notes.last;
        place = k.notes.place;
        uid-lo = k.notes.uid-lo;
        uid-hi = k.notes.uid-hi;
        order-lo = k.notes.order-lo;
        order-hi = k.notes.order-hi;
        clock-lo = rw k.clock y.clock-lo;
        clock-hi = rw k.clock y.clock-hi;
      }

pub kept-sizes : {z : Sizes} {tb tb' : Table} → TableKept z tb tb' → sizes_of tb' ≡ sizes_of tb
unfolding sizes_of
kept-sizes k = rw (k.working.slots, k.working.width, k.notes.long)

-- refusal 2 passes again, and with it the whole check
module _ (wk l tr : List ℕ) {wk' tr' : List ℕ} (k : TableKept (sizes_of (table wk tr)) (table wk tr) (table wk' tr')) where
  clocks-again : clocks_fit wk' l tr' (sizes_of (table wk tr)).t ≡ clocks_fit wk l tr (sizes_of (table wk tr)).t
  unfolding clocks_fit opens_ok open_ok
  clocks-again =
      rw k.clock
      (ap (λ b. clock_ok (clock_of wk) && (clock_of l == clock_of wk && b))
      (every-same (λ u. open_ok (clock_of wk) (open_epoch tr' u)) (λ u. open_ok (clock_of wk) (open_epoch tr u)) (sizes_of (table wk tr)).t (λ u h. rw (k.notes.opens u h))))

  pub kept_entry : entry_check (store wk l tr) ≡ Ok tt → entry_check (store wk' l tr') ≡ Ok tt
  kept_entry a =
      let p = entry-passes (store wk l tr) a in
      passes-entry (record { sizes = sizes-again p.sizes k.working (unchanged l) k.notes; clocks = rw (kept-sizes k) (clocks-again ∙ p.clocks) })
