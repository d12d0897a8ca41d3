-- What refusals 1 and 2 leave, and how a call goes on past them.
use Rattle.std.specs.Prelude.{◌≡◌, ℕ, ◌+◌, ◌<◌, ◌≤◌, Bool, true, not, ◌&&◌, List, length, ◌==◌, nat_le, nat_lt, refl, Ok, Err}
use Rattle.std.proofs.Common.{sym, ap, ◌∙◌, ltb-true, leb-true, eqb-true, arith}
use Rattle.std.proofs.lemmas.Bool.{not-false}
use Rattle.search.specs.Bools.{and_left, and_right}
use Rattle.reply.specs.declared.Refusal.{Refusal}
use Rattle.reply.specs.declared.Refusal.TheVariants.{BadSizes, BadClock}
use Rattle.reply.specs.Refusals.{Check, refuse, by_check, not-refused}
use Rattle.image.specs.Layout.{most_number, slots_of, width_of, clock_of, shape_ok, clock_ok}
use Rattle.image.specs.Requires.{Sized}
use Rattle.image.specs.Laws.{shaped}
use Rattle.transient.specs.declared.sizes.Sizes.{Sizes}
use Rattle.transient.specs.Layout.{threads_of, threads_ok, note, slots_at, last_at, next_uid_at, next_order_at, place_at}
use Rattle.transient.specs.Store.{Store, Table, store, table, table_of, sizes_of, Outcome, outcome, after_check}
use Rattle.transient.specs.Entry.{images_fit, next_ok, notes_fit, entry_check}
use Rattle.transient.specs.Calls.{Changed, changed, on_store}
use Rattle.transient.specs.Requires.{sizes_fit, clocks_fit, Notes, Sizable, Entered, EnteredWith}

pub sizes-t : (wk tr : List ℕ) → (sizes_of (table wk tr)).t ≡ threads_of (length tr) (slots_of wk)
unfolding sizes_of
sizes-t wk tr = refl

-- ---- what refusal 1 leaves
pub record Sizing (wk l tr : List ℕ) (z : Sizes) : Type 0 where
  pub working : Sized wk z.n z.w
  pub persistent : Sized l z.n z.w
  pub notes : Notes tr z
  pub some : 1 ≤ z.t
  pub last : note last_at tr < z.n
  pub place : note place_at tr < z.n
  pub uid-lo : 1 ≤ note next_uid_at tr
  pub uid-hi : note next_uid_at tr ≤ most_number + 1
  pub order-lo : 1 ≤ note next_order_at tr
  pub order-hi : note next_order_at tr ≤ most_number + 1

next-range : (x : ℕ) → next_ok x ≡ true → (1 ≤ x) × (x ≤ most_number + 1)
unfolding next_ok
next-range x e = (leb-true 1 x (and_left (nat_le 1 x) _ e), leb-true x (most_number + 1) (and_right (nat_le 1 x) _ e))

pub sizing : (wk l tr : List ℕ) {r : Bool} → r ≡ sizes_fit wk l tr → r ≡ true → Sizing wk l tr (sizes_of (table wk tr))
unfolding sizes_fit images_fit threads_ok notes_fit sizes_of
sizing wk l tr {r} e h =
    let n = slots_of wk in
    let k = threads_of (length tr) n in
    let all = sym e ∙ h in
    let images = and_left (shape_ok wk && (shape_ok l && (slots_of l == n && width_of l == width_of wk))) _ all in
    let rest = and_right (shape_ok wk && (shape_ok l && (slots_of l == n && width_of l == width_of wk))) _ all in
    let two = and_right (shape_ok wk) _ images in
    let same = and_right (shape_ok l) _ two in
    let a : slots_of l ≡ n = eqb-true _ _ (and_left (slots_of l == n) _ same) in
    let b : width_of l ≡ width_of wk = eqb-true _ _ (and_right (slots_of l == n) _ same) in
    let z : Sized wk n (width_of wk) = shaped wk (and_left (shape_ok wk) _ images) in
    let y : Sized l (slots_of l) (width_of l) = shaped l (and_left (shape_ok l) _ two) in
    let fits = and_left (nat_le 1 k && nat_le k 16) _ rest in
    let notes = and_right (note slots_at tr == n) _ (and_right (nat_le 1 k && nat_le k 16) _ rest) in
    let more = and_right (nat_lt (note last_at tr) n) _ notes in
    let nexts = and_right (nat_lt (note place_at tr) n) _ more in
    let uid = next-range (note next_uid_at tr) (and_left (next_ok (note next_uid_at tr)) _ nexts) in
    let order = next-range (note next_order_at tr) (and_right (next_ok (note next_uid_at tr)) _ nexts) in
    let lo : 1 ≤ k = leb-true 1 k (and_left (nat_le 1 k) _ fits) in
    let hi : k ≤ 16 = leb-true k 16 (and_right (nat_le 1 k) _ fits) in
    record {
      working = z;
      persistent = rw (a, b) at y;
      notes = record { long = omega arith; slots-hi = z.sizes.slots-hi; threads-hi = hi };
      some = lo;
      last = ltb-true _ _ (and_left (nat_lt (note last_at tr) n) _ notes);
      place = ltb-true _ _ (and_left (nat_lt (note place_at tr) n) _ more);
      uid-lo = uid.0;
      uid-hi = uid.1;
      order-lo = order.0;
      order-hi = order.1;
    }

-- ---- and refusal 2
clock-range : (c : ℕ) → clock_ok c ≡ true → (2 ≤ c) × (c ≤ most_number)
unfolding clock_ok
clock-range c e = (leb-true 2 c (and_left (nat_le 2 c) _ e), leb-true c most_number (and_right (nat_le 2 c) _ e))

clocks-range : (wk l tr : List ℕ) (t : ℕ) → clocks_fit wk l tr t ≡ true → (2 ≤ clock_of wk) × (clock_of wk ≤ most_number)
unfolding clocks_fit
clocks-range wk l tr t e = clock-range (clock_of wk) (and_left (clock_ok (clock_of wk)) _ e)

pub entry-with : (wk l tr : List ℕ) → entry_check (store wk l tr) ≡ Ok tt → EnteredWith wk l tr (sizes_of (table wk tr))
unfolding entry_check sizes_fit clocks_fit
entry-with wk l tr a =
    let t = (sizes_of (table wk tr)).t in
    let first = not-refused (not (sizes_fit wk l tr)) BadSizes (refuse (not (clocks_fit wk l tr t)) BadClock (Ok tt)) a in
    let second = not-refused (not (clocks_fit wk l tr t)) BadClock (Ok tt) first.1 in
    let y = sizing wk l tr refl (not-false (sizes_fit wk l tr) first.0) in
    let range = clocks-range wk l tr t (not-false (clocks_fit wk l tr t) second.0) in
    record {
      entered = record {
        shaped = record { working = y.working; notes = y.notes };
        some = y.some;
        last = y.last;
        place = y.place;
        uid-lo = y.uid-lo;
        uid-hi = y.uid-hi;
        order-lo = y.order-lo;
        order-hi = y.order-hi;
        clock-lo = range.0;
        clock-hi = range.1;
      };
      persistent = y.persistent;
    }

-- ---- a call goes on
pub entered-sizable : {wk tr : List ℕ} → Entered wk tr (sizes_of (table wk tr)) → Sizable wk tr
unfolding sizes_of
entered-sizable y =
    record { long = omega (arith, y.shaped.working.long); room = record { slots-hi = y.shaped.notes.slots-hi; room = omega (arith, y.shaped.notes.long) } }

pub sized-entered : {wk tr : List ℕ} {z : Sizes} → Entered wk tr (sizes_of (table wk tr)) → z ≡ sizes_of (table wk tr) → Entered wk tr z
sized-entered y e = rw e y

pub sized-with : {wk l tr : List ℕ} {z : Sizes} → EnteredWith wk l tr (sizes_of (table wk tr)) → z ≡ sizes_of (table wk tr) → EnteredWith wk l tr z
sized-with y e = rw e y

-- what the call's own part made, beside the persistent image
abbrev pub in_store : Store → Changed → Outcome Check
in_store st ch = outcome ch.reply ch.table.working st.persistent ch.table.transient

-- "Change calls never store into the lasting image."
pub on-persistent : (st : Store) (call : Sizes → Table → Changed) → (on_store st call).store.persistent ≡ st.persistent
on-persistent st call = go (entry_check st)
  where
    go : (k : Check) → (after_check k Err st (in_store st (call (sizes_of (table_of st)) (table_of st)))).store.persistent ≡ st.persistent
    go (Ok _) = refl
    go (Err r) = refl

module _ (wk l tr : List ℕ) {k : Check} (c : k ≡ entry_check (store wk l tr)) where
  pub entry-entered : k ≡ Ok tt → Entered wk tr (sizes_of (table wk tr))
  entry-entered a = (entry-with wk l tr (sym c ∙ a)).entered

  pub entry-both : k ≡ Ok tt → EnteredWith wk l tr (sizes_of (table wk tr))
  entry-both a = entry-with wk l tr (sym c ∙ a)

  pub on-declined : (call : Sizes → Table → Changed) {r : Refusal} → k ≡ Err r → outcome (Err r) wk l tr ≡ on_store (store wk l tr) call
  on-declined call a = rw (← c, a)

  pub on-passed : (call : Sizes → Table → Changed) {q : Check} {wk' tr' : List ℕ} → k ≡ Ok tt
      → changed q wk' tr' ≡ call (sizes_of (table wk tr)) (table wk tr) → outcome q wk' l tr' ≡ on_store (store wk l tr) call
  on-passed call a h = rw (← c, a) (ap (in_store (store wk l tr)) h)

-- two checks in a row: the first that refuses
pub two-checks : {A : Type 0} (j k : Check) (decline : Refusal → A) (st : Store) (next : Outcome A)
    → after_check (by_check j Err k) decline st next ≡ after_check j decline st (after_check k decline st next)
two-checks (Ok _) k decline st next = refl
two-checks (Err r) k decline st next = refl

pub ruleset passing = (entered-sizable, sized-entered, sized-with, entry-entered, entry-both)
