-- The ways out of this crate's functions.
use Rattle.std.specs.Prelude.{◌≡◌, ℕ, ◌+◌, ◌-◌, ◌*◌, ◌%◌, ◌^◌, ◌<◌, ◌≤◌, Bool, true, false, ltb, leb, List, length, replicate, ◌==◌, ◌≢◌, nat_le, nat_lt, slice_set, Ok, Err}
use Rattle.std.proofs.Math.Path.{refl}
use Rattle.std.proofs.Common.{sym, ◌∙◌, ⊎_elim}
use borrow.Author.Tests.{lt-ltb, le-ltb, le-leb, lt-leb, eq-eqb, ne_eqb, ltb-true, ltb-false, leb-true, eqb-true}
use native.Mathlib.Omega.{arith}
use Rattle.search.specs.Bools.{cases, refuted, same_test, and_left, and_right, tests}
use Rattle.search.specs.Some.{every, Held, held_next, loops as everies}
use Rattle.reply.specs.declared.Refusal.TheVariants.{BadSizes, BadClock}
use Rattle.image.specs.Layout.{most_slots, most_number, slots_of, width_of, clock_of, shape_ok, clock_ok}
use Rattle.image.specs.Requires.{Sized}
use Rattle.image.specs.Laws.{shaped}
use Rattle.image.specs.Storing.{storings}
use Rattle.transient.specs.declared.sizes.Sizes.{Sizes}
use Rattle.transient.specs.Store.{store, table, sizes_of}
use Rattle.transient.specs.Layout.{slots_at, last_at, next_uid_at, next_order_at, phase_at, place_at, head_words, open_at, retired_at, threads_of, threads_ok, note, open_epoch, set_note, set_open, set_retired, set_place, blank}
use Rattle.transient.specs.Entry.{images_fit, next_ok, notes_fit, opens_ok, entry_check}
use Rattle.transient.specs.Requires.{ThreadRoom, Sizable, Paired, sizes_alike, sizes_fit, open_ok, clocks_fit, Threads, Fitting, requires-laws}
use Rattle.transient.specs.Laws.{threads-head}
use Rattle.transient.specs.Passed.{sizing, sizes-t}

-- ---- sizes
-- a length too small wraps to a number that is too large
pub threads-wrap : (len n : ℕ) {d : ℕ} → n ≤ most_slots → d < 2 ^ 64 → (d + (head_words + 3 * n + 1)) % 2 ^ 64 ≡ len → nat_lt d 16 ≡ threads_ok len n
unfolding threads_ok
threads-wrap len n {d} h f e =
    ⊎_elim
    (λ (t : ltb d 16 ≡ true).
    let k = ltb-true d 16 t in
    rw (t, le-leb 1 (threads_of len n) (omega arith), le-leb (threads_of len n) 16 (omega arith)))
    (λ (t : ltb d 16 ≡ false).
    let k = ltb-false d 16 t in
    ⊎_elim
    (λ (u : leb 1 (threads_of len n) ≡ true).
    let v = leb-true 1 (threads_of len n) u in
    rw (t, u, lt-leb (threads_of len n) 16 (omega arith)))
    (λ (u : leb 1 (threads_of len n) ≡ false). rw (t, u))
    (cases (nat_le 1 (threads_of len n))))
    (cases (nat_lt d 16))

pub sizable-room : {wk tr : List ℕ} {n : ℕ} → Sizable wk tr → n ≡ slots_of wk → ThreadRoom (length tr) n
sizable-room z e = rw e z.room

pub sizes-made : (wk tr : List ℕ) {n w t : ℕ} → n ≡ slots_of wk → w ≡ width_of wk → t ≡ threads_of (length tr) n → record { n = n; w = w; t = t } ≡ sizes_of (table wk tr)
unfolding sizes_of
sizes-made wk tr a b c = rw (c, a, b)

pub blank-set : (l : List ℕ) {a : List ℕ} (n uid order : ℕ) → a ≡ replicate (length l) 0
    → slice_set (slice_set (slice_set (slice_set a slots_at n) last_at (n - 1)) next_uid_at uid) next_order_at order ≡ blank (length l) n uid order
unfolding blank
blank-set l n uid order e = rw e

-- ---- writers
module _ (tr : List ℕ) where
  pub last_stored : (s : ℕ) → slice_set tr last_at s ≡ set_note last_at tr s
  unfolding set_note
  last_stored s = refl

  pub uid-stored : (u : ℕ) → slice_set tr next_uid_at u ≡ set_note next_uid_at tr u
  unfolding set_note
  uid-stored u = refl

  pub order-stored : (x : ℕ) → slice_set tr next_order_at x ≡ set_note next_order_at tr x
  unfolding set_note
  order-stored x = refl

  pub place-below : head_words ≤ length tr → place_at < length tr
  place-below h = omega arith

  pub place-stored : (phase slot : ℕ) → slice_set (slice_set tr phase_at phase) place_at slot ≡ set_place tr phase slot
  unfolding set_place
  place-stored phase slot = refl

  pub open-stored : (thread e : ℕ) → slice_set tr (open_at thread) e ≡ set_open tr thread e
  unfolding set_open
  open-stored thread e = refl

  module _ (z : Sizes) where
    pub retired-stored : (s e : ℕ) → slice_set tr (retired_at z s) e ≡ set_retired z tr s e
    unfolding set_retired
    retired-stored s e = refl

-- ---- refusal 1
module _ (wk l : List ℕ) where
  pub alike-slots : (slots_of l ≢ slots_of wk) → false ≡ sizes_alike wk l
  unfolding sizes_alike
  alike-slots d = rw (ne_eqb (slots_of l) (slots_of wk) d)

  pub alike-width : slots_of l ≡ slots_of wk → (width_of l == width_of wk) ≡ sizes_alike wk l
  unfolding sizes_alike
  alike-width d = rw (eq-eqb (slots_of l) (slots_of wk) d)

-- images that fit are of one length, and where they are it is enough to judge the shape of one
fit_length : (wk l : List ℕ) → images_fit wk l ≡ true → length l ≡ length wk
unfolding images_fit
fit_length wk l t =
    let rest = and_right (shape_ok wk) _ t in
    let same = and_right (shape_ok l) _ rest in
    let a : slots_of l ≡ slots_of wk = eqb-true _ _ (and_left (slots_of l == slots_of wk) _ same) in
    let b : width_of l ≡ width_of wk = eqb-true _ _ (and_right (slots_of l == slots_of wk) _ same) in
    let z = shaped wk (and_left (shape_ok wk) _ t) in
    let y = shaped l (and_left (shape_ok l) _ rest) in
    rw (a, b) at y.long ∙ sym z.long

shape_same : (wk l : List ℕ) → shape_ok wk ≡ true → length l ≡ length wk → sizes_alike wk l ≡ true → shape_ok l ≡ true
unfolding shape_ok sizes_alike
shape_same wk l t e h =
    let a : slots_of l ≡ slots_of wk = eqb-true _ _ (and_left (slots_of l == slots_of wk) _ h) in
    let b : width_of l ≡ width_of wk = eqb-true _ _ (and_right (slots_of l == slots_of wk) _ h) in
    rw (e, a, b) t

alike-fit : (wk l : List ℕ) → shape_ok wk ≡ true → shape_ok l ≡ true → sizes_alike wk l ≡ true → images_fit wk l ≡ true
unfolding images_fit sizes_alike
alike-fit wk l t p h = rw (t, p) h

fit-alike : (wk l : List ℕ) → images_fit wk l ≡ true → sizes_alike wk l ≡ true
unfolding images_fit sizes_alike
fit-alike wk l h = and_right (shape_ok l) _ (and_right (shape_ok wk) _ h)

module _ (wk l : List ℕ) {s : Bool} (sh : s ≡ shape_ok wk) where
  pub images-working : s ≡ false → false ≡ images_fit wk l
  unfolding images_fit
  images-working e = rw (← sh, e)

  pub images-length : s ≡ true → (length l ≢ length wk) → false ≡ images_fit wk l
  images-length st d = sym (refuted (images_fit wk l) (λ t. d (fit_length wk l t)))

  module _ (st : s ≡ true) (long : length l ≡ length wk) where
    pub images-paired : Paired wk l
    images-paired = let z = shaped wk (sym sh ∙ st) in record { working = omega arith; persistent = omega arith }

    pub images-alike : {r : Bool} → r ≡ sizes_alike wk l → r ≡ images_fit wk l
    images-alike e =
        let t : shape_ok wk ≡ true = sym sh ∙ st in
        e ∙ same_test (sizes_alike wk l) (images_fit wk l) (λ h. alike-fit wk l t (shape_same wk l t long h) h) (λ h. fit-alike wk l h)

module _ (tr : List ℕ) (n : ℕ) {d : ℕ} (sl : d ≡ note slots_at tr) where
  pub notes-slots : (d ≢ n) → false ≡ notes_fit tr n
  unfolding notes_fit
  notes-slots h = rw (← sl, ne_eqb d n h)

  module _ {a : ℕ} (same : d ≡ n) (la : a ≡ note last_at tr) where
    pub notes-last : n ≤ a → false ≡ notes_fit tr n
    unfolding notes_fit
    notes-last h = rw (← sl, eq-eqb d n same, le-ltb (note last_at tr) n (omega arith))

    module _ {b : ℕ} (h : a < n) (pl : b ≡ note place_at tr) where
      pub notes-place : n ≤ b → false ≡ notes_fit tr n
      unfolding notes_fit
      notes-place k = rw (← sl, eq-eqb d n same, lt-ltb (note last_at tr) n (omega arith), le-ltb (note place_at tr) n (omega arith))

      module _ {u : ℕ} {o : Bool} (k : b < n) (e : u ≡ note next_uid_at tr) (ok : o ≡ next_ok u) where
        pub notes-uid : o ≡ false → false ≡ notes_fit tr n
        unfolding notes_fit
        notes-uid q = rw (← sl, eq-eqb d n same, lt-ltb (note last_at tr) n (omega arith), lt-ltb (note place_at tr) n (omega arith), ← e, ← ok, q)

        pub notes-order : {x : ℕ} {r : Bool} → o ≡ true → x ≡ note next_order_at tr → r ≡ next_ok x → r ≡ notes_fit tr n
        unfolding notes_fit
        notes-order q i y =
            rw (← sl, eq-eqb d n same, lt-ltb (note last_at tr) n (omega arith), lt-ltb (note place_at tr) n (omega arith), ← e, ← ok, q, ← i) y

module _ (x : ℕ) where
  pub next_low : x < 1 → false ≡ next_ok x
  unfolding next_ok
  next_low h = rw (lt-leb 1 x h)

  pub next-top : 1 ≤ x → nat_le x (most_number + 1) ≡ next_ok x
  unfolding next_ok
  next-top h = rw (le-leb 1 x h)

images-shaped : (wk l : List ℕ) → images_fit wk l ≡ true → Sized wk (slots_of wk) (width_of wk)
unfolding images_fit
images-shaped wk l e = shaped wk (and_left (shape_ok wk) _ e)

module _ (wk l tr : List ℕ) {f : Bool} (fi : f ≡ images_fit wk l) where
  pub sizes-images : f ≡ false → false ≡ sizes_fit wk l tr
  unfolding sizes_fit
  sizes-images e = rw (← fi, e)

  pub images-in : (j : ℕ) → f ≡ true → j < 3 → j < length wk
  images-in j t h = let z = images-shaped wk l (sym fi ∙ t) in omega arith

  module _ {n : ℕ} (ft : f ≡ true) (at : n ≡ slots_of wk) where
    pub images-slots-hi : n ≤ most_slots
    images-slots-hi = let z = images-shaped wk l (sym fi ∙ ft) in omega arith

    module _ {k : Bool} (th : k ≡ threads_ok (length tr) n) where
      pub sizes-threads : k ≡ false → false ≡ sizes_fit wk l tr
      unfolding sizes_fit
      sizes-threads e = rw (← fi, ft, ← at, ← th, e)

      pub sizes-notes : {r : Bool} → k ≡ true → r ≡ notes_fit tr n → r ≡ sizes_fit wk l tr
      unfolding sizes_fit
      sizes-notes e q = rw (← fi, ft, ← at, ← th, e) q

pub threads-room : (len n : ℕ) {k : Bool} → k ≡ threads_ok len n → k ≡ true → head_words ≤ len
threads-room len n e t = threads-head len n (sym e ∙ t)

-- ---- refusal 2
pub fitting-threads : {wk l tr : List ℕ} {t : ℕ} → Fitting wk l tr t → Threads tr t
fitting-threads z = z.threads

module _ (c e : ℕ) where
  pub open_none : e ≡ 0 → true ≡ open_ok c e
  unfolding open_ok
  open_none h = rw (eq-eqb e 0 h)

  pub open-now : (e ≢ 0) → e ≡ c → true ≡ open_ok c e
  unfolding open_ok
  open-now h k = rw (ne_eqb e 0 h, eq-eqb e c k)

  pub open-before : {a b : ℕ} → (e ≢ 0) → (e ≢ c) → a ≡ e → b ≡ c → (a + 1 == b) ≡ open_ok c e
  unfolding open_ok
  open-before h k p q = rw (ne_eqb e 0 h, ne_eqb e c k, p, q)

-- a loop passes over what is known to pass
pub held-sure : {p : ℕ → Bool} {n i : ℕ} → Held p n i → i < n → true ≡ p i → Held p n (i + 1)
held-sure z h e = held_next z h e refl

pub opens-is : (tr : List ℕ) (t c : ℕ) {r : Bool} → r ≡ every (λ thread. open_ok c (open_epoch tr thread)) t → r ≡ opens_ok tr t c
unfolding opens_ok open_ok
opens-is tr t c e = e

module _ (wk l tr : List ℕ) (t : ℕ) {c : ℕ} {k : Bool} (at : c ≡ clock_of wk) (ck : k ≡ clock_ok c) where
  pub clocks-bad : k ≡ false → false ≡ clocks_fit wk l tr t
  unfolding clocks_fit
  clocks-bad e = rw (← at, ← ck, e)

  pub clocks-differ : k ≡ true → (clock_of l ≢ c) → false ≡ clocks_fit wk l tr t
  unfolding clocks_fit
  clocks-differ e d = rw (← at, ← ck, e, ne_eqb (clock_of l) c d)

  pub clocks-opens : {r : Bool} → k ≡ true → clock_of l ≡ c → r ≡ opens_ok tr t c → r ≡ clocks_fit wk l tr t
  unfolding clocks_fit
  clocks-opens e d q = rw (← at, ← ck, e, eq-eqb (clock_of l) c d) q

module _ (wk l tr : List ℕ) {s : Bool} (sf : s ≡ sizes_fit wk l tr) where
  pub entry-sizes : s ≡ false → Err BadSizes ≡ entry_check (store wk l tr)
  unfolding entry_check sizes_fit
  entry-sizes e = rw (← sf, e)

  module _ (st : s ≡ true) where
    pub entry_in : (j : ℕ) → j < 3 → j < length wk
    entry_in j h = let z = sizing wk l tr sf st in omega arith

    module _ {n : ℕ} (at : n ≡ slots_of wk) where
      pub entry-room : ThreadRoom (length tr) n
      unfolding sizes_of
      entry-room = let z = sizing wk l tr sf st in rw at (record { slots-hi = omega arith; room = omega arith })

      module _ {t : ℕ} (ts : t ≡ threads_of (length tr) n) where
        pub entry-fitting : Fitting wk l tr t
        unfolding sizes_of
        entry-fitting =
            let z = sizing wk l tr sf st in
            rw (ts, at) (record { working = omega arith; persistent = omega arith; threads = record { room = omega arith; few = omega arith } })

        module _ {k : Bool} (ck : k ≡ clocks_fit wk l tr t) where
          pub entry-clock : k ≡ false → Err BadClock ≡ entry_check (store wk l tr)
          unfolding entry_check sizes_fit clocks_fit
          entry-clock e = let q : clocks_fit wk l tr (sizes_of (table wk tr)).t ≡ false = rw (sizes-t wk tr, ← at, ← ts) (sym ck ∙ e) in rw (← sf, st, q)

          pub entry-fine : k ≡ true → Ok tt ≡ entry_check (store wk l tr)
          unfolding entry_check sizes_fit clocks_fit
          entry-fine e = let q : clocks_fit wk l tr (sizes_of (table wk tr)).t ≡ true = rw (sizes-t wk tr, ← at, ← ts) (sym ck ∙ e) in rw (← sf, st, q)

pub ruleset laws = (tests, requires-laws, storings, threads-wrap, sizable-room, sizes-made, blank-set, last_stored, uid-stored, order-stored, place-below, place-stored, open-stored, retired-stored)

pub ruleset entries = (everies, alike-slots, alike-width, images-working, images-length, images-paired, images-alike, notes-slots, notes-last, notes-place, notes-uid, notes-order, next_low, next-top, sizes-images, images-in, images-slots-hi, sizes-threads, sizes-notes, threads-room, fitting-threads, open_none, open-now, open-before, held-sure, opens-is, clocks-bad, clocks-differ, clocks-opens, entry-sizes, entry_in, entry-room, entry-fitting, entry-clock, entry-fine)
