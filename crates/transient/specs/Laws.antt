-- Get/set laws of the notes, by name: what each writer leaves in its own note, and that the other notes stay.
use Rattle.std.specs.Prelude.{◌≡◌, ℕ, ◌+◌, ◌-◌, ◌/◌, ◌%◌, ◌<◌, ◌≤◌, true, false, ◌≢◌, ◌⊎◌, List, length, replicate, nat_le, slice_index, slice_index_or, slice_set, refl}
use Rattle.std.proofs.Common.{◌∙◌, ⊎_elim, leb-true}
use Rattle.std.proofs.Math.Logic.{inl, inr}
use Rattle.std.proofs.Math.ListN.{length-set, get_or-replicate, get_or-eq_default}
use Rattle.std.proofs.lemmas.List.{length-replicate}
use Rattle.std.proofs.Math.Seq.{get_or-set_same, get_or-set_other}
use native.Mathlib.Omega.{arith}
use Rattle.std.proofs.Math.Decide.{ℕ_discrete, dec_lt}
use Rattle.search.specs.Bools.{and_left}
use Rattle.image.specs.Layout.{most_slots}
use Rattle.image.specs.Laws.{length-stored, stored-outside, stored-inside}
use Rattle.transient.specs.declared.sizes.Sizes.{Sizes}
use Rattle.transient.specs.Layout.{slots_at, last_at, next_uid_at, next_order_at, phase_at, place_at, lists_at, head_words, open_at, retired_at, waiting_at, index_at, threads_of, threads_ok, note, open_epoch, retired_in, has_bit, is_waiting, set_note, set_open, set_retired, with_bit, set_waiting, set_place, emptied, blank}
use Rattle.transient.specs.Requires.{Notes}
use Rattle.transient.specs.Bits.{bit-same, bit-other, bit-none}
use Rattle.transient.specs.Lists.{word_low, word-high, bits-apart, word_same}

-- ---- a frame: all words but the k from `at` on stay
record Only (tr tr' : List ℕ) (at k : ℕ) : Type 0 where
  long : length tr' ≡ length tr
  words : (j : ℕ) → (j < at) ⊎ (at + k ≤ j) → slice_index tr' j ≡ slice_index tr j

one_word : (tr : List ℕ) (i v : ℕ) → Only tr (slice_set tr i v) i 1
one_word tr i v = record { long = length-set tr i v; words = λ j o. get_or-set_other tr i j v 0 (λ q. ⊎_elim (λ h. omega arith) (λ h. omega arith) o) }

module _ (tr : List ℕ) where
  last-only : (s : ℕ) → Only tr (set_note last_at tr s) last_at 1
  unfolding set_note
  last-only s = one_word tr last_at s

  uid-only : (u : ℕ) → Only tr (set_note next_uid_at tr u) next_uid_at 1
  unfolding set_note
  uid-only u = one_word tr next_uid_at u

  order-only : (x : ℕ) → Only tr (set_note next_order_at tr x) next_order_at 1
  unfolding set_note
  order-only x = one_word tr next_order_at x

  open-only : (thread e : ℕ) → Only tr (set_open tr thread e) (open_at thread) 1
  unfolding set_open
  open-only thread e = one_word tr (open_at thread) e

  place-only : (phase slot : ℕ) → Only tr (set_place tr phase slot) phase_at 2
  unfolding set_place
  place-only phase slot =
      let a = one_word tr phase_at phase in
      let b = one_word (slice_set tr phase_at phase) place_at slot in
      record {
        long = b.long ∙ a.long;
        words = λ j o. b.words j (⊎_elim (λ h. inl (omega arith)) (λ h. inr (omega arith)) o) ∙ a.words j (⊎_elim (λ h. inl h) (λ h. inr (omega arith)) o);
      }

  waiting-only : (e s : ℕ) → Only tr (set_waiting tr e s) (waiting_at e s) 1
  unfolding set_waiting
  waiting-only e s = one_word tr (waiting_at e s) (with_bit (slice_index tr (waiting_at e s)) (s % 32))

  list-only : (e : ℕ) → Only tr (emptied tr e) (waiting_at e 0) 32
  unfolding emptied
  list-only e =
      record { long = length-stored tr (waiting_at e 0) (replicate 32 0) 32; words = λ j o. stored-outside tr (waiting_at e 0) (replicate 32 0) 32 j o }

  module _ (z : Sizes) where
    retired-only : (s e : ℕ) → Only tr (set_retired z tr s e) (retired_at z s) 1
    unfolding set_retired
    retired-only s e = one_word tr (retired_at z s) e

-- ---- by name: what is no slot's, and what is a slot's
-- the threads' operations and the place
pub record HeadKept (z : Sizes) (tr tr' : List ℕ) : Type 0 where
  pub long : length tr' ≡ length tr
  pub opens : (thread : ℕ) → thread < z.t → open_epoch tr' thread ≡ open_epoch tr thread
  pub phase : note phase_at tr' ≡ note phase_at tr
  pub slot : note place_at tr' ≡ note place_at tr

-- the whole head
pub record FrontKept (z : Sizes) (tr tr' : List ℕ) : Type 0 where
  pub head : HeadKept z tr tr'
  pub noted : note slots_at tr' ≡ note slots_at tr
  pub last : note last_at tr' ≡ note last_at tr
  pub uid : note next_uid_at tr' ≡ note next_uid_at tr
  pub order : note next_order_at tr' ≡ note next_order_at tr

pub front_same : {z : Sizes} {tr : List ℕ} → FrontKept z tr tr
front_same = record { head = record { long = refl; opens = λ u h. refl; phase = refl; slot = refl }; noted = refl; last = refl; uid = refl; order = refl }

-- a slot's retirement, and whether it waits in each list
pub record SlotKept (z : Sizes) (tr tr' : List ℕ) (m : ℕ) : Type 0 where
  pub retired : retired_in z tr' m ≡ retired_in z tr m
  pub waiting : (d : ℕ) → is_waiting tr' d m ≡ is_waiting tr d m

pub head-then : {z : Sizes} {a b c : List ℕ} → HeadKept z a b → HeadKept z b c → HeadKept z a c
head-then x y =
    record { long = y.long ∙ x.long; opens = λ u h. y.opens u h ∙ x.opens u h; phase = y.phase ∙ x.phase; slot = y.slot ∙ x.slot }

pub slot-then : {z : Sizes} {a b c : List ℕ} {m : ℕ} → SlotKept z a b m → SlotKept z b c m → SlotKept z a c m
slot-then x y = record { retired = y.retired ∙ x.retired; waiting = λ d. y.waiting d ∙ x.waiting d }

-- the index
pub record IndexKept (z : Sizes) (tr tr' : List ℕ) : Type 0 where
  pub words : (j : ℕ) → index_at z ≤ j → slice_index tr' j ≡ slice_index tr j

pub index-then : {z : Sizes} {a b c : List ℕ} → IndexKept z a b → IndexKept z b c → IndexKept z a c
index-then x y = record { words = λ j h. y.words j h ∙ x.words j h }

-- all but the index
pub record IndexOnly (z : Sizes) (tr tr' : List ℕ) : Type 0 where
  pub long : length tr' ≡ length tr
  pub words : (j : ℕ) → j < index_at z → slice_index tr' j ≡ slice_index tr j

module _ {z : Sizes} {tr tr' : List ℕ} (o : IndexOnly z tr tr') where
  pub beside-front : FrontKept z tr tr'
  beside-front =
      record {
        head =
            record {
              long = o.long;
              opens = λ u h. o.words (open_at u) (omega arith);
              phase = o.words phase_at (omega arith);
              slot = o.words place_at (omega arith);
            };
        noted = o.words slots_at (omega arith);
        last = o.words last_at (omega arith);
        uid = o.words next_uid_at (omega arith);
        order = o.words next_order_at (omega arith);
      }

  pub beside-slots : (m : ℕ) → m < z.n → SlotKept z tr tr' m
  beside-slots m h =
      record {
        retired = o.words (retired_at z m) (omega arith);
        waiting = λ d. word_same tr tr' d m (o.words (waiting_at d m) (omega arith));
      }

module _ {tr tr' : List ℕ} {at k : ℕ} (o : Only tr tr' at k) where
  -- what is written before the place leaves the head
  head-kept : (z : Sizes) → at + k ≤ phase_at → HeadKept z tr tr'
  head-kept z c =
      record {
        long = o.long;
        opens = λ u h. o.words (open_at u) (inr (omega arith));
        phase = o.words phase_at (inr c);
        slot = o.words place_at (inr (omega arith));
      }

  -- what is written in the lists or among the slots leaves the whole head
  front_kept : (z : Sizes) → lists_at ≤ at → (at + k ≤ head_words) ⊎ (head_words + z.t ≤ at) → FrontKept z tr tr'
  front_kept z h c =
      record {
        head =
            record {
              long = o.long;
              opens = λ u i. o.words (open_at u) (⊎_elim (λ q. inr (omega arith)) (λ q. inl (omega arith)) c);
              phase = o.words phase_at (inl (omega arith));
              slot = o.words place_at (inl (omega arith));
            };
        noted = o.words slots_at (inl (omega arith));
        last = o.words last_at (inl (omega arith));
        uid = o.words next_uid_at (inl (omega arith));
        order = o.words next_order_at (inl (omega arith));
      }

  -- what is written before the lists leaves every slot's
  slot_kept : (z : Sizes) → at + k ≤ lists_at → (m : ℕ) → SlotKept z tr tr' m
  slot_kept z h m = record { retired = o.words (retired_at z m) (inr (omega arith)); waiting = λ d. word_same tr tr' d m (o.words (waiting_at d m) (inr (omega arith))) }

  -- what is written before the index leaves it
  index_kept : (z : Sizes) → at + k ≤ index_at z → IndexKept z tr tr'
  index_kept z h = record { words = λ j i. o.words j (inr (omega arith)) }

  uid-kept : (at + k ≤ next_uid_at) ⊎ (next_uid_at < at) → note next_uid_at tr' ≡ note next_uid_at tr
  uid-kept c = o.words next_uid_at (⊎_elim (λ q. inr q) (λ q. inl q) c)

  order-kept : (at + k ≤ next_order_at) ⊎ (next_order_at < at) → note next_order_at tr' ≡ note next_order_at tr
  order-kept c = o.words next_order_at (⊎_elim (λ q. inr q) (λ q. inl q) c)

-- ---- .. after each writer
module _ (tr : List ℕ) (z : Sizes) where
  module _ (s : ℕ) where
    pub last-head : HeadKept z tr (set_note last_at tr s)
    last-head = head-kept (last-only tr s) z (omega arith)

    pub last-slots : (m : ℕ) → SlotKept z tr (set_note last_at tr s) m
    last-slots = slot_kept (last-only tr s) z (omega arith)

    pub last-index : IndexKept z tr (set_note last_at tr s)
    last-index = index_kept (last-only tr s) z (omega arith)

    pub last-noted : note slots_at (set_note last_at tr s) ≡ note slots_at tr
    last-noted = (last-only tr s).words slots_at (inl (omega arith))

    pub last-uid : note next_uid_at (set_note last_at tr s) ≡ note next_uid_at tr
    last-uid = uid-kept (last-only tr s) (inl (omega arith))

    pub last-order : note next_order_at (set_note last_at tr s) ≡ note next_order_at tr
    last-order = order-kept (last-only tr s) (inl (omega arith))

  module _ (u : ℕ) where
    pub uid-head : HeadKept z tr (set_note next_uid_at tr u)
    uid-head = head-kept (uid-only tr u) z (omega arith)

    pub uid-slots : (m : ℕ) → SlotKept z tr (set_note next_uid_at tr u) m
    uid-slots = slot_kept (uid-only tr u) z (omega arith)

    pub uid-index : IndexKept z tr (set_note next_uid_at tr u)
    uid-index = index_kept (uid-only tr u) z (omega arith)

    pub uid-noted : note slots_at (set_note next_uid_at tr u) ≡ note slots_at tr
    uid-noted = (uid-only tr u).words slots_at (inl (omega arith))

    pub uid-last : note last_at (set_note next_uid_at tr u) ≡ note last_at tr
    uid-last = (uid-only tr u).words last_at (inl (omega arith))

    pub uid-order : note next_order_at (set_note next_uid_at tr u) ≡ note next_order_at tr
    uid-order = order-kept (uid-only tr u) (inl (omega arith))

  module _ (x : ℕ) where
    pub order-head : HeadKept z tr (set_note next_order_at tr x)
    order-head = head-kept (order-only tr x) z (omega arith)

    pub order-slots : (m : ℕ) → SlotKept z tr (set_note next_order_at tr x) m
    order-slots = slot_kept (order-only tr x) z (omega arith)

    pub order-index : IndexKept z tr (set_note next_order_at tr x)
    order-index = index_kept (order-only tr x) z (omega arith)

    pub order-uid : note next_uid_at (set_note next_order_at tr x) ≡ note next_uid_at tr
    order-uid = uid-kept (order-only tr x) (inr (omega arith))

  module _ (thread e : ℕ) where
    pub open-slots : thread < z.t → (m : ℕ) → m < most_slots → SlotKept z tr (set_open tr thread e) m
    open-slots h m k =
        let o = open-only tr thread e in
        record {
          retired = o.words (retired_at z m) (inr (omega arith));
          waiting = λ d. word_same tr (set_open tr thread e) d m (o.words (waiting_at d m) (inl (omega (arith, word-high d m k))));
        }

    pub open-index : thread < z.t → IndexKept z tr (set_open tr thread e)
    open-index h = index_kept (open-only tr thread e) z (omega arith)

    pub open-long : length (set_open tr thread e) ≡ length tr
    open-long = (open-only tr thread e).long

    pub open-phase : note phase_at (set_open tr thread e) ≡ note phase_at tr
    open-phase = (open-only tr thread e).words phase_at (inl (omega arith))

    pub open-slot : note place_at (set_open tr thread e) ≡ note place_at tr
    open-slot = (open-only tr thread e).words place_at (inl (omega arith))

    pub open-uid : note next_uid_at (set_open tr thread e) ≡ note next_uid_at tr
    open-uid = uid-kept (open-only tr thread e) (inr (omega arith))

    pub open_order : note next_order_at (set_open tr thread e) ≡ note next_order_at tr
    open_order = order-kept (open-only tr thread e) (inr (omega arith))

  module _ (phase slot : ℕ) where
    pub place-long : length (set_place tr phase slot) ≡ length tr
    place-long = (place-only tr phase slot).long

    pub place-opens : (thread : ℕ) → open_epoch (set_place tr phase slot) thread ≡ open_epoch tr thread
    place-opens thread = (place-only tr phase slot).words (open_at thread) (inr (omega arith))

    pub place-slots : (m : ℕ) → SlotKept z tr (set_place tr phase slot) m
    place-slots = slot_kept (place-only tr phase slot) z (omega arith)

    pub place-index : IndexKept z tr (set_place tr phase slot)
    place-index = index_kept (place-only tr phase slot) z (omega arith)

    pub place-noted : note slots_at (set_place tr phase slot) ≡ note slots_at tr
    place-noted = (place-only tr phase slot).words slots_at (inl (omega arith))

    pub place-last : note last_at (set_place tr phase slot) ≡ note last_at tr
    place-last = (place-only tr phase slot).words last_at (inl (omega arith))

    pub place-uid : note next_uid_at (set_place tr phase slot) ≡ note next_uid_at tr
    place-uid = uid-kept (place-only tr phase slot) (inr (omega arith))

    pub place-order : note next_order_at (set_place tr phase slot) ≡ note next_order_at tr
    place-order = order-kept (place-only tr phase slot) (inr (omega arith))

  module _ (s e : ℕ) where
    pub retired-front : FrontKept z tr (set_retired z tr s e)
    retired-front = front_kept (retired-only tr z s e) z (omega arith) (inr (omega arith))

    pub retired-index : s < z.n → IndexKept z tr (set_retired z tr s e)
    retired-index h = index_kept (retired-only tr z s e) z (omega arith)

  module _ (e s : ℕ) where
    pub waiting-long : length (set_waiting tr e s) ≡ length tr
    waiting-long = (waiting-only tr e s).long

  module _ (e : ℕ) where
    pub emptied-front : FrontKept z tr (emptied tr e)
    emptied-front = front_kept (list-only tr e) z (word_low e 0) (inl (omega arith))

    pub emptied-index : IndexKept z tr (emptied tr e)
    emptied-index = index_kept (list-only tr e) z (omega arith)

-- ---- blank notes
pub zeros-at : (k j : ℕ) → ◌≡◌ {A = ℕ} (slice_index (replicate k 0) j) 0
zeros-at k j = elim (dec_lt j k) [
  | yes h ↦ get_or-replicate k j 0 0 h
  | no h ↦ get_or-eq_default (replicate k 0) 0 (omega (arith, length-replicate {A = ℕ} k 0))
]

pub threads-head : (len n : ℕ) → threads_ok len n ≡ true → head_words ≤ len
unfolding threads_ok
threads-head len n e = omega (arith, leb-true 1 (threads_of len n) (and_left (nat_le 1 (threads_of len n)) _ e))

module _ (len n u x : ℕ) where
  pub blank-length : length (blank len n u x) ≡ len
  unfolding blank
  blank-length = simp (length-set, length-replicate)

  -- the notes before the order number is set
  numbered : List ℕ
  numbered = slice_set (slice_set (slice_set (replicate len 0) slots_at n) last_at (n - 1)) next_uid_at u

  blank-zeros : (j : ℕ) → next_order_at < j → slice_index (blank len n u x) j ≡ 0
  unfolding blank numbered
  blank-zeros j h =
      get_or-set_other numbered next_order_at j x 0 (λ q. omega arith)
      ∙ get_or-set_other (slice_set (slice_set (replicate len 0) slots_at n) last_at (n - 1)) next_uid_at j u 0 (λ q. omega arith)
      ∙ get_or-set_other (slice_set (replicate len 0) slots_at n) last_at j (n - 1) 0 (λ q. omega arith)
      ∙ get_or-set_other (replicate len 0) slots_at j n 0 (λ q. omega arith)
      ∙ zeros-at len j

  pub blank-uid : head_words ≤ len → note next_uid_at (blank len n u x) ≡ u
  unfolding blank numbered
  blank-uid h =
      get_or-set_other numbered next_order_at next_uid_at x 0 (λ q. omega arith)
      ∙ get_or-set_same (slice_set (slice_set (replicate len 0) slots_at n) last_at (n - 1)) next_uid_at u 0
      (simp (length-set, length-replicate) (omega arith))

  pub blank-order : head_words ≤ len → note next_order_at (blank len n u x) ≡ x
  unfolding blank numbered
  blank-order h = get_or-set_same numbered next_order_at x 0 (simp (length-set, length-replicate) (omega arith))

  pub blank-phase : note phase_at (blank len n u x) ≡ 0
  blank-phase = blank-zeros phase_at (omega arith)

  pub blank-open : (thread : ℕ) → open_epoch (blank len n u x) thread ≡ 0
  blank-open thread = blank-zeros (open_at thread) (omega arith)

  pub blank-retired : (z : Sizes) (s : ℕ) → retired_in z (blank len n u x) s ≡ 0
  blank-retired z s = blank-zeros (retired_at z s) (omega arith)

  pub blank-index : (z : Sizes) (j : ℕ) → index_at z ≤ j → slice_index (blank len n u x) j ≡ 0
  blank-index z j h = blank-zeros j (omega arith)

-- ---- each writer's own note
module _ {tr : List ℕ} {z : Sizes} (y : Notes tr z) where
  pub last_set : (s : ℕ) → note last_at (set_note last_at tr s) ≡ s
  unfolding set_note
  last_set s = get_or-set_same tr last_at s 0 (omega (arith, y.long))

  pub uid-set : (u : ℕ) → note next_uid_at (set_note next_uid_at tr u) ≡ u
  unfolding set_note
  uid-set u = get_or-set_same tr next_uid_at u 0 (omega (arith, y.long))

  pub order-set : (x : ℕ) → note next_order_at (set_note next_order_at tr x) ≡ x
  unfolding set_note
  order-set x = get_or-set_same tr next_order_at x 0 (omega (arith, y.long))

  pub phase-set : (phase slot : ℕ) → note phase_at (set_place tr phase slot) ≡ phase
  unfolding set_place
  phase-set phase slot = get_or-set_other (slice_set tr phase_at phase) place_at phase_at slot 0 (λ q. omega arith) ∙ get_or-set_same tr phase_at phase 0 (omega (arith, y.long))

  pub slot-set : (phase slot : ℕ) → note place_at (set_place tr phase slot) ≡ slot
  unfolding set_place
  slot-set phase slot = get_or-set_same (slice_set tr phase_at phase) place_at slot 0 (omega (arith, length-set tr phase_at phase, y.long))

  -- an operation opened or ended: the other threads' stay
  pub open-same : (thread e : ℕ) → thread < z.t → open_epoch (set_open tr thread e) thread ≡ e
  unfolding set_open
  open-same thread e h = get_or-set_same tr (open_at thread) e 0 (omega (arith, y.long))

  pub open-other : (thread e u : ℕ) → u ≢ thread → open_epoch (set_open tr thread e) u ≡ open_epoch tr u
  unfolding set_open
  open-other thread e u d = get_or-set_other tr (open_at thread) (open_at u) e 0 (λ q. d (omega arith))

  few : (s : ℕ) → s < z.n → s < most_slots
  few s h = omega (arith, y.slots-hi)

  -- a slot retired, or no longer: the other slots' notes stay, and all lists
  pub retired-same : (s e : ℕ) → s < z.n → retired_in z (set_retired z tr s e) s ≡ e
  unfolding set_retired
  retired-same s e h = get_or-set_same tr (retired_at z s) e 0 (omega (arith, y.long))

  pub retired-waiting : (s e d m : ℕ) → m < z.n → is_waiting (set_retired z tr s e) d m ≡ is_waiting tr d m
  retired-waiting s e d m h = word_same tr (set_retired z tr s e) d m ((retired-only tr z s e).words (waiting_at d m) (inl (omega (arith, word-high d m (few m h)))))

  pub retired-aside : (s e m : ℕ) → m < z.n → m ≢ s → SlotKept z tr (set_retired z tr s e) m
  unfolding set_retired
  retired-aside s e m h d =
      record { retired = get_or-set_other tr (retired_at z s) (retired_at z m) e 0 (λ q. d (omega arith)); waiting = λ f. retired-waiting s e f m h }

  -- a slot joins a list: it leaves none, and the other slots' notes stay
  module _ (e s : ℕ) (h : s < z.n) where
    list-room : waiting_at e s < length tr
    list-room = omega (arith, word-high e s (few s h), y.long)

    pub waiting-front : FrontKept z tr (set_waiting tr e s)
    waiting-front = front_kept (waiting-only tr e s) z (word_low e s) (inl (omega (arith, word-high e s (few s h))))

    pub waiting-index : IndexKept z tr (set_waiting tr e s)
    waiting-index = index_kept (waiting-only tr e s) z (omega (arith, word-high e s (few s h)))

    -- its word, and the others
    module _ (d m : ℕ) where
      same_word : waiting_at d m ≡ waiting_at e s → is_waiting (set_waiting tr e s) d m ≡ has_bit (with_bit (slice_index tr (waiting_at d m)) (s % 32)) (m % 32)
      unfolding is_waiting set_waiting
      same_word q = rw (q, get_or-set_same tr (waiting_at e s) (with_bit (slice_index tr (waiting_at e s)) (s % 32)) 0 list-room)

      other_word : waiting_at d m ≢ waiting_at e s → is_waiting (set_waiting tr e s) d m ≡ is_waiting tr d m
      unfolding set_waiting
      other_word q = word_same tr (set_waiting tr e s) d m (get_or-set_other tr (waiting_at e s) (waiting_at d m) (with_bit (slice_index tr (waiting_at e s)) (s % 32)) 0 q)

    pub waiting-joined : is_waiting (set_waiting tr e s) e s ≡ true
    waiting-joined = same_word e s refl ∙ bit-same (s % 32) (slice_index tr (waiting_at e s))

    pub waiting_stays : (d : ℕ) → is_waiting tr d s ≡ true → is_waiting (set_waiting tr e s) d s ≡ true
    waiting_stays d k = elim (ℕ_discrete (waiting_at d s) (waiting_at e s)) [
      | yes q ↦ same_word d s q ∙ bit-same (s % 32) (slice_index tr (waiting_at d s))
      | no q ↦ other_word d s q ∙ k
    ]

    pub waiting-retired : (m : ℕ) → m < z.n → retired_in z (set_waiting tr e s) m ≡ retired_in z tr m
    waiting-retired m k = (waiting-only tr e s).words (retired_at z m) (inr (omega (arith, word-high e s (few s h))))

    pub waiting-aside : (m : ℕ) → m < z.n → m ≢ s → SlotKept z tr (set_waiting tr e s) m
    unfolding is_waiting
    waiting-aside m k o = record { retired = waiting-retired m k; waiting = beside }
      where
        beside : (d : ℕ) → is_waiting (set_waiting tr e s) d m ≡ is_waiting tr d m
        beside d = elim (ℕ_discrete (waiting_at d m) (waiting_at e s)) [
          | yes q ↦ same_word d m q ∙ bit-other (m % 32) (s % 32) (slice_index tr (waiting_at d m)) (bits-apart d m e s (few m k) (few s h) o q)
          | no q ↦ other_word d m q
        ]

  -- a list emptied: the other one stays, and so does what is retired
  pub emptied-none : (e s : ℕ) → s < z.n → is_waiting (emptied tr e) e s ≡ false
  unfolding emptied is_waiting
  emptied-none e s h =
      let at : waiting_at e s ≡ waiting_at e 0 + s / 32 = omega arith in
      let low : s / 32 < 32 = omega (arith, y.slots-hi) in
      let none : slice_index_or (emptied tr e) (waiting_at e s) 0 ≡ 0 = rw at (stored-inside tr (waiting_at e 0) (replicate 32 0) 32 (s / 32) low (omega (arith, y.long)) ∙ get_or-replicate 32 (s / 32) 0 0 low) in
      rw none (bit-none (s % 32))

  pub emptied-next : (e s : ℕ) → s < z.n → is_waiting (emptied tr e) (e + 1) s ≡ is_waiting tr (e + 1) s
  emptied-next e s h =
      word_same tr (emptied tr e) (e + 1) s
      ((list-only tr e).words (waiting_at (e + 1) s) (elim (ℕ_discrete (e % 2) 0) [ yes q ↦ inr (omega arith) | no q ↦ inl (omega (arith, y.slots-hi)) ]))

  pub emptied-retired : (e m : ℕ) → m < z.n → retired_in z (emptied tr e) m ≡ retired_in z tr m
  emptied-retired e m h = (list-only tr e).words (retired_at z m) (inr (omega arith))
