-- The ways out of this crate's functions: a law for each, and for each call.
use Rattle.std.specs.Prelude.{ℕ, ◌+◌, ◌*◌, ◌-◌, ◌≤◌, ◌<◌, ◌≡◌, refl, List, ◌++◌, Bool, true, false, length, get_or, set, take, drop, replicate, leb, ltb, eqb}
use Rattle.std.proofs.Common.{sym, ◌∙◌, ⊎_elim, length-take, length-drop, arith, Fits}
use Rattle.std.proofs.lemmas.List.{length-replicate}
use borrow.Author.Tests.{eq-eqb, ne_eqb}
use Rattle.std.specs.Int.{w64}
use Rattle.search.specs.Bools.{cases, tests}
use Rattle.image.specs.declared.header.Header.{Header}
use Rattle.image.specs.declared.name.Name.{Name}
use Rattle.image.specs.Layout.{most_number, queue_board, header_words, header_at, contents_at, image_words, header_of, is_blank, has_zero, is_filled, is_payload, header, contents, key_at, slots_of, width_of, sizes_ok, shape_ok}
use Rattle.image.specs.Line.{header_line, contents_line, clock_line, stored, store_line}
use Rattle.image.specs.Name.{name_of, name_at, misnamed}
use Rattle.image.specs.Requires.{kind_at, epoch_at, uid_at, board_at, held_header, HeaderFits, InRange, Slot, SlotOf, Slots, slot, header-fits, slot_of}
use Rattle.image.specs.Bytes.{words_of, Decodes, words-length}
use Rattle.image.specs.Laws.{area-top, sizes-true, shaped, length-contents, part-is, part-stored, part-line, header-part}
use Rattle.image.specs.Storing.{storings}

-- ---- headers
pub header_read : (l : List ℕ) (s : ℕ) {a b c d : ℕ} → a ≡ kind_at l s → b ≡ epoch_at l s → c ≡ uid_at l s → d ≡ board_at l s → header_of a b c d ≡ header l s
unfolding header
header_read l s p q r t = rw (p, q, r, t)

pub header-stored : (l : List ℕ) (s : ℕ) (h : Header)
    → set (set (set (set l (header_at s) h.kind) (header_at s + 1) h.epoch) (header_at s + 2) h.uid) (header_at s + 3) h.board ≡ store_line l (header_line s h)
unfolding store_line stored
header-stored l s h = let first : header_at s + 0 ≡ header_at s = omega arith in rw first

-- the part that is a header: its end, and what a part with another image's header makes
header-end : {l : List ℕ} {n s : ℕ} → HeaderFits l n s → header_at s + header_words ≤ length l
header-end z = omega (arith, z.long, z.within)

pub header-copied : {a d : List ℕ} {n s : ℕ} {y : List ℕ} → HeaderFits a n s → HeaderFits d n s
    → y ≡ take (header_at s + header_words - header_at s) (drop (header_at s) a)
    → take (header_at s) d ++ (y ++ drop (header_at s + header_words - header_at s) (drop (header_at s) d)) ≡ store_line d (held_header a s)
header-copied {a} {d} {n} {s} x z e =
    let e' : header_at s + header_words - header_at s ≡ header_words = omega arith in
    rw (e, e', header-part a s (header-end x)) (part-line d (held_header a s) header_words refl (header-end z))

module _ (h : Header) where
  pub blank-kind : (h.kind ≡ 0 → ⊥) → false ≡ is_blank h
  unfolding is_blank
  blank-kind a = rw (ne_eqb h.kind 0 a)

  pub zero-kind : h.kind ≡ 0 → true ≡ has_zero h
  unfolding has_zero
  zero-kind a = rw (eq-eqb h.kind 0 a)

  module _ (a : h.kind ≡ 0) where
    pub blank-epoch : (h.epoch ≡ 0 → ⊥) → false ≡ is_blank h
    unfolding is_blank
    blank-epoch b = rw (eq-eqb h.kind 0 a, ne_eqb h.epoch 0 b)

    module _ (b : h.epoch ≡ 0) where
      pub blank-uid : (h.uid ≡ 0 → ⊥) → false ≡ is_blank h
      unfolding is_blank
      blank-uid u = rw (eq-eqb h.kind 0 a, eq-eqb h.epoch 0 b, ne_eqb h.uid 0 u)

      pub blank-rest : h.uid ≡ 0 → eqb h.board 0 ≡ is_blank h
      unfolding is_blank
      blank-rest u = rw (eq-eqb h.kind 0 a, eq-eqb h.epoch 0 b, eq-eqb h.uid 0 u)

  module _ (a : h.kind ≡ 0 → ⊥) where
    pub zero-epoch : h.epoch ≡ 0 → true ≡ has_zero h
    unfolding has_zero
    zero-epoch b = rw (ne_eqb h.kind 0 a, eq-eqb h.epoch 0 b)

    module _ (b : h.epoch ≡ 0 → ⊥) where
      pub zero-uid : h.uid ≡ 0 → true ≡ has_zero h
      unfolding has_zero
      zero-uid u = rw (ne_eqb h.kind 0 a, ne_eqb h.epoch 0 b, eq-eqb h.uid 0 u)

      pub zero_rest : (h.uid ≡ 0 → ⊥) → eqb h.board 0 ≡ has_zero h
      unfolding has_zero
      zero_rest u = rw (ne_eqb h.kind 0 a, ne_eqb h.epoch 0 b, ne_eqb h.uid 0 u)

  module _ {z : Bool} (ze : z ≡ has_zero h) where
    pub filled_zero : z ≡ true → false ≡ is_filled h
    unfolding is_filled
    filled_zero e = rw (← ze, e)

    pub filled-kind : z ≡ false → leb h.kind 3 ≡ is_filled h
    unfolding is_filled
    filled-kind e = rw (← ze, e)

    pub payload-zero : z ≡ true → false ≡ is_payload h
    unfolding is_payload
    payload-zero e = rw (← ze, e)

    pub payload-kind : z ≡ false → leb h.kind 2 ≡ is_payload h
    unfolding is_payload
    payload-kind e = rw (← ze, e)

pub ruleset headers = (blank-kind, blank-epoch, blank-uid, blank-rest, zero-kind, zero-epoch, zero-uid, zero_rest, filled_zero, filled-kind, payload-zero, payload-kind)

-- ---- contents
pub contents-fits : {n w s : ℕ} → SlotOf n w s → Fits w64 (w * s)
contents-fits z = omega (arith, z.room, area-top z.sizes)

pub contents-top : {n w s : ℕ} → SlotOf n w s → Fits w64 (contents_at n w s)
contents-top z = omega (arith, z.room, area-top z.sizes, z.sizes.slots-hi)

pub key_in : (l : List ℕ) (n w s : ℕ) {b : ℕ} → Slot l n w s → b ≡ contents_at n w s → b < length l
key_in l n w s z e = omega (arith, z.room, z.sized.long, z.sized.sizes.width-lo)

pub key-is : (l : List ℕ) (n w s : ℕ) {b : ℕ} → b ≡ contents_at n w s → get_or l b 0 ≡ key_at l n w s
unfolding key_at
key-is l n w s e = rw e

pub contents-copied : {a d : List ℕ} {n w s b : ℕ} {y : List ℕ} → Slots a d n w s → b ≡ contents_at n w s → y ≡ take (b + w - b) (drop b a)
    → take b d ++ (y ++ drop (b + w - b) (drop b d)) ≡ store_line d (contents_line n w s (contents a n w s))
contents-copied {a} {d} {n} {w} {s} {b} z at e =
    let e' : b + w - b ≡ w = omega arith in
    let end : contents_at n w s + w ≤ length d = omega (arith, z.second.room, z.second.sized.long) in
    rw (e ∙ part-is a n w s at, e', at) (part-line d (contents_line n w s (contents a n w s)) w (length-contents z.first) end)

pub part-copied : (l src : List ℕ) (b k : ℕ) {y : List ℕ} → b + k ≤ length l → k ≤ length src → y ≡ take k src
    → take b l ++ (y ++ drop (b + k - b) (drop b l)) ≡ stored l b src k
part-copied l src b k h f e = let e' : b + k - b ≡ k = omega arith in rw (e, e') (part-stored l b src k h f)

pub part-cleared : (l : List ℕ) (b k : ℕ) {y : List ℕ} → b + k ≤ length l → y ≡ replicate (length (take (b + k - b) (drop b l))) 0
    → take b l ++ (y ++ drop (b + k - b) (drop b l)) ≡ stored l b (replicate k 0) k
unfolding store_line
part-cleared l b k h e =
    let e' : b + k - b ≡ k = omega arith in
    let long : length (take k (drop b l)) ≡ k = simp (length-take, length-drop) (omega arith) in
    let all : length (replicate {A = ℕ} k 0) ≡ k = length-replicate k 0 in
    rw (e, e', long) (rw all at (part-line l (record { at = b; words = replicate k 0 }) k all h))

-- ---- names
pub name-made : (l : List ℕ) (n w s : ℕ) {b k : ℕ} → b ≡ board_at l s → k ≡ key_at l n w s → name_of b k ≡ name_at l n w s
unfolding name_at key_at header
name-made l n w s b k = rw (b, k)

module _ (name : Name) where
  pub bad-zero : name.key ≡ 0 → true ≡ misnamed name
  unfolding misnamed
  bad-zero k = rw (eq-eqb name.key 0 k)

  pub bad-entry : (name.key ≡ 0 → ⊥) → name.board ≡ queue_board → ltb most_number name.key ≡ misnamed name
  unfolding misnamed
  bad-entry k b = rw (ne_eqb name.key 0 k, eq-eqb name.board queue_board b)

  pub bad-none : (name.key ≡ 0 → ⊥) → (name.board ≡ queue_board → ⊥) → false ≡ misnamed name
  unfolding misnamed
  bad-none k b = rw (ne_eqb name.key 0 k, ne_eqb name.board queue_board b)

-- ---- the clock
pub clock-stored : (l : List ℕ) (c : ℕ) → set l 2 c ≡ store_line l (clock_line c)
unfolding store_line stored
clock-stored l c = refl

-- ---- shape
pub area-fits : (n w : ℕ) → InRange n w → Fits w64 (w * n)
area-fits n w z = omega (arith, area-top z)

pub whole-fits : (n w : ℕ) → InRange n w → Fits w64 (image_words n w)
whole-fits n w z = omega (arith, area-top z)

pub shape-short : (l : List ℕ) → length l < 3 → false ≡ shape_ok l
shape-short l h =
    ⊎_elim
    (λ (t : shape_ok l ≡ true). let z = shaped l t in absurd (omega arith))
    (λ (f : shape_ok l ≡ false). sym f)
    (cases (shape_ok l))

module _ (l : List ℕ) {n w : ℕ} {r : Bool} (slots : n ≡ slots_of l) (width : w ≡ width_of l) (ok : r ≡ sizes_ok n w) where
  pub shape-sizes : r ≡ false → false ≡ shape_ok l
  unfolding shape_ok
  shape-sizes f = rw (← slots, ← width, ← ok, f)

  pub shape-long : {k : ℕ} → r ≡ true → k ≡ image_words n w → eqb (length l) k ≡ shape_ok l
  unfolding shape_ok
  shape-long t e = rw (← slots, ← width, ← ok, t, ← e)

-- ---- bytes
pub in_words : {bytes words : List ℕ} {k i : ℕ} → Decodes bytes words k → i < k → i < length (words_of bytes)
in_words {bytes} {words} {k} z h = rw (words-length k bytes z.whole) h

pub ruleset laws = (tests, storings, slot, header-fits, slot_of, header_read, header-stored, header-copied, contents-fits, contents-top, key_in, key-is, contents-copied, part-copied, part-cleared, name-made, bad-zero, bad-entry, bad-none, clock-stored, area-fits, whole-fits, sizes-true, shape-short, shape-sizes, shape-long, in_words)
