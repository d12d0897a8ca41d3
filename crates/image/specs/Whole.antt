-- What the tests of a header say: no word of it is 0, it is filled, it is a payload, it is four zeros.
use Rattle.std.specs.Prelude.{ℕ, ◌≤◌, ◌≡◌, refl, true, false, not, ◌&&◌, leb}
use Rattle.std.proofs.Math.Dec.{eqb}
use borrow.Author.Tests.{leb-true, le-leb, eqb-true, eqb-false, ne_eqb, not-true}
use native.Mathlib.Omega.{arith}
use Rattle.search.specs.Bools.{not-is-true, and_left, and_right, and_both, or_left, or_right}
use Rattle.image.specs.declared.header.Header.{Header}
use Rattle.image.specs.Layout.{is_blank, has_zero, is_filled, is_payload, free_header}

pub record Whole (h : Header) : Type 0 where
  pub kind-lo : 1 ≤ h.kind
  pub epoch-lo : 1 ≤ h.epoch
  pub uid-lo : 1 ≤ h.uid
  pub board-lo : 1 ≤ h.board

-- filled, with a kind up to `top`
pub record FilledTo (top : ℕ) (h : Header) : Type 0 where
  pub whole : Whole h
  pub kind-hi : h.kind ≤ top

-- four zeros are free
pub free-zero : has_zero free_header ≡ true
unfolding has_zero
free-zero = refl

module _ (h : Header) where
  pub whole_says : has_zero h ≡ false → Whole h
  unfolding has_zero
  whole_says e =
      let k = eqb h.kind 0 in
      let a = eqb h.epoch 0 in
      let u = eqb h.uid 0 in
      let e1 = or_right k _ e in
      let e2 = or_right a _ e1 in
      let p = eqb-false h.kind 0 (or_left k _ e) in
      let q = eqb-false h.epoch 0 (or_left a _ e1) in
      let r = eqb-false h.uid 0 (or_left u _ e2) in
      let t = eqb-false h.board 0 (or_right u _ e2) in
      record { kind-lo = omega arith; epoch-lo = omega arith; uid-lo = omega arith; board-lo = omega arith }

  pub says-whole : Whole h → has_zero h ≡ false
  unfolding has_zero
  says-whole w =
      rw (
        ne_eqb h.kind 0 (λ q. omega (arith, w.kind-lo)),
        ne_eqb h.epoch 0 (λ q. omega (arith, w.epoch-lo)),
        ne_eqb h.uid 0 (λ q. omega (arith, w.uid-lo)),
        ne_eqb h.board 0 (λ q. omega (arith, w.board-lo)),
      )

  says-to : (top : ℕ) → not (has_zero h) && leb h.kind top ≡ true → FilledTo top h
  says-to top e =
      let z = not (has_zero h) in
      record { whole = whole_says (not-true (has_zero h) (and_left z _ e)); kind-hi = leb-true h.kind top (and_right z _ e) }

  to-says : (top : ℕ) → FilledTo top h → not (has_zero h) && leb h.kind top ≡ true
  to-says top f = and_both (not-is-true (says-whole f.whole)) (le-leb h.kind top f.kind-hi)

  pub filled-says : is_filled h ≡ true → FilledTo 3 h
  unfolding is_filled
  filled-says e = says-to 3 e

  pub says-filled : FilledTo 3 h → is_filled h ≡ true
  unfolding is_filled
  says-filled f = to-says 3 f

  pub payload-says : is_payload h ≡ true → FilledTo 2 h
  unfolding is_payload
  payload-says e = says-to 2 e

  pub says-payload : FilledTo 2 h → is_payload h ≡ true
  unfolding is_payload
  says-payload f = to-says 2 f

  -- the filled ones are the payloads and DELETE
  pub payload-filled : is_payload h ≡ true → is_filled h ≡ true
  payload-filled e = let p = payload-says e in says-filled (record { whole = p.whole; kind-hi = omega (arith, p.kind-hi) })

  pub payload-not-anti : is_payload h ≡ true → h.kind ≡ 3 → ⊥
  payload-not-anti e q = omega (arith, (payload-says e).kind-hi)

  pub filled-payload : is_filled h ≡ true → (h.kind ≡ 3 → ⊥) → is_payload h ≡ true
  filled-payload e d = let p = filled-says e in says-payload (record { whole = p.whole; kind-hi = omega (arith, p.kind-hi) })

  -- what has a 0 is neither
  pub zero-unfilled : has_zero h ≡ true → is_filled h ≡ false
  unfolding is_filled
  zero-unfilled e = rw e

  pub zero-no-payload : has_zero h ≡ true → is_payload h ≡ false
  unfolding is_payload
  zero-no-payload e = rw e

  -- four zeros
  pub blank-says : is_blank h ≡ true → h ≡ free_header
  unfolding is_blank
  blank-says e =
      let k = eqb h.kind 0 in
      let a = eqb h.epoch 0 in
      let u = eqb h.uid 0 in
      let e1 = and_right k _ e in
      let e2 = and_right a _ e1 in
      let p = eqb-true h.kind 0 (and_left k _ e) in
      let q = eqb-true h.epoch 0 (and_left a _ e1) in
      let r = eqb-true h.uid 0 (and_left u _ e2) in
      let t = eqb-true h.board 0 (and_right u _ e2) in
      λ i. record { kind = p i; epoch = q i; uid = r i; board = t i }

  pub filled-not-blank : is_filled h ≡ true → is_blank h ≡ false
  unfolding is_blank
  filled-not-blank e = rw (ne_eqb h.kind 0 (λ q. omega (arith, (filled-says e).whole.kind-lo)))
