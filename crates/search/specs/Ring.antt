-- A search around a table of n, from the slot after the last one, round past the end: it meets every slot once.
use Rattle.std.specs.Prelude.{ℕ, zero, suc, ◌+◌, ◌-◌, ◌≤◌, ◌<◌, refl, Bool, true, false, cond, leb, ltb, Option, Some, None}
use Rattle.std.proofs.Math.Path.{◌≡◌}
use Rattle.std.proofs.Common.{ap, ◌∙◌, lt-ltb, le-ltb, le-leb, add-one}
use Rattle.std.proofs.Math.Logic.{inl, inr}
use Rattle.std.proofs.lemmas.Bool.{lt-leb}
use Rattle.std.proofs.Math.Decide.{dec_lt, dec_le}
use native.Mathlib.Omega.{arith}
use Rattle.search.specs.Bools.{never, flag}
use Rattle.search.specs.Count.{count, count-more, count_same, count-zero}
use Rattle.search.specs.First.{where_found, first_of, First, found_first, found_nothing, found-cases, found-hit, found-end, Sought, sought-start, sought-next}

-- the slot k steps after the one that follows `last`
unfoldable pub ring_slot : ℕ → ℕ → ℕ → ℕ
ring_slot n last k = cond (ltb (last + 1 + k) n) (last + 1 + k) (last + 1 + k - n)

-- the first slot that passes, within the given number of steps
unfoldable pub first_round : (ℕ → Bool) → ℕ → ℕ → ℕ → Option ℕ
first_round p n last steps = where_found (first_of (λ k. p (ring_slot n last k)) steps) (λ k. Some (ring_slot n last k)) None

-- ---- the slots that are met
module _ (n last k : ℕ) where
  -- before the table's end, and past it
  pub ring-ahead : last + 1 + k < n → last + 1 + k ≡ ring_slot n last k
  unfolding ring_slot
  ring-ahead h = rw (lt-ltb (last + 1 + k) n h)

  pub ring-round : n ≤ last + 1 + k → last + 1 + k - n ≡ ring_slot n last k
  unfolding ring_slot
  ring-round h = rw (le-ltb (last + 1 + k) n h)

  pub ring-below : last < n → k < n → ring_slot n last k < n
  ring-below h l =
      elim (dec_lt (last + 1 + k) n) [
        | yes a ↦ omega (arith, ring-ahead a)
        | no a ↦ omega (arith, ring-round (omega arith))
      ]

  -- from the next slot on, each is met one step earlier
  ring-next : ring_slot n (last + 1) k ≡ ring_slot n last (k + 1)
  unfolding ring_slot
  ring-next = let e : last + 1 + 1 + k ≡ last + 1 + (k + 1) = omega arith in rw e

-- ---- how many pass
-- index 0 left out and index n taken in; one that passes; none
count_turn : (q : ℕ → Bool) (n : ℕ) → count (λ k. q (k + 1)) n + flag (q 0) ≡ count q n + flag (q n)
unfolding count
count_turn q zero = refl
count_turn q (suc n) =
    let e : flag (q (n + 1)) ≡ flag (q (suc n)) = rw (add-one n) in
    omega (arith, count_turn q n, count-more q n, count-more (λ k. q (k + 1)) n)

count-some : {q : ℕ → Bool} {k i : ℕ} → First q k i → 1 ≤ count q k
count-some {q} {k} {i} f =
    elim (dec_le 1 (count q k)) [
      | yes a ↦ a
      | no a ↦ never (q i) f.passes (count-zero q k (omega arith) i f.below)
    ]

count_none : (q : ℕ → Bool) (k : ℕ) → ((i : ℕ) → i < k → q i ≡ false) → count q k ≡ 0
unfolding count
count_none q zero h = refl
count_none q (suc k) h = rw (h k (omega arith)) (count_none q k (λ i l. h i (omega arith)))

-- around the table, each slot is counted once
count-from : (p : ℕ → Bool) (n d last : ℕ) → last + 1 + d ≡ n → count (λ k. p (ring_slot n last k)) n ≡ count p n
count-from p n zero last e = count_same (λ k. p (ring_slot n last k)) p n (λ i l. ap p (omega (arith, ring-round n last i (omega arith))))
count-from p n (suc d) last e =
    let shift : count (λ k. p (ring_slot n (last + 1) k)) n ≡ count (λ k. p (ring_slot n last (k + 1))) n =
    count_same _ _ n (λ i l. ap p (ring-next n last i)) in
    let ends : ring_slot n last n ≡ ring_slot n last 0 = omega (arith, ring-round n last n (omega arith), ring-ahead n last 0 (omega arith)) in
    let same : flag (p (ring_slot n last n)) ≡ flag (p (ring_slot n last 0)) = rw ends in
    omega (arith, count_turn (λ k. p (ring_slot n last k)) n, count-from p n d (last + 1) (omega arith))

pub ring-count : (p : ℕ → Bool) (n last : ℕ) → last < n → count (λ k. p (ring_slot n last k)) n ≡ count p n
ring-count p n last h = count-from p n (n - (last + 1)) last (omega arith)

-- ---- what an answer says
-- the number of steps to the slot that was found
record Stepped (p : ℕ → Bool) (n last steps s : ℕ) : Type 0 where
  at : ℕ
  first : First (λ k. p (ring_slot n last k)) steps at
  is : ring_slot n last at ≡ s

module _ (p : ℕ → Bool) (n last steps : ℕ) where
  stepped : (s : ℕ) → first_round p n last steps ≡ Some s → Stepped p n last steps s
  unfolding first_round
  stepped s e =
      elim (found-cases (first_of (λ k. p (ring_slot n last k)) steps)) [
        | inl (k, f) ↦ let g : Some (ring_slot n last k) ≡ Some s = rw f at e in
            record { at = k; first = found_first _ _ f; is = cc }
        | inr f ↦ let g : None ≡ Some s = rw f at e in
            let z : ◌≡◌ {A = ℕ} 0 1 = cc in absurd (omega arith)
      ]

  missed : first_round p n last steps ≡ None → (k : ℕ) → k < steps → p (ring_slot n last k) ≡ false
  unfolding first_round
  missed e =
      elim (found-cases (first_of (λ k. p (ring_slot n last k)) steps)) [
        | inl (k, f) ↦ let g : Some (ring_slot n last k) ≡ None = rw f at e in
            let z : ◌≡◌ {A = ℕ} 0 1 = cc in absurd (omega arith)
        | inr f ↦ found_nothing _ _ f
      ]

-- a slot found is in the table and passes
pub round-found : (p : ℕ → Bool) (n last steps s : ℕ) → last < n → steps ≤ n → first_round p n last steps ≡ Some s → (s < n) × (p s ≡ true)
round-found p n last steps s h l e =
    let a = stepped p n last steps s e in
    let b : a.at < steps = a.first.below in
    (omega (arith, ring-below n last a.at h (omega arith)), rw a.is at a.first.passes)

pub round-one : (p : ℕ → Bool) (n last s : ℕ) → last < n → first_round p n last n ≡ Some s → leb 1 (count p n) ≡ true
round-one p n last s h e =
    le-leb 1 (count p n) (omega (arith, ring-count p n last h, count-some (stepped p n last n s e).first))

-- from the slot s that passes, all the way round but for s itself: whether there is a second one
count-beside : (p : ℕ → Bool) (n s : ℕ) → s < n → p s ≡ true → count p n ≡ count (λ k. p (ring_slot n s k)) (n - 1) + 1
count-beside p n s h t =
    let e : suc (n - 1) ≡ n = omega arith in
    let r : ring_slot n s (n - 1) ≡ s = omega (arith, ring-round n s (n - 1) (omega arith)) in
    let f : flag (p (ring_slot n s (n - 1))) ≡ 1 = rw (r, t) in
    omega (arith, ring-count p n s h, rw e at (count-more (λ k. p (ring_slot n s k)) (n - 1)))

pub round-another : (p : ℕ → Bool) (n s u : ℕ) → s < n → p s ≡ true → first_round p n s (n - 1) ≡ Some u → leb 2 (count p n) ≡ true
round-another p n s u h t e =
    le-leb 2 (count p n) (omega (arith, count-beside p n s h t, count-some (stepped p n s (n - 1) u e).first))

pub round-alone : (p : ℕ → Bool) (n s : ℕ) → s < n → p s ≡ true → first_round p n s (n - 1) ≡ None → leb 2 (count p n) ≡ false
round-alone p n s h t e =
    lt-leb 2 (count p n) (omega (arith, count-beside p n s h t, count_none _ (n - 1) (missed p n s (n - 1) e)))

-- ---- THE invariant of a loop that has gone k of so many steps
pub record Rounding (p : ℕ → Bool) (n last steps k : ℕ) : Type 0 where
  pub low : k ≤ steps
  pub sought : Sought (λ j. p (ring_slot n last j)) steps k

pub round-start : (p : ℕ → Bool) (n last steps : ℕ) → Rounding p n last steps 0
round-start p n last steps = record { low = omega arith; sought = sought-start _ steps }

pub round-next : {p : ℕ → Bool} {n last steps k s : ℕ} {r : Bool} → Rounding p n last steps k → k < steps → s ≡ ring_slot n last k → r ≡ p s → r ≡ false → Rounding p n last steps (k + 1)
round-next {p} z h e t f = record { low = omega arith; sought = sought-next z.sought h (t ∙ ap p e) f }

pub round-hit : {p : ℕ → Bool} {n last steps k s : ℕ} {r : Bool} → Rounding p n last steps k → k < steps → s ≡ ring_slot n last k → r ≡ p s → r ≡ true → Some s ≡ first_round p n last steps
unfolding first_round
round-hit {p} z h e t f = rw (← found-hit z.sought h (t ∙ ap p e) f, e)

pub round-end : {p : ℕ → Bool} {n last steps k : ℕ} → Rounding p n last steps k → steps ≤ k → None ≡ first_round p n last steps
unfolding first_round
round-end z h = rw (← found-end z.sought h)

pub ruleset rounds = (round-start, round-next, round-hit, round-end)
