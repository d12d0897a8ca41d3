-- How many indices below k pass a test, and the invariant of every loop that counts.
use Prim.Native.Nat.{ℕ, zero, suc, ◌+◌, ◌≤◌, ◌<◌}
use Rattle.std.specs.Prelude.{◌≡◌, refl, ◌≢◌, Bool, true, false, cond}
use Rattle.std.proofs.Common.{sym, ap, ◌∙◌, eq-or-lt_of_le, add-one}
use Rattle.std.proofs.Math.Logic.{⊎_elim}
use native.Mathlib.Omega.{arith}
use Rattle.search.specs.Bools.{cases, flag}

unfoldable pub count : (ℕ → Bool) → ℕ → ℕ
count p zero = 0
count p (suc k) = cond (p k) (count p k + 1) (count p k)

module _ (p : ℕ → Bool) where
  count-hit : (i : ℕ) → p i ≡ true → count p (i + 1) ≡ count p i + 1
  unfolding count
  count-hit i e = rw (add-one i, e)

  count-miss : (i : ℕ) → p i ≡ false → count p (i + 1) ≡ count p i
  unfolding count
  count-miss i e = rw (add-one i, e)

  pub count-top : (k : ℕ) → count p k ≤ k
  unfolding count
  count-top zero = omega arith
  count-top (suc k) =
      ⊎_elim (λ t. rw t (omega (arith, count-top k))) (λ f. rw f (omega (arith, count-top k))) (cases (p k))

  -- a count of 0: none passes
  pub count-zero : (k : ℕ) → count p k ≡ 0 → (i : ℕ) → i < k → p i ≡ false
  unfolding count
  count-zero zero e i h = absurd (omega arith)
  count-zero (suc k) e i h =
      ⊎_elim
      (λ (t : p k ≡ true). let z : count p k + 1 ≡ 0 = rw t at e in absurd (omega arith))
      (λ (f : p k ≡ false).
      let z : count p k ≡ 0 = rw f at e in
      ⊎_elim (λ (q : i ≡ k). rw q f) (λ (l : i < k). count-zero k z i l) (eq-or-lt_of_le (omega arith)))
      (cases (p k))

-- one index more
pub count-more : (q : ℕ → Bool) (k : ℕ) → count q (suc k) ≡ count q k + flag (q k)
unfolding count
count-more q k = ⊎_elim (λ t. rw t) (λ f. rw f (omega arith)) (cases (q k))

-- two tests that agree below k
pub count_same : (p q : ℕ → Bool) (k : ℕ) → ((i : ℕ) → i < k → p i ≡ q i) → count p k ≡ count q k
unfolding count
count_same p q zero h = refl
count_same p q (suc k) h = rw (h k (omega arith), count_same p q k (λ i l. h i (omega arith)))

-- one index s below k goes from a hit to a miss: the count goes down by one
pub count_down : (p q : ℕ → Bool) (k s : ℕ) → s < k → p s ≡ true → q s ≡ false → ((i : ℕ) → i < k → i ≢ s → q i ≡ p i) → count p k ≡ count q k + 1
unfolding count
count_down p q zero s l t f h = absurd (omega arith)
count_down p q (suc k) s l t f h =
    ⊎_elim
    (λ (e : s ≡ k).
    let tk : p k ≡ true = rw e at t in
    let fk : q k ≡ false = rw e at f in
    let same : count p k ≡ count q k = count_same p q k (λ i li. sym (h i (omega arith) (λ ei. omega arith))) in
    rw (tk, fk, same))
    (λ (m : s < k).
    let ih : count p k ≡ count q k + 1 = count_down p q k s m t f (λ i li. h i (omega arith)) in
    let hk : q k ≡ p k = h k (omega arith) (λ e. omega arith) in
    ⊎_elim
    (λ (y : p k ≡ true). rw (hk, y, ih))
    (λ (y : p k ≡ false). rw (hk, y, ih))
    (cases (p k)))
    (eq-or-lt_of_le (omega arith))

-- a test that asks more counts less
pub count-mono : (p q : ℕ → Bool) (k : ℕ) → ((i : ℕ) → i < k → p i ≡ true → q i ≡ true) → count p k ≤ count q k
unfolding count
count-mono p q zero h = omega arith
count-mono p q (suc k) h =
    let ih = count-mono p q k (λ i l. h i (omega arith)) in
    ⊎_elim
    (λ (t : p k ≡ true). rw (t, h k (omega arith) t) (omega arith))
    (λ (f : p k ≡ false). ⊎_elim (λ (u : q k ≡ true). rw (f, u) (omega arith)) (λ (u : q k ≡ false). rw (f, u) ih) (cases (q k)))
    (cases (p k))

-- THE invariant of a loop that has counted i of n
pub record Counted (p : ℕ → Bool) (n i c : ℕ) : Type 0 where
  pub low : i ≤ n
  pub few : c ≤ i
  pub so_far : c ≡ count p i

pub counted_start : (p : ℕ → Bool) (n : ℕ) → Counted p n 0 0
unfolding count
counted_start p n = record { low = omega arith; few = omega arith; so_far = refl }

pub counted-hit : {p : ℕ → Bool} {n i c c' : ℕ} {r : Bool} → Counted p n i c → i < n → r ≡ p i → r ≡ true → c' ≡ c + 1 → Counted p n (i + 1) c'
counted-hit {p} {n} {i} {c} s h e f g =
    record { low = omega arith; few = omega arith; so_far = g ∙ ap (λ k. k + 1) s.so_far ∙ sym (count-hit p i (sym e ∙ f)) }

pub counted-miss : {p : ℕ → Bool} {n i c c' : ℕ} {r : Bool} → Counted p n i c → i < n → r ≡ p i → r ≡ false → c' ≡ c → Counted p n (i + 1) c'
counted-miss {p} {n} {i} {c} s h e f g =
    record { low = omega arith; few = omega arith; so_far = g ∙ s.so_far ∙ sym (count-miss p i (sym e ∙ f)) }

pub counted-end : {p : ℕ → Bool} {n i c : ℕ} → Counted p n i c → n ≤ i → c ≡ count p n
counted-end {p} {n} {i} {c} s h = let e : i ≡ n = omega arith in s.so_far ∙ ap (count p) e

pub ruleset loops = (counted_start, counted-hit, counted-miss, counted-end)
