-- The largest number among the indices below k that pass a test, 0 where none does, and the invariant of a loop that finds it.
use Rattle.std.specs.Prelude.{ℕ, zero, suc, ◌+◌, ◌≤◌, ◌<◌, ◌≡◌, refl, Bool, true, false, cond, ◌&&◌}
use Rattle.std.proofs.Common.{ap, ◌∙◌, eq-or-lt_of_le, add-one, arith}
use Rattle.std.proofs.Math.Logic.{⊎_elim}
use Rattle.std.proofs.Math.Dec.{ltb}
use borrow.Author.Tests.{ltb-true, ltb-false}
use Rattle.search.specs.Bools.{cases, and_left, and_right}

unfoldable pub largest : (ℕ → Bool) → (ℕ → ℕ) → ℕ → ℕ
largest p f zero = 0
largest p f (suc k) = cond (p k && ltb (largest p f k) (f k)) (f k) (largest p f k)

-- a larger number at i takes the place of b, if i passes
unfoldable pub raised : (ℕ → Bool) → (ℕ → ℕ) → ℕ → ℕ → ℕ
raised p f i b = cond (p i && ltb b (f i)) (f i) b

-- what was there is not lowered; a number that passes counts; the bound of those that pass holds
module _ (p : ℕ → Bool) (f : ℕ → ℕ) (i b : ℕ) where
  pub raised_keeps : b ≤ raised p f i b
  unfolding raised
  raised_keeps =
      ⊎_elim
      (λ (t : p i && ltb b (f i) ≡ true). rw t (omega (arith, ltb-true b (f i) (and_right (p i) (ltb b (f i)) t))))
      (λ (u : p i && ltb b (f i) ≡ false). rw u (omega arith))
      (cases (p i && ltb b (f i)))

  pub raised-counts : p i ≡ true → f i ≤ raised p f i b
  unfolding raised
  raised-counts t =
      ⊎_elim
      (λ (u : ltb b (f i) ≡ true). rw (t, u) (omega arith))
      (λ (u : ltb b (f i) ≡ false). rw (t, u) (ltb-false b (f i) u))
      (cases (ltb b (f i)))

  pub raised-top : (top : ℕ) → b ≤ top → (p i ≡ true → f i ≤ top) → raised p f i b ≤ top
  unfolding raised
  raised-top top m h =
      ⊎_elim
      (λ (t : p i && ltb b (f i) ≡ true). rw t (h (and_left (p i) _ t)))
      (λ (u : p i && ltb b (f i) ≡ false). rw u m)
      (cases (p i && ltb b (f i)))

-- each that passes is at most the largest
pub largest-bounds : (p : ℕ → Bool) (f : ℕ → ℕ) (k i : ℕ) → i < k → p i ≡ true → f i ≤ largest p f k
unfolding largest raised
largest-bounds p f zero i h t = absurd (omega arith)
largest-bounds p f (suc k) i h t =
    ⊎_elim
    (λ (e : i ≡ k). let tk : p k ≡ true = rw e at t in rw e (raised-counts p f k (largest p f k) tk))
    (λ (l : i < k). omega (arith, largest-bounds p f k i l t, raised_keeps p f k (largest p f k)))
    (eq-or-lt_of_le (omega arith))

pub largest-top : (p : ℕ → Bool) (f : ℕ → ℕ) (top k : ℕ) → ((i : ℕ) → i < k → p i ≡ true → f i ≤ top) → largest p f k ≤ top
unfolding largest raised
largest-top p f top zero h = omega arith
largest-top p f top (suc k) h = raised-top p f k (largest p f k) top (largest-top p f top k (λ i l. h i (omega arith))) (h k (omega arith))

pub largest-same : (p q : ℕ → Bool) (f g : ℕ → ℕ) (k : ℕ) → ((i : ℕ) → i < k → p i ≡ q i) → ((i : ℕ) → i < k → f i ≡ g i) → largest p f k ≡ largest q g k
unfolding largest
largest-same p q f g zero h e = refl
largest-same p q f g (suc k) h e =
    rw (h k (omega arith), e k (omega arith), largest-same p q f g k (λ i l. h i (omega arith)) (λ i l. e i (omega arith)))

-- THE invariant of a loop that has passed i of n
pub record Climbing (p : ℕ → Bool) (f : ℕ → ℕ) (n i b : ℕ) : Type 0 where
  pub low : i ≤ n
  pub so_far : b ≡ largest p f i

pub climbing-start : (p : ℕ → Bool) (f : ℕ → ℕ) (n : ℕ) → Climbing p f n 0 0
unfolding largest
climbing-start p f n = record { low = omega arith; so_far = refl }

pub climbing-next : {p : ℕ → Bool} {f : ℕ → ℕ} {n i b b' : ℕ} → Climbing p f n i b → i < n → b' ≡ raised p f i b → Climbing p f n (i + 1) b'
unfolding largest raised
climbing-next {p} {f} {n} {i} {b} z h e = record { low = omega arith; so_far = rw (add-one i, ← z.so_far) e }

pub climbing-end : {p : ℕ → Bool} {f : ℕ → ℕ} {n i b : ℕ} → Climbing p f n i b → n ≤ i → b ≡ largest p f n
climbing-end {p} {f} {n} {i} z h = let e : i ≡ n = omega arith in z.so_far ∙ ap (largest p f) e

pub ruleset loops = (climbing-start, climbing-next, climbing-end)
