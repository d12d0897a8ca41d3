-- The index below k with the least number among those that pass a test, of several the lowest; and the invariant of a walk that
-- finds it.
use Prim.Native.Nat.{ℕ, zero, suc, ◌+◌, ◌≤◌, ◌<◌}
use Rattle.std.specs.Prelude.{◌≡◌, refl, Bool, true, false, cond, ◌&&◌, Option, Some, None}
use Rattle.std.proofs.Common.{sym, ap, ◌∙◌, ltb-true, ltb-false, eq-or-lt_of_le, add-one, arith}
use Rattle.std.proofs.Math.Logic.{⊎_elim}
use Rattle.std.proofs.Math.Dec.{ltb}
use Rattle.search.specs.Bools.{cases, never}
use Rattle.search.specs.First.{where_found}

-- k takes the place of what was found below it, if it passes and its number is smaller
unfoldable pub least_of : (ℕ → Bool) → (ℕ → ℕ) → ℕ → Option ℕ
least_of p f zero = None
least_of p f (suc k) = cond (p k && where_found (least_of p f k) (λ t. ltb (f k) (f t)) true) (Some k) (least_of p f k)

-- .. of any answer
abbrev lesser : (ℕ → Bool) → (ℕ → ℕ) → ℕ → Option ℕ → Option ℕ
lesser p f k g = cond (p k && where_found g (λ t. ltb (f k) (f t)) true) (Some k) g

-- ---- what is found
pub record Least (p : ℕ → Bool) (f : ℕ → ℕ) (k s : ℕ) : Type 0 where
  pub below : s < k
  pub passes : p s ≡ true
  pub least : (i : ℕ) → i < k → p i ≡ true → f s ≤ f i

module _ (p : ℕ → Bool) (f : ℕ → ℕ) where
  -- what an answer says of the indices below k
  data Says (k : ℕ) : Option ℕ → Type 0 where
    says_at : (s : ℕ) → Least p f k s → Says k (Some s)
    says_nothing : ((i : ℕ) → i < k → p i ≡ false) → Says k None

  -- an index up to k is one below k, or k
  split : {C : ℕ → Type 0} (k : ℕ) → C k → ((i : ℕ) → i < k → C i) → (i : ℕ) → i < suc k → C i
  split k here below i h = ⊎_elim (λ (q : i ≡ k). rw q here) (λ (l : i < k). below i l) (eq-or-lt_of_le (omega arith))

  next : (k : ℕ) (g : Option ℕ) → Says k g → Says (suc k) (lesser p f k g)
  next k (Some t) (says_at _ w) =
      ⊎_elim
      (λ (y : p k ≡ true).
      ⊎_elim
      (λ (l : ltb (f k) (f t) ≡ true).
      rw (y, l) (says_at k (record {
        below = omega arith;
        passes = y;
        least = split k (λ _. omega arith) (λ i h v. omega (arith, ltb-true (f k) (f t) l, w.least i h v));
      })))
      (λ (l : ltb (f k) (f t) ≡ false).
      rw (y, l) (says_at t (record {
        below = omega (arith, w.below);
        passes = w.passes;
        least = split k (λ _. ltb-false (f k) (f t) l) w.least;
      })))
      (cases (ltb (f k) (f t))))
      (λ (n : p k ≡ false).
      rw n (says_at t (record { below = omega (arith, w.below); passes = w.passes; least = split k (λ v. never (p k) v n) w.least })))
      (cases (p k))
  next k None (says_nothing w) =
      ⊎_elim
      (λ (y : p k ≡ true).
      rw y (says_at k (record { below = omega arith; passes = y; least = split k (λ _. omega arith) (λ i h v. never (p i) v (w i h)) })))
      (λ (n : p k ≡ false). rw n (says_nothing (split k n w)))
      (cases (p k))

  least-says : (k : ℕ) → Says k (least_of p f k)
  unfolding least_of
  least-says zero = says_nothing (λ i h. absurd (omega arith))
  least-says (suc k) = next k (least_of p f k) (least-says k)

  pub least-found : (k s : ℕ) → least_of p f k ≡ Some s → Least p f k s
  least-found k s = go (least_of p f k) (least-says k)
    where
      go : (g : Option ℕ) → Says k g → g ≡ Some s → Least p f k s
      go (Some t) (says_at _ w) e = let q : t ≡ s = cc in rw q at w
      go None (says_nothing w) e = let z : ◌≡◌ {A = ℕ} 0 1 = cc in absurd (omega arith)

-- ---- a walk that goes from one index to the next with a smaller number; the best so far has a slot and a number
-- t passes, and its number is smaller than that of the best so far
unfoldable pub nearer : {B : Type 0} → (B → ℕ) → (ℕ → Bool) → (ℕ → ℕ) → Option B → ℕ → Bool
nearer number p f best t = p t && where_found best (λ b. ltb (f t) (number b)) true

-- i of n are passed, and `best` is the index so far, with its number
pub record Lowering {B : Type 0} (slot number : B → ℕ) (p : ℕ → Bool) (f : ℕ → ℕ) (n i : ℕ) (best : Option B) : Type 0 where
  pub low : i ≤ n
  pub best-is : where_found best (λ b. Some (slot b)) None ≡ least_of p f i
  pub number_is : (b : B) → best ≡ Some b → f (slot b) ≡ number b

module _ {B : Type 0} (slot number : B → ℕ) where
  pub lowering-start : (p : ℕ → Bool) (f : ℕ → ℕ) (n : ℕ) → Lowering slot number p f n 0 None
  unfolding least_of
  lowering-start p f n = record { low = omega arith; best-is = refl; number_is = λ b e. let z : ◌≡◌ {A = ℕ} 0 1 = cc in absurd (omega arith) }

  -- the test of `lesser` is that of the walk
  lesser-is : (p : ℕ → Bool) (f : ℕ → ℕ) (i : ℕ) (best : Option B) → ((b : B) → best ≡ Some b → f (slot b) ≡ number b)
      → lesser p f i (where_found best (λ b. Some (slot b)) None) ≡ cond (nearer number p f best i) (Some i) (where_found best (λ b. Some (slot b)) None)
  unfolding nearer
  lesser-is p f i (Some b) e = rw (e b refl)
  lesser-is p f i None e = refl

  module _ {p : ℕ → Bool} {f : ℕ → ℕ} {n i : ℕ} where
    module _ {best : Option B} (z : Lowering slot number p f n i best) where
      step_is : least_of p f (i + 1) ≡ cond (nearer number p f best i) (Some i) (where_found best (λ b. Some (slot b)) None)
      unfolding least_of
      step_is = rw (add-one i, ← z.best-is) (lesser-is p f i best z.number_is)

      pub lowering-miss : i < n → nearer number p f best i ≡ false → Lowering slot number p f n (i + 1) best
      lowering-miss h t = record { low = omega arith; best-is = sym (step_is ∙ rw t); number_is = z.number_is }

      pub lowering-hit : (b : B) → slot b ≡ i → number b ≡ f i → i < n → nearer number p f best i ≡ true → Lowering slot number p f n (i + 1) (Some b)
      lowering-hit b s k h t =
          record {
            low = omega arith;
            best-is = rw s (sym (step_is ∙ rw t));
            number_is = λ c e. let q : b ≡ c = cc in rw (← q, s) (sym k);
          }

  pub lowering-pass : {p : ℕ → Bool} {f : ℕ → ℕ} {n i : ℕ} {best : Option B} (d : ℕ) → Lowering slot number p f n i best → i + d ≤ n
      → ((j : ℕ) → i ≤ j → j < i + d → nearer number p f best j ≡ false) → Lowering slot number p f n (i + d) best
  lowering-pass {i = i} zero z h t = let e : i + 0 ≡ i = omega arith in rw e z
  lowering-pass {i = i} (suc d) z h t =
      let e : i + suc d ≡ i + d + 1 = omega arith in
      rw e (lowering-miss (lowering-pass d z (omega arith) (λ j a b. t j a (omega arith))) (omega arith) (t (i + d) (omega arith) (omega arith)))

  pub lowering-end : {p : ℕ → Bool} {f : ℕ → ℕ} {n i : ℕ} {best : Option B} → Lowering slot number p f n i best → n ≤ i
      → where_found best (λ b. Some (slot b)) None ≡ least_of p f n
  lowering-end {p} {f} {n} {i} z h = let e : i ≡ n = omega arith in z.best-is ∙ ap (least_of p f) e
