-- The first index that passes a test: its laws, and the one invariant of every loop that looks for it.
use Prim.Native.Nat.{ℕ, zero, suc, ◌+◌, ◌-◌, ◌≤◌, ◌<◌}
use Rattle.std.specs.Prelude.{◌≡◌, refl, Bool, true, false, cond, ◌⊎◌, Option, Some, None}
use Rattle.std.proofs.Common.{sym, ◌∙◌, inl, inr, eq-or-lt_of_le}
use Rattle.std.proofs.Math.Logic.{⊎_elim}
use Rattle.std.proofs.Math.Dec.{ltb}
use borrow.Author.Tests.{lt-ltb, le-ltb, ltb-true, ltb-false}
use native.Mathlib.Omega.{arith}
use Rattle.search.specs.Bools.{cases}

-- by what a search found
abbrev pub where_found : {A B : Type 0} → Option B → (B → A) → A → A
where_found (Some s) at nothing = at s
where_found None at nothing = nothing

-- the least index below n that passes, as an answer
unfoldable pub first_of : (ℕ → Bool) → ℕ → Option ℕ
first_of p zero = None
first_of p (suc n) = where_found (first_of p n) Some (cond (p n) (Some n) None)

-- ---- the same from the first index on, as a loop goes
-- the least index of [i, i + k) that passes, else i + k
unfoldable pub first : (ℕ → Bool) → ℕ → ℕ → ℕ
first p i zero = i
first p i (suc k) = cond (p i) i (first p (i + 1) k)

-- an index r below n as an answer
abbrev pub found : ℕ → ℕ → Option ℕ
found n r = cond (ltb r n) (Some r) None

-- from i on: at a hit, at a miss, at the end
module _ (p : ℕ → Bool) where
  first-hit : (i n : ℕ) → i < n → p i ≡ true → first p i (n - i) ≡ i
  unfolding first
  first-hit i n h e =
      let s : n - i ≡ suc (n - (i + 1)) = omega arith in
      rw (s, e)

  first-miss : (i n : ℕ) → i < n → p i ≡ false → first p i (n - i) ≡ first p (i + 1) (n - (i + 1))
  unfolding first
  first-miss i n h e =
      let s : n - i ≡ suc (n - (i + 1)) = omega arith in
      rw (s, e)

  first-end : (i n : ℕ) → n ≤ i → first p i (n - i) ≡ i
  unfolding first
  first-end i n h =
      let s : n - i ≡ 0 = omega arith in
      rw s

-- where the first index lies; those before it fail; it passes
module _ (p : ℕ → Bool) where
  pub first-top : (k i : ℕ) → first p i k ≤ i + k
  unfolding first
  first-top zero i = omega arith
  first-top (suc k) i =
      ⊎_elim (λ t. rw t (omega arith)) (λ f. rw f (omega (arith, first-top k (i + 1)))) (cases (p i))

  pub first-before : (k i j : ℕ) → i ≤ j → j < first p i k → p j ≡ false
  unfolding first
  first-before zero i j l h = absurd (omega arith)
  first-before (suc k) i j l h =
      ⊎_elim
      (λ t. let h' : j < i = rw t at h in absurd (omega arith))
      (λ f. let h' : j < first p (i + 1) k = rw f at h in
      ⊎_elim (λ (e : i ≡ j). rw (← e) f) (λ (m : i < j). first-before k (i + 1) j (omega arith) h') (eq-or-lt_of_le l))
      (cases (p i))

  pub first-at : (k i : ℕ) → first p i k < i + k → p (first p i k) ≡ true
  unfolding first
  first-at zero i h = absurd (omega arith)
  first-at (suc k) i h =
      ⊎_elim
      (λ t. rw t t)
      (λ f. let h' : first p (i + 1) k < i + suc k = rw f at h in rw f (first-at k (i + 1) (omega arith)))
      (cases (p i))

-- one index more, and the two ways to say the first
module _ (p : ℕ → Bool) where
  first_more : (k i : ℕ) → first p i (suc k) ≡ cond (ltb (first p i k) (i + k)) (first p i k) (cond (p (i + k)) (i + k) (i + suc k))
  unfolding first
  first_more zero i =
      let e : i + 0 ≡ i = omega arith in
      let o : i + suc 0 ≡ i + 1 = omega arith in
      rw (e, o, le-ltb i i (omega arith))
  first_more (suc k) i =
      let e : i + suc k ≡ i + 1 + k = omega arith in
      let o : i + suc (suc k) ≡ i + 1 + suc k = omega arith in
      ⊎_elim
      (λ (t : p i ≡ true). rw (t, lt-ltb i (i + suc k) (omega arith)))
      (λ (f : p i ≡ false). rw (f, e, o) (first_more k (i + 1)))
      (cases (p i))

  pub first-of : (n : ℕ) → first_of p n ≡ found n (first p 0 n)
  unfolding first_of
  first-of zero = rw (first-end p 0 0 (omega arith))
  first-of (suc n) =
      let z : 0 + n ≡ n = omega arith in
      let o : 0 + suc n ≡ suc n = omega arith in
      ⊎_elim
      (λ (t : ltb (first p 0 n) n ≡ true).
      rw (first-of n, first_more n 0, z, t, lt-ltb (first p 0 n) (suc n) (omega (arith, ltb-true (first p 0 n) n t))))
      (λ (f : ltb (first p 0 n) n ≡ false).
      ⊎_elim
      (λ (y : p n ≡ true). rw (first-of n, first_more n 0, z, f, y, lt-ltb n (suc n) (omega arith)))
      (λ (y : p n ≡ false). rw (first-of n, first_more n 0, z, f, y, o, le-ltb (suc n) (suc n) (omega arith)))
      (cases (p n)))
      (cases (ltb (first p 0 n) n))

-- THE invariant of a loop that has passed i of n: the answer is still to be found from i on
pub record Sought (p : ℕ → Bool) (n i : ℕ) : Type 0 where
  pub low : i ≤ n
  pub same : first p 0 n ≡ first p i (n - i)

pub sought-start : (p : ℕ → Bool) (n : ℕ) → Sought p n 0
sought-start p n = record { low = omega arith; same = let e : n - 0 ≡ n = omega arith in rw e }

pub sought-next : {p : ℕ → Bool} {n i : ℕ} {r : Bool} → Sought p n i → i < n → r ≡ p i → r ≡ false → Sought p n (i + 1)
sought-next {p} {n} {i} s h e f = record { low = omega arith; same = s.same ∙ first-miss p i n h (sym e ∙ f) }

pub sought-hit : {p : ℕ → Bool} {n i : ℕ} {r : Bool} → Sought p n i → i < n → r ≡ p i → r ≡ true → first p 0 n ≡ i
sought-hit {p} {n} {i} s h e f = s.same ∙ first-hit p i n h (sym e ∙ f)

pub sought-end : {p : ℕ → Bool} {n i : ℕ} → Sought p n i → n ≤ i → first p 0 n ≡ n
sought-end {p} {n} {i} s h = s.same ∙ first-end p i n h ∙ (omega arith)

-- a loop goes on past indices that fail
pub sought-pass : {p : ℕ → Bool} {n i : ℕ} (d : ℕ) → Sought p n i → i + d ≤ n → ((j : ℕ) → i ≤ j → j < i + d → p j ≡ false) → Sought p n (i + d)
sought-pass {p} {n} {i} zero s h f = let e : i + 0 ≡ i = omega arith in rw e s
sought-pass {p} {n} {i} (suc d) s h f =
    let e : i + suc d ≡ i + d + 1 = omega arith in
    rw e (sought-next (sought-pass d s (omega arith) (λ j a b. f j a (omega arith))) (omega arith) refl (f (i + d) (omega arith) (omega arith)))

-- a loop's two answers
pub found-hit : {p : ℕ → Bool} {n i : ℕ} {r : Bool} → Sought p n i → i < n → r ≡ p i → r ≡ true → Some i ≡ first_of p n
found-hit {p} {n} {i} s h e f = rw (first-of p n, sought-hit s h e f, lt-ltb i n h)

pub found-end : {p : ℕ → Bool} {n i : ℕ} → Sought p n i → n ≤ i → None ≡ first_of p n
found-end {p} {n} {i} s h = rw (first-of p n, sought-end s h, le-ltb n n (omega arith))

-- what an answer says: a slot found is below n and the first that passes; where none is found, none passes
pub record First (p : ℕ → Bool) (n s : ℕ) : Type 0 where
  pub below : s < n
  pub passes : p s ≡ true
  pub before : (j : ℕ) → j < s → p j ≡ false

pub found_first : (p : ℕ → Bool) (n : ℕ) {s : ℕ} → first_of p n ≡ Some s → First p n s
found_first p n {s} e =
    ⊎_elim
    (λ (t : ltb (first p 0 n) n ≡ true).
    let q : Some (first p 0 n) ≡ Some s = rw (first-of p n, t) at e in
    let z : first p 0 n ≡ s = cc in
    let u : first p 0 n < n = ltb-true _ _ t in
    record {
      below = omega arith;
      passes = rw z at (first-at p n 0 (omega arith));
      before = λ j h. first-before p n 0 j (omega arith) (omega arith);
    })
    (λ (f : ltb (first p 0 n) n ≡ false).
    let q : None ≡ Some s = rw (first-of p n, f) at e in
    let z : ◌≡◌ {A = ℕ} 0 1 = cc in
    absurd (omega arith))
    (cases (ltb (first p 0 n) n))

pub found_nothing : (p : ℕ → Bool) (n : ℕ) → first_of p n ≡ None → (j : ℕ) → j < n → p j ≡ false
found_nothing p n e j h =
    ⊎_elim
    (λ (t : ltb (first p 0 n) n ≡ true).
    let q : Some (first p 0 n) ≡ None = rw (first-of p n, t) at e in
    let z : ◌≡◌ {A = ℕ} 0 1 = cc in
    absurd (omega arith))
    (λ (f : ltb (first p 0 n) n ≡ false).
    first-before p n 0 j (omega arith) (omega (arith, ltb-false (first p 0 n) n f)))
    (cases (ltb (first p 0 n) n))

-- two tests that agree have one first index
pub first_of-same : (p q : ℕ → Bool) (n : ℕ) → ((j : ℕ) → j < n → p j ≡ q j) → first_of p n ≡ first_of q n
unfolding first_of
first_of-same p q zero h = refl
first_of-same p q (suc n) h = rw (first_of-same p q n (λ j l. h j (omega arith)), h n (omega arith))

-- the two answers, told apart
pub found-cases : (f : Option ℕ) → ((s : ℕ) × (f ≡ Some s)) ⊎ (f ≡ None)
found-cases (Some s) = inl (s, refl)
found-cases None = inr refl

-- ---- the first from an index on: the invariant of a loop that has passed those up to i, and its answers
pub record Seeking (p : ℕ → Bool) (n from i : ℕ) : Type 0 where
  pub low : i ≤ n
  pub same : first p from (n - from) ≡ first p i (n - i)

pub seeking-start : (p : ℕ → Bool) {n from : ℕ} → from ≤ n → Seeking p n from from
seeking-start p h = record { low = h; same = refl }

module _ {p : ℕ → Bool} {n from i : ℕ} {r : Bool} (s : Seeking p n from i) where
  pub seeking-next : i < n → r ≡ p i → r ≡ false → Seeking p n from (i + 1)
  seeking-next h e f = record { low = omega arith; same = s.same ∙ first-miss p i n h (sym e ∙ f) }

  pub seeking-hit : i < n → r ≡ p i → r ≡ true → i ≡ first p from (n - from)
  seeking-hit h e f = sym (s.same ∙ first-hit p i n h (sym e ∙ f))

pub seeking-end : {p : ℕ → Bool} {n from i : ℕ} → Seeking p n from i → n ≤ i → i ≡ first p from (n - from)
seeking-end {p} {n} {from} {i} s h = sym (s.same ∙ first-end p i n h)

-- what it says: an index from there on, those before it fail, and it passes unless it is n
pub record Next (p : ℕ → Bool) (n from s : ℕ) : Type 0 where
  pub above : from ≤ s
  pub top : s ≤ n
  pub before : (j : ℕ) → from ≤ j → j < s → p j ≡ false
  pub passes : s < n → p s ≡ true

first-low : (p : ℕ → Bool) (k i : ℕ) → i ≤ first p i k
unfolding first
first-low p zero i = omega arith
first-low p (suc k) i = ⊎_elim (λ t. rw t (omega arith)) (λ f. rw f (omega (arith, first-low p k (i + 1)))) (cases (p i))

pub first_next : (p : ℕ → Bool) {n from s : ℕ} → from ≤ n → s ≡ first p from (n - from) → Next p n from s
first_next p {n} {from} h e =
    let k = n - from in
    rw e (record {
      above = first-low p k from;
      top = omega (arith, first-top p k from);
      before = λ j l b. first-before p k from j l b;
      passes = λ b. first-at p k from (omega arith);
    })

pub ruleset seeks = (seeking-start, seeking-next, seeking-hit, seeking-end)

pub ruleset loops = (sought-start, sought-next, found-hit, found-end)
