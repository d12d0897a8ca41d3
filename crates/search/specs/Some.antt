-- "Some" and "every" as tests over the indices below n. A loop for either is a search (`Sought`).
use Rattle.std.specs.Prelude.{ℕ, ◌+◌, ◌≤◌, ◌<◌, ◌≡◌, refl, Bool, true, false, not, ◌||◌, ltb}
use Rattle.std.proofs.Common.{sym, ap, ◌∙◌, ⊎_elim, lt-ltb, le-ltb, ltb-true, ltb-false, eq-or-lt_of_le, arith}
use Rattle.std.proofs.Math.Bool.{or-true, or-false}
use Rattle.std.proofs.lemmas.Bool.{not-false, not-true}
use Rattle.search.specs.Bools.{cases, never, same_test, not-is-true, not-is-false}
use Rattle.search.specs.First.{where_found, first_of, first_of-same, first, first-of, first-at, first-before, Sought, sought-start, sought-next, sought-hit, sought-end}

unfoldable pub any_of : (ℕ → Bool) → ℕ → Bool
any_of p n = where_found (first_of p n) (λ _. true) false

unfoldable pub every : (ℕ → Bool) → ℕ → Bool
every p n = not (any_of (λ s. not (p s)) n)

-- ---- some
-- by the first index, as a loop finds it
any-of : (p : ℕ → Bool) (n : ℕ) → any_of p n ≡ ltb (first p 0 n) n
unfolding any_of
any-of p n =
    ⊎_elim
    (λ (t : ltb (first p 0 n) n ≡ true). rw (first-of p n, t))
    (λ (f : ltb (first p 0 n) n ≡ false). rw (first-of p n, f))
    (cases (ltb (first p 0 n) n))

pub some_at : (p : ℕ → Bool) (n s : ℕ) → s < n → p s ≡ true → any_of p n ≡ true
some_at p n s h t =
    ⊎_elim
    (λ (y : ltb (first p 0 n) n ≡ true). any-of p n ∙ y)
    (λ (f : ltb (first p 0 n) n ≡ false).
    never (p s) t (first-before p n 0 s (omega arith) (omega (arith, ltb-false (first p 0 n) n f))))
    (cases (ltb (first p 0 n) n))

-- an index below n that passes
pub record Some (p : ℕ → Bool) (n : ℕ) : Type 0 where
  pub at : ℕ
  pub below : at < n
  pub passes : p at ≡ true

pub some_one : (p : ℕ → Bool) (n : ℕ) → any_of p n ≡ true → Some p n
some_one p n t =
    let h : first p 0 n < n = ltb-true _ _ (sym (any-of p n) ∙ t) in
    record { at = first p 0 n; below = h; passes = first-at p n 0 (omega arith) }

pub some-none : (p : ℕ → Bool) (n : ℕ) → any_of p n ≡ false → (s : ℕ) → s < n → p s ≡ false
some-none p n f s h =
    ⊎_elim (λ (t : p s ≡ true). never (any_of p n) (some_at p n s h t) f) (λ (e : p s ≡ false). e) (cases (p s))

pub none-some : (p : ℕ → Bool) (n : ℕ) → ((s : ℕ) → s < n → p s ≡ false) → any_of p n ≡ false
none-some p n h =
    ⊎_elim
    (λ (t : any_of p n ≡ true). let a = some_one p n t in never (p a.at) a.passes (h a.at a.below))
    (λ (f : any_of p n ≡ false). f)
    (cases (any_of p n))

pub some_same : (p q : ℕ → Bool) (n : ℕ) → ((s : ℕ) → s < n → p s ≡ q s) → any_of p n ≡ any_of q n
unfolding any_of
some_same p q n h = rw (first_of-same p q n h)

-- one index more
pub any-more : (p : ℕ → Bool) (i : ℕ) → any_of p (i + 1) ≡ (any_of p i || p i)
any-more p i = same_test (any_of p (i + 1)) (any_of p i || p i) there back
  where
    there : any_of p (i + 1) ≡ true → (any_of p i || p i) ≡ true
    there t =
        let a = some_one p (i + 1) t in
        ⊎_elim
        (λ (e : a.at ≡ i). rw (← e, a.passes) (or-true (any_of p a.at)))
        (λ (h : a.at < i). rw (some_at p i a.at h a.passes))
        (eq-or-lt_of_le (omega (arith, a.below)))

    back : (any_of p i || p i) ≡ true → any_of p (i + 1) ≡ true
    back t =
        ⊎_elim
        (λ (y : any_of p i ≡ true). let a = some_one p i y in some_at p (i + 1) a.at (omega (arith, a.below)) a.passes)
        (λ (n : any_of p i ≡ false). let q : p i ≡ true = rw n at t in some_at p (i + 1) i (omega arith) q)
        (cases (any_of p i))

-- a loop's two answers
pub some-hit : {p : ℕ → Bool} {n i : ℕ} {r : Bool} → Sought p n i → i < n → r ≡ p i → r ≡ true → true ≡ any_of p n
some-hit {p} {n} {i} s h e f = rw (any-of p n, sought-hit s h e f, lt-ltb i n h)

pub some_end : {p : ℕ → Bool} {n i : ℕ} → Sought p n i → n ≤ i → false ≡ any_of p n
some_end {p} {n} {i} s h = rw (any-of p n, sought-end s h, le-ltb n n (omega arith))

-- .. and a loop that looks at all: what it has seen of those below i
pub record Seen (p : ℕ → Bool) (n i : ℕ) (b : Bool) : Type 0 where
  pub low : i ≤ n
  pub same : b ≡ any_of p i

pub seen_start : (p : ℕ → Bool) (n : ℕ) → Seen p n 0 false
unfolding any_of first_of
seen_start p n = record { low = omega arith; same = refl }

module _ {p : ℕ → Bool} {n i : ℕ} {b : Bool} (s : Seen p n i b) where
  pub seen-hit : i < n → p i ≡ true → Seen p n (i + 1) true
  seen-hit h t = record { low = omega arith; same = sym (some_at p (i + 1) i (omega arith) t) }

  pub seen-miss : i < n → p i ≡ false → Seen p n (i + 1) b
  seen-miss h f = record { low = omega arith; same = s.same ∙ sym (any-more p i ∙ (rw f (or-false (any_of p i)))) }

  pub seen_end : n ≤ i → b ≡ any_of p n
  seen_end h = let e : i ≡ n = omega (arith, s.low) in rw e at s.same

-- ---- every
pub every-at : (p : ℕ → Bool) (n : ℕ) → every p n ≡ true → (s : ℕ) → s < n → p s ≡ true
unfolding every
every-at p n t s h = not-false (p s) (some-none (λ k. not (p k)) n (not-true _ t) s h)

pub at_every : (p : ℕ → Bool) (n : ℕ) → ((s : ℕ) → s < n → p s ≡ true) → every p n ≡ true
unfolding every
at_every p n h = not-is-true (none-some (λ k. not (p k)) n (λ s l. not-is-false (h s l)))

pub every-same : (p q : ℕ → Bool) (n : ℕ) → ((s : ℕ) → s < n → p s ≡ q s) → every p n ≡ every q n
unfolding every
every-same p q n h = ap not (some_same (λ s. not (p s)) (λ s. not (q s)) n (λ s l. ap not (h s l)))

-- a loop has passed i of n, each of which passes
pub record Held (p : ℕ → Bool) (n i : ℕ) : Type 0 where
  pub low : i ≤ n
  pub sought : Sought (λ s. not (p s)) n i

pub held_start : (p : ℕ → Bool) (n : ℕ) → Held p n 0
held_start p n = record { low = omega arith; sought = sought-start (λ s. not (p s)) n }

pub held_next : {p : ℕ → Bool} {n i : ℕ} {r : Bool} → Held p n i → i < n → r ≡ p i → r ≡ true → Held p n (i + 1)
held_next h l e f = record { low = omega arith; sought = sought-next h.sought l (ap not e) (not-is-false f) }

pub every-miss : {p : ℕ → Bool} {n i : ℕ} {r : Bool} → Held p n i → i < n → r ≡ p i → r ≡ false → false ≡ every p n
unfolding every
every-miss h l e f = ap not (some-hit h.sought l (ap not e) (not-is-true f))

pub every-end : {p : ℕ → Bool} {n i : ℕ} → Held p n i → n ≤ i → true ≡ every p n
unfolding every
every-end h l = ap not (some_end h.sought l)

pub ruleset loops = (some-hit, some_end, held_start, held_next, every-miss, every-end)
