-- A search that starts at p, where the indices below it fail.
use Rattle.std.specs.Prelude.{ℕ, zero, suc, ◌+◌, ◌-◌, ◌≤◌, ◌<◌, ◌≡◌, Bool, true, false, ◌&&◌, Option, Some, None}
use Rattle.std.proofs.Math.Path.{refl}
use Rattle.std.proofs.Common.{sym, ◌∙◌, add-one, arith}
use Rattle.std.proofs.Math.Dec.{leb}
use borrow.Author.Tests.{le-leb, lt-leb, leb-true}
use Rattle.search.specs.Bools.{and_left, and_right}
use Rattle.search.specs.First.{first_of, Sought, sought-start, sought-next, sought-pass, found-hit, found-end, found_first, found_nothing}

unfoldable pub first_from : (ℕ → Bool) → ℕ → ℕ → Option ℕ
first_from q n p = first_of (λ s. leb p s && q s) n

-- what an index found is
pub record Between (n p s : ℕ) : Type 0 where
  pub from : p ≤ s
  pub below : s < n

pub found_between : (q : ℕ → Bool) (n p : ℕ) {s : ℕ} → first_from q n p ≡ Some s → Between n p s
unfolding first_from
found_between q n p {s} e =
    let f = found_first (λ k. leb p k && q k) n e in
    record { from = leb-true p s (and_left (leb p s) (q s) f.passes); below = f.below }

-- .. it passes, and those before it from p on fail
pub record Hit (q : ℕ → Bool) (n p s : ℕ) : Type 0 where
  pub between : Between n p s
  pub passes : q s ≡ true
  pub before : (j : ℕ) → p ≤ j → j < s → q j ≡ false

pub found_hit : (q : ℕ → Bool) (n p : ℕ) {s : ℕ} → first_from q n p ≡ Some s → Hit q n p s
unfolding first_from
found_hit q n p {s} e =
    let f = found_first (λ k. leb p k && q k) n e in
    record {
      between = found_between q n p e;
      passes = and_right (leb p s) (q s) f.passes;
      before = λ j l h. rw (le-leb p j l) at (f.before j h);
    }

pub found_past : (q : ℕ → Bool) (n p : ℕ) → first_from q n p ≡ None → (j : ℕ) → p ≤ j → j < n → q j ≡ false
unfolding first_from
found_past q n p e j l h = rw (le-leb p j l) at (found_nothing (λ k. leb p k && q k) n e j h)

-- ---- a loop has come to s
pub record From (q : ℕ → Bool) (n p s : ℕ) : Type 0 where
  pub low : p ≤ s
  pub top : s ≤ n
  pub sought : Sought (λ k. leb p k && q k) n s

below-from : (q : ℕ → Bool) (n p : ℕ) → p ≤ n → (i : ℕ) → i ≤ p → Sought (λ k. leb p k && q k) n i
below-from q n p h zero l = sought-start (λ k. leb p k && q k) n
below-from q n p h (suc i) l =
    let miss : leb p i && q i ≡ false = rw (lt-leb p i (omega arith)) in
    rw (add-one i) at (sought-next (below-from q n p h i (omega arith)) (omega arith) refl miss)

pub from_start : (q : ℕ → Bool) (n p : ℕ) → p ≤ n → From q n p p
from_start q n p h = record { low = omega arith; top = omega arith; sought = below-from q n p (omega arith) p (omega arith) }

module _ {q : ℕ → Bool} {n p s : ℕ} (y : From q n p s) where
  pub from_end : n ≤ s → None ≡ first_from q n p
  unfolding first_from
  from_end h = found-end y.sought h

  module _ {r : Bool} (e : r ≡ q s) where
    at-or-above : r ≡ leb p s && q s
    at-or-above = rw (le-leb p s y.low) e

    pub from_next : s < n → r ≡ false → From q n p (s + 1)
    from_next h f = record { low = omega (arith, y.low); top = omega arith; sought = sought-next y.sought h at-or-above f }

    pub from-hit : s < n → r ≡ true → Some s ≡ first_from q n p
    unfolding first_from
    from-hit h t = found-hit y.sought h at-or-above t

-- ---- several at once
module _ {q : ℕ → Bool} {n p s : ℕ} (y : From q n p s) where
  -- past indices that fail
  pub from-pass : {t : ℕ} → s ≤ t → t ≤ n → ((j : ℕ) → s ≤ j → j < t → q j ≡ false) → From q n p t
  from-pass {t} h k f =
      let e : s + (t - s) ≡ t = omega arith in
      let g = sought-pass (t - s) y.sought (omega arith) (λ j a b. rw (le-leb p j (omega (arith, y.low)), f j a (omega arith))) in
      record { low = omega (arith, y.low); top = k; sought = rw e at g }

  -- by a search within, of a test that is the same there
  module _ {r : ℕ → Bool} {to : ℕ} {f : Option ℕ} (past : s ≤ to) (top : to ≤ n) (same : (j : ℕ) → s ≤ j → j < to → q j ≡ r j) (e : f ≡ first_from r to s) where
    pub within-hit : {m : ℕ} → f ≡ Some m → Some m ≡ first_from q n p
    unfolding first_from
    within-hit {m} a =
        let g = found_first (λ k. leb s k && r k) to (sym e ∙ a) in
        let low = leb-true s m (and_left (leb s m) (r m) g.passes) in
        from-hit (from-pass low (omega (arith, g.below)) (λ j l h. same j l (omega (arith, g.below)) ∙ (rw (le-leb s j l) at (g.before j h))))
        refl (omega (arith, g.below)) (same m low g.below ∙ and_right (leb s m) (r m) g.passes)

    pub within_none : f ≡ None → From q n p to
    unfolding first_from
    within_none a = from-pass past top (λ j l h. same j l h ∙ (rw (le-leb s j l) at (found_nothing (λ k. leb s k && r k) to (sym e ∙ a) j h)))

pub ruleset froms = (from_next, from-hit, from_end)
