-- The ways out of this crate's functions: a law for each, and for each call.
use Rattle.std.specs.Prelude.{ℕ, ◌+◌, ◌*◌, ◌-◌, ◌/◌, ◌%◌, ◌≤◌, ◌<◌, ◌^◌, ◌≡◌, ◌≢◌, true, List, length, get_or, set, eqb}
use Rattle.std.proofs.Math.Path.{refl}
use Rattle.std.proofs.Common.{◌∙◌, get_or-set_same, mod-lt, mul-le-mul, eq-or-lt_of_le, arith}
use Rattle.std.proofs.Math.Logic.{⊎_elim}
use Rattle.std.proofs.Math.ListN.{length-set}
use Rattle.std.proofs.Math.Seq.{get_or-set_other}
use borrow.Author.Tests.{eq-eqb, ne_eqb, eqb-true}
use Rattle.search.specs.Bools.{and_left}
use Rattle.search.specs.Some.{any_of}
use Rattle.image.specs.Layout.{most_slots}
use Rattle.chains.specs.Chains.{spot, head_of, below_of, number_of, label_of, linked_at, pair_in, Lent, Blank, Kin}
use Rattle.chains.specs.Requires.{Spots, At, FromKin, from-kin, spots-of, spots-at, spot-low}
use Rattle.chains.specs.Walking.{Meeting, meeting-start, meeting-hit, meeting-next}

-- ---- the spot of a number
pub spot-fits : (f : ℕ) {m : ℕ} → Spots m → f % 4294967296 * m < 2 ^ 64
spot-fits f {m} z =
    let a : f % 4294967296 ≤ 4294967296 = omega (arith, mod-lt f {m = 4294967296} (omega arith)) in
    let b : f % 4294967296 * m ≤ 4294967296 * most_slots = mul-le-mul a z.few in
    omega arith

pub spot_is : (m x : ℕ) {a : ℕ} → a ≡ x → (((a + a / 8192) * 2654435769) % 4294967296 * m) / 4294967296 ≡ spot m x
unfolding spot
spot_is m x e = rw e

-- ---- the four words
pub spot-word : (x : ℕ) {m b : ℕ} {l : List ℕ} → Lent m l → b ≡ spot m x → 4 * b < length l
spot-word x {m} {b} z e = omega (arith, z.long, spot-low m x z.some)

pub spot-wide : (x : ℕ) {m b : ℕ} {l : List ℕ} → Lent m l → b ≡ spot m x → 4 * b < 2 ^ 64
spot-wide x {m} {b} z e = omega (arith, z.few, spot-low m x z.some)

pub head-is : (m x : ℕ) (l : List ℕ) {b r : ℕ} → b ≡ spot m x → r ≡ get_or l (4 * b) 0 → r ≡ head_of l (spot m x)
unfolding head_of
head-is m x l e f = rw (← e) f

module _ {m s : ℕ} {l : List ℕ} (z : At m s l) where
  pub at-below : 4 * s + 1 < length l
  at-below = omega (arith, z.within, z.lent.long)

  pub at-number : 4 * s + 2 < length l
  at-number = omega (arith, z.within, z.lent.long)

  pub at_label : 4 * s + 3 < length l
  at_label = omega (arith, z.within, z.lent.long)

  pub at-spot : (x : ℕ) {b : ℕ} → b ≡ spot m x → 4 * b < length l
  at-spot x e = spot-word x z.lent e

  pub at_wide : (x : ℕ) {b : ℕ} → b ≡ spot m x → 4 * b < 2 ^ 64
  at_wide x e = spot-wide x z.lent e

  pub at-narrow : s + 1 < 2 ^ 32
  at-narrow = omega (arith, z.within, z.lent.few)

pub below-is : (l : List ℕ) (s : ℕ) {r : ℕ} → r ≡ get_or l (4 * s + 1) 0 → r ≡ below_of l s
unfolding below_of
below-is l s e = e

pub number_is : (l : List ℕ) (s : ℕ) → get_or l (4 * s + 2) 0 ≡ number_of l s
unfolding number_of
number_is l s = refl

pub label_is : (l : List ℕ) (s : ℕ) → get_or l (4 * s + 3) 0 ≡ label_of l s
unfolding label_of
label_is l s = refl

-- ---- every chain empty
pub record Clearing (m : ℕ) (b : ℕ) (l : List ℕ) : Type 0 where
  pub lent : Lent m l
  pub low : b ≤ m
  pub empty : (t : ℕ) → t < b → head_of l t ≡ 0

pub clearing-start : {m : ℕ} {l : List ℕ} → Lent m l → Clearing m 0 l
clearing-start z = record { lent = z; low = omega arith; empty = λ t h. absurd (omega arith) }

module _ {m b : ℕ} {l : List ℕ} (z : Clearing m b l) where
  pub clearing-word : b < m → 4 * b < length l
  clearing-word h = omega (arith, z.lent.long)

  pub clearing-next : b < m → Clearing m (b + 1) (set l (4 * b) 0)
  unfolding head_of
  clearing-next h =
      record {
        lent = record { some = z.lent.some; few = z.lent.few; long = length-set l (4 * b) 0 ∙ z.lent.long };
        low = omega arith;
        empty = λ t a.
            ⊎_elim
            (λ (r : t ≡ b). rw r (get_or-set_same l (4 * b) 0 0 (clearing-word h)))
            (λ (r : t < b). get_or-set_other l (4 * b) (4 * t) 0 0 (λ e. omega arith) ∙ z.empty t r)
            (eq-or-lt_of_le (omega arith));
      }

  pub clearing-end : m ≤ b → Blank m l
  clearing-end h = record { lent = z.lent; empty = λ t a. z.empty t (omega arith) }

-- ---- a slot linked
pub link-is : (m : ℕ) (l : List ℕ) (s x y : ℕ) {b v : ℕ} → b ≡ spot m x → v ≡ s + 1
    → set (set (set (set l (4 * s + 1) (get_or l (4 * b) 0)) (4 * s + 2) x) (4 * s + 3) y) (4 * b) v ≡ linked_at m l s x y
unfolding linked_at
link-is m l s x y e f = rw (e, f)

-- ---- a slot of that number and label
pair-number : (l : List ℕ) (x y t : ℕ) → pair_in l x y t ≡ true → number_of l t ≡ x
unfolding pair_in
pair-number l x y t e = eqb-true (number_of l t) x (and_left (eqb (number_of l t) x) _ e)

pub pair-start : {m i x k : ℕ} (y : ℕ) {l : List ℕ} → FromKin m i k x l → Meeting (pair_in l x y) m i x l k
pair-start {m} {i} {x} y {l} z = meeting-start (pair_in l x y) z.all (pair-number l x y) z.kin

module _ {m i x y k g : ℕ} {l : List ℕ} (z : Meeting (pair_in l x y) m i x l k) (left : k ≡ 0 → ⊥) (e : g ≡ label_of l (k - 1)) where
  pub pair-hit : g ≡ y → true ≡ any_of (pair_in l x y) i
  unfolding pair_in
  pair-hit h = meeting-hit z left (rw (← e, eq-eqb (number_of l (k - 1)) x (z.at (omega arith)), eq-eqb g y h)) refl

  pub pair-miss : {j : ℕ} → g ≢ y → Kin l x (k - 1) j → Meeting (pair_in l x y) m i x l j
  unfolding pair_in
  pair-miss h y = meeting-next z left (rw (← e, eq-eqb (number_of l (k - 1)) x (z.at (omega arith)), ne_eqb g _ h)) refl y

pub ruleset laws = (spots-of, spots-at, spot-fits, spot_is, spot-word, spot-wide, head-is, at-below, at-number, at_label, at-spot, at_wide, at-narrow, below-is, number_is, label_is, clearing-start, clearing-word, clearing-next, clearing-end, link-is)

pub ruleset pairs = (from-kin, pair-start, pair-hit, pair-miss)
