-- A walk down the chain of a number, and one from place to place of that number: the laws that they need.
use Rattle.std.specs.Prelude.{ℕ, ◌-◌, ◌≤◌, ◌<◌, ◌≡◌, ◌≢◌, Bool, true, false, List}
use Rattle.std.proofs.Common.{sym, ap, ◌∙◌, arith}
use Rattle.std.proofs.Math.Decide.{ℕ_discrete, dec_lt}
use Rattle.search.specs.Bools.{refuted}
use Rattle.search.specs.Some.{any_of, some_at, none-some}
use Rattle.chains.specs.Chains.{spot, head_of, below_of, number_of, Last, Kin}
use Rattle.chains.specs.Requires.{At, AllLinked, OnChain, OnKin, spot-low}

-- ---- down the chain: it stands at the place k, and has met no slot of the number since `from`
pub record Walking (m i from x : ℕ) (l : List ℕ) (k : ℕ) : Type 0 where
  pub on : OnChain m i k x l
  pub low : k ≤ from
  pub none : (t : ℕ) → k ≤ t → t < from → number_of l t ≢ x

pub walking_start : {m i from x : ℕ} {l : List ℕ} → OnChain m i from x l → Walking m i from x l from
walking_start z = record { on = z; low = omega arith; none = λ t a h. absurd (omega arith) }

-- from the chain's head, and from the place below a slot of the number
on-last : {m i e k x : ℕ} {l : List ℕ} → AllLinked m i x l → e ≤ i → Last m l (spot m x) e k → OnChain m i k x l
on-last z h y = record { all = z; low = omega (arith, y.low); linked = y.linked; at = y.at }

top-last : {m i x k : ℕ} {l : List ℕ} → AllLinked m i x l → k ≡ head_of l (spot m x) → Last m l (spot m x) i k
top-last {m} {i} {x} z e = rw e (z.linked.top (spot m x) (spot-low m x z.linked.lent.some))

below_last : {m i k x j : ℕ} {l : List ℕ} → AllLinked m i x l → 0 < k → k ≤ i → number_of l (k - 1) ≢ 0 → spot m (number_of l (k - 1)) ≡ spot m x
    → j ≡ below_of l (k - 1) → Last m l (spot m x) (k - 1) j
below_last {m} {i} {k} {x} {j} {l} z p q r s e = rw (e, ← s) (z.linked.next (k - 1) (omega arith) r)

-- what a walk from there finds is the highest of all below e
kin-last : {m e k x r : ℕ} {l : List ℕ} → x ≢ 0 → Last m l (spot m x) e k → Kin l x k r → Kin l x e r
kin-last {m} {e} {k} {x} {r} {l} p y z =
    record {
      low = omega (arith, y.low, z.low);
      none = λ t a h. elim (dec_lt t k) [
        | yes b ↦ z.none t a b
        | no b ↦ λ d. y.none t (omega arith) h (λ f. p (sym d ∙ f)) (ap (spot m) d)
      ];
      at = z.at;
    }

module _ {m i from x k : ℕ} {l : List ℕ} (z : Walking m i from x l k) (left : k ≡ 0 → ⊥) where
  pub walking-at : At m (k - 1) l
  walking-at = record { lent = z.on.all.linked.lent; within = omega (arith, z.on.low, z.on.all.linked.low) }

  step-last : {j : ℕ} → j ≡ below_of l (k - 1) → Last m l (spot m x) (k - 1) j
  step-last e = below_last z.on.all (omega arith) z.on.low (z.on.linked (omega arith)) (z.on.at (omega arith)) e

  pub walking-hit : {g : ℕ} → g ≡ number_of l (k - 1) → g ≡ x → Kin l x from k
  walking-hit e h = record { low = z.low; none = z.none; at = λ a. sym e ∙ h }

  pub walking-less : {j : ℕ} → j ≡ below_of l (k - 1) → j < k
  walking-less e = omega (arith, (step-last e).low)

  pub walking-next : {g j : ℕ} → g ≡ number_of l (k - 1) → g ≢ x → j ≡ below_of l (k - 1) → Walking m i from x l j
  walking-next {g} {j} e h f =
      let y = step-last f in
      record {
        on = on-last z.on.all (omega (arith, z.on.low)) y;
        low = omega (arith, y.low, z.low);
        none = λ t a b. elim (dec_lt t (k - 1)) [
          | yes c ↦ λ d. y.none t a c (λ q. z.on.all.some (sym d ∙ q)) (ap (spot m) d)
          | no c ↦ elim (ℕ_discrete t (k - 1)) [
            | yes q ↦ λ d. h (e ∙ ap (number_of l) (sym q) ∙ d)
            | no q ↦ z.none t (omega arith) b
          ]
        ];
      }

pub walking-end : {m i from x k : ℕ} {l : List ℕ} → Walking m i from x l k → k ≡ 0 → Kin l x from 0
walking-end z e = record { low = omega arith; none = λ t a h. z.none t (omega arith) h; at = λ a. absurd (omega arith) }

-- ---- the two places that a walk starts at
module _ {m i x : ℕ} {l : List ℕ} (z : AllLinked m i x l) {k : ℕ} (e : k ≡ head_of l (spot m x)) where
  pub kin-on : OnChain m i k x l
  kin-on = on-last z (omega arith) (top-last z e)

  pub kin-is : {r : ℕ} → Kin l x k r → Kin l x i r
  kin-is y = kin-last z.some (top-last z e) y

module _ {m i k x : ℕ} {l : List ℕ} (z : OnKin m i k x l) where
  pub next-at : At m (k - 1) l
  next-at = record { lent = z.all.linked.lent; within = omega (arith, z.here, z.low, z.all.linked.low) }

  pub next_here : 1 ≤ k
  next_here = omega (arith, z.here)

  module _ {j : ℕ} (e : j ≡ below_of l (k - 1)) where
    next_last : Last m l (spot m x) (k - 1) j
    next_last = below_last z.all z.here z.low (λ d. z.all.some (sym z.at ∙ d)) (ap (spot m) z.at) e

    pub next-on : OnChain m i j x l
    next-on = on-last z.all (omega (arith, z.low)) next_last

    pub next-is : {r : ℕ} → Kin l x j r → Kin l x (k - 1) r
    next-is y = kin-last z.all.some next_last y

-- ---- from place to place of the number: none above the place k passes the test, which only slots of the number do
pub record Meeting (p : ℕ → Bool) (m i x : ℕ) (l : List ℕ) (k : ℕ) : Type 0 where
  pub all : AllLinked m i x l
  pub low : k ≤ i
  pub at : 0 < k → number_of l (k - 1) ≡ x
  pub same : (t : ℕ) → p t ≡ true → number_of l t ≡ x
  pub none : (t : ℕ) → k ≤ t → t < i → p t ≡ false

pub meeting-start : (p : ℕ → Bool) {m i x k : ℕ} {l : List ℕ} → AllLinked m i x l → ((t : ℕ) → p t ≡ true → number_of l t ≡ x) → Kin l x i k → Meeting p m i x l k
meeting-start p z same y =
    record { all = z; low = y.low; at = y.at; same = same; none = λ t a h. refuted (p t) (λ e. y.none t a h (same t e)) }

module _ {p : ℕ → Bool} {m i x k : ℕ} {l : List ℕ} (z : Meeting p m i x l k) (left : k ≡ 0 → ⊥) where
  pub meeting-at : At m (k - 1) l
  meeting-at = record { lent = z.all.linked.lent; within = omega (arith, z.low, z.all.linked.low) }

  pub meeting-on : OnKin m i k x l
  meeting-on = record { all = z.all; low = z.low; here = omega arith; at = z.at (omega arith) }

  pub meeting-hit : {r : Bool} → r ≡ p (k - 1) → r ≡ true → true ≡ any_of p i
  meeting-hit e t = sym (some_at p i (k - 1) (omega (arith, z.low)) (sym e ∙ t))

  pub meeting-less : {j : ℕ} → Kin l x (k - 1) j → j < k
  meeting-less y = omega (arith, y.low)

  pub meeting-next : {r : Bool} {j : ℕ} → r ≡ p (k - 1) → r ≡ false → Kin l x (k - 1) j → Meeting p m i x l j
  meeting-next e f y =
      record {
        all = z.all;
        low = omega (arith, y.low, z.low);
        at = y.at;
        same = z.same;
        none = λ t a h. elim (dec_lt t (k - 1)) [
          | yes c ↦ refuted (p t) (λ d. y.none t a c (z.same t d))
          | no c ↦ elim (ℕ_discrete t (k - 1)) [
            | yes q ↦ rw q (sym e ∙ f)
            | no q ↦ z.none t (omega arith) h
          ]
        ];
      }

pub meeting-end : {p : ℕ → Bool} {m i x k : ℕ} {l : List ℕ} → Meeting p m i x l k → k ≡ 0 → false ≡ any_of p i
meeting-end {p} {m} {i} z e = sym (none-some p i (λ t h. z.none t (omega arith) h))

-- where no slot has the number, none passes
pub kin-none : (p : ℕ → Bool) {i x k : ℕ} {l : List ℕ} → ((t : ℕ) → p t ≡ true → number_of l t ≡ x) → Kin l x i k → k ≡ 0 → any_of p i ≡ false
kin-none p same y e = none-some p _ (λ t h. refuted (p t) (λ d. y.none t (omega arith) h (same t d)))

pub ruleset walks = (walking_start, walking-at, walking-hit, walking-less, walking-next, walking-end, kin-on, kin-is, next-at, next_here, next-on, next-is)

pub ruleset meetings = (meeting-at, meeting-on, meeting-hit, meeting-less, meeting-next, meeting-end)
