-- Tests, which are Bools: their cases, the parts of `&&`, `||` and `not`, and the number that stands for a flag.
use Rattle.std.specs.Prelude.{ℕ, ◌≡◌, refl, Bool, true, false, cond, not, ◌&&◌, ◌||◌, ◌⊎◌}
use Rattle.std.proofs.Common.{sym, true≢false, inl, inr, lt-ltb, le-ltb, le-leb, eq-eqb, ne_eqb}
use Rattle.std.proofs.lemmas.Bool.{false≢true, lt-leb}

-- the two cases of a test, with the equation
pub cases : (b : Bool) → (b ≡ true) ⊎ (b ≡ false)
cases true = inl refl
cases false = inr refl

pub never : {A : Type 0} (b : Bool) → b ≡ true → b ≡ false → A
never b t f = let z : ◌≡◌ {A = Bool} true false = cc in absurd (true≢false z)

-- a test that cannot pass, one that cannot fail, and two that follow from each other
pub refuted : (b : Bool) → (b ≡ true → ⊥) → b ≡ false
refuted true f = absurd (f refl)
refuted false f = refl

pub upheld : (b : Bool) → (b ≡ false → ⊥) → b ≡ true
upheld true f = refl
upheld false f = absurd (f refl)

pub same_test : (a b : Bool) → (a ≡ true → b ≡ true) → (b ≡ true → a ≡ true) → a ≡ b
same_test true b f g = sym (f refl)
same_test false b f g = sym (refuted b (λ t. false≢true (g t)))

pub not-is-true : {b : Bool} → b ≡ false → not b ≡ true
not-is-true e = rw e

pub not-is-false : {b : Bool} → b ≡ true → not b ≡ false
not-is-false e = rw e

pub and_left : (a b : Bool) → a && b ≡ true → a ≡ true
and_left true b h = refl
and_left false b h = absurd (false≢true h)

pub and_right : (a b : Bool) → a && b ≡ true → b ≡ true
and_right true b h = h
and_right false b h = absurd (false≢true h)

pub and_both : {a b : Bool} → a ≡ true → b ≡ true → a && b ≡ true
and_both s t = rw (s, t)

-- where the first holds, the second of one is the second of the other
pub and_same : (a : Bool) {b d : Bool} → (a ≡ true → b ≡ d) → a && b ≡ a && d
and_same true f = f refl
and_same false f = refl

pub or_left : (a b : Bool) → a || b ≡ false → a ≡ false
or_left true b h = absurd (true≢false h)
or_left false b h = refl

pub or_right : (a b : Bool) → a || b ≡ false → b ≡ false
or_right true b h = absurd (true≢false h)
or_right false b h = h

-- a flag in memory: 1 for true
abbrev pub flag : Bool → ℕ
flag b = cond b 1 0

-- by which `search (needs, tests)` reads the branches that led to a place
pub ruleset tests = (lt-ltb, le-ltb, le-leb, lt-leb, eq-eqb, ne_eqb)
