-- The bits of a word: one that is set is set, and the others stay.
use Rattle.std.specs.Prelude.{◌≡◌, ℕ, zero, suc, ◌+◌, ◌*◌, ◌/◌, ◌%◌, ◌^◌, ◌<◌, ◌≤◌, true, false, ◌≢◌, ◌==◌, nat_eq, refl}
use Rattle.std.proofs.Common.{sym, ◌∙◌, ⊎_elim, eqb-true, arith}
use Rattle.std.proofs.lemmas.Bool.{eqb-false}
use Rattle.std.proofs.Math.Nat.{div-div-eq-div-mul, pow-succ'}
use Rattle.search.specs.Bools.{cases}
use Rattle.transient.specs.Layout.{has_bit, with_bit}

-- ---- a bit further up is a bit of the half
half : (x j : ℕ) → x / 2 ^ suc j ≡ x / 2 / 2 ^ j
half x j = rw (pow-succ' 2 j) (sym (div-div-eq-div-mul x 2 (2 ^ j)))

bit_up : (x j : ℕ) → has_bit x (suc j) ≡ has_bit (x / 2) j
unfolding has_bit
bit_up x j = rw (half x j)

bit-low : (x : ℕ) → has_bit x 0 ≡ (x % 2 == 1)
unfolding has_bit
bit-low x = let e : x / 1 ≡ x = omega arith in rw e

with-up : (x j : ℕ) → with_bit x (suc j) ≡ with_bit (x / 2) j * 2 + x % 2
unfolding with_bit
with-up x j =
    ⊎_elim
    (λ (t : has_bit (x / 2) j ≡ true). rw (bit_up x j, t) (omega arith))
    (λ (f : has_bit (x / 2) j ≡ false). rw (bit_up x j, f, pow-succ' 2 j) (omega arith))
    (cases (has_bit (x / 2) j))

-- the lowest
with-low : (x : ℕ) → with_bit x 0 ≡ x / 2 * 2 + 1
unfolding with_bit
with-low x =
    ⊎_elim
    (λ (t : nat_eq (x % 2) 1 ≡ true). let q = eqb-true (x % 2) 1 t in rw (bit-low x, t) (omega arith))
    (λ (f : nat_eq (x % 2) 1 ≡ false). let q = eqb-false (x % 2) 1 f in rw (bit-low x, f) (omega arith))
    (cases (x % 2 == 1))

-- ---- the laws
pub bit-same : (j x : ℕ) → has_bit (with_bit x j) j ≡ true
bit-same zero x = let q : (x / 2 * 2 + 1) % 2 ≡ 1 = omega arith in rw (with-low x, bit-low (x / 2 * 2 + 1), q)
bit-same (suc j) x =
    let y = with_bit (x / 2) j in
    let q : (y * 2 + x % 2) / 2 ≡ y = omega arith in
    rw (with-up x j, bit_up (y * 2 + x % 2) j, q) (bit-same j (x / 2))

pub bit-other : (i j x : ℕ) → i ≢ j → has_bit (with_bit x j) i ≡ has_bit x i
bit-other zero zero x d = absurd (d refl)
bit-other zero (suc j) x d =
    let y = with_bit (x / 2) j in
    let q : (y * 2 + x % 2) % 2 ≡ x % 2 = omega arith in
    rw (with-up x j, bit-low (y * 2 + x % 2), q, bit-low x)
bit-other (suc i) zero x d =
    let q : (x / 2 * 2 + 1) / 2 ≡ x / 2 = omega arith in
    rw (with-low x, bit_up (x / 2 * 2 + 1) i, q, bit_up x i)
bit-other (suc i) (suc j) x d =
    let y = with_bit (x / 2) j in
    let q : (y * 2 + x % 2) / 2 ≡ y = omega arith in
    rw (with-up x j, bit_up (y * 2 + x % 2) i, q, bit_up x i) (bit-other i j (x / 2) (λ e. d (rw e)))

-- no bit of 0 is set, and none from j on where nothing is left of the word
pub bit-none : (j : ℕ) → has_bit 0 j ≡ false
bit-none zero = rw (bit-low 0)
bit-none (suc j) = rw (bit_up 0 j) (bit-none j)

pub bit_past : (j i x : ℕ) → j ≤ i → x / 2 ^ j ≡ 0 → has_bit x i ≡ false
bit_past zero i x h e = let q : x ≡ 0 = omega (arith, e) in rw q (bit-none i)
bit_past (suc j) zero x h e = absurd (omega arith)
bit_past (suc j) (suc i) x h e = rw (bit_up x i) (bit_past j i (x / 2) (omega arith) (sym (half x j) ∙ e))

-- a word of k bits stays one
pub with-fits : (k j x : ℕ) → j < k → x < 2 ^ k → with_bit x j < 2 ^ k
with-fits zero j x h l = absurd (omega arith)
with-fits (suc k) zero x h l = let m : x < 2 * 2 ^ k = rw (pow-succ' 2 k) at l in rw (with-low x, pow-succ' 2 k) (omega arith)
with-fits (suc k) (suc j) x h l =
    let m : x < 2 * 2 ^ k = rw (pow-succ' 2 k) at l in
    let i = with-fits k j (x / 2) (omega arith) (omega arith) in
    rw (with-up x j, pow-succ' 2 k) (omega arith)
