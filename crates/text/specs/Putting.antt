-- What putting a text into a buffer leaves, and the loops that do it.
use Rattle.std.specs.Prelude.{ℕ, zero, suc, ◌+◌, ◌*◌, ◌-◌, ◌^◌, ◌/◌, ◌%◌, ◌≤◌, ◌<◌, ◌≡◌, refl, List, [], ◌∷◌, ◌++◌, true, false, ltb, length, get_or, take}
use Rattle.std.proofs.Common.{sym, ap, ◌∙◌, append_assoc, append-nil, ⊎_elim, length-append, length-take-le, take_all, take-suc, lt-ltb, le-ltb, pow-suc, mod-eq_of_lt, div-add-mod', add-one, arith, pow-add}
use Rattle.std.proofs.Math.Decide.{dec_le}
use Rattle.search.specs.Bools.{cases}
use Rattle.io.specs.Counts.{IsPrefixLen}
use Rattle.io.specs.Digits.{last_digits, IsDigitCount}
use Rattle.text.specs.Text.{digits_in, decimal, spaced}

-- `after` has a text behind the first `at` bytes of `before`; it ends at `end`
pub record Appended (before : List ℕ) (at : ℕ) (text : List ℕ) (after : List ℕ) (end : ℕ) : Type 0 where
  pub long : length after ≡ length before
  pub ends : end ≡ at + length text
  pub is : take end after ≡ take at before ++ text

-- no text
pub put-none : (before : List ℕ) (at : ℕ) → Appended before at [] before at
put-none before at = record { long = refl; ends = omega arith; is = sym (append-nil (take at before)) }

-- one text, and behind it another
pub put_both : {a b c s t : List ℕ} {at m e : ℕ} → Appended a at s b m → Appended b m t c e → Appended a at (s ++ t) c e
put_both {a} {b} {c} {s} {t} {at} {m} {e} x y =
    record {
      long = y.long ∙ x.long;
      ends = simp length-append (omega (arith, x.ends, y.ends));
      is = y.is ∙ ap (λ z. z ++ t) x.is ∙ append_assoc (take at a) s t;
    }

-- a whole line: the first `end` bytes of the buffer, which is as long as before
pub record Spelt (before : List ℕ) (text : List ℕ) (after : List ℕ) (end : ℕ) : Type 0 where
  pub room : length after ≡ length before
  pub fits : end ≤ length after
  pub long : end ≡ length (take end after)
  pub is : take end after ≡ text

pub line_of : {before text after : List ℕ} {end : ℕ} → Appended before 0 text after end → length text ≤ length before → Spelt before text after end
line_of {before} {text} {after} {end} p h =
    let f : end ≤ length after = omega (arith, p.long, p.ends) in
    record { room = p.long; fits = f; long = sym (length-take-le end after f); is = p.is }

-- ---- a text in a buffer of its own: it is the first `len` of N bytes, and a part is put behind it
module _ (bytes : List ℕ) {text : List ℕ} {len n : ℕ} (v : text ≡ take len bytes) (low : len ≤ n) (long : length bytes ≡ n) where
  pub text-long : length text ≡ len
  text-long = rw (v, length-take-le len bytes (omega arith)) refl

  pub text-room : (k : ℕ) → length text + k ≤ n → len + k ≤ length bytes
  text-room k h = omega (arith, text-long)

  pub text-room-both : (j k : ℕ) → length text + j + k ≤ n → len + j + k ≤ length bytes
  text-room-both j k h = omega (arith, text-long)

  module _ {part after : List ℕ} {end : ℕ} (p : Appended bytes len part after end) where
    pub text-is : take end after ≡ text ++ part
    text-is = rw (p.is, ← v) refl

-- ---- numbers: what the toolchain's `decimal` spells
power-ten : (j : ℕ) → 1 ≤ 10 ^ j
power-ten zero = omega arith
power-ten (suc j) = omega (arith, power-ten j, pow-suc 10 j)

few-digits : (k x : ℕ) → IsDigitCount 10 1 x k → x < 18446744073709551616 → k ≤ 20
few-digits k x f small =
    elim (dec_le k 20) [
      | yes a ↦ a
      | no a ↦
          let j = k - 21 in
          let up : k - 1 ≡ 20 + j = omega arith in
          let most : 10 ^ (k - 1) ≤ x = f.2 (omega arith) in
          let split : 10 ^ (20 + j) ≡ 10 ^ 20 * 10 ^ j = pow-add 10 20 j in
          let big : 10 ^ 20 * 10 ^ j ≤ x = rw (up, split) at most in
          absurd (omega (arith, power-ten j))
    ]

last_digits-digits_in : (r k n : ℕ) → r ≤ k → IsDigitCount 10 1 n r → last_digits 10 r n ≡ digits_in k n
unfolding digits_in
last_digits-digits_in zero k n h f = absurd (omega (arith, f.0))
last_digits-digits_in (suc zero) zero n h f = absurd (omega arith)
last_digits-digits_in (suc zero) (suc k) n h f =
    let small : n < 10 = f.1 in
    rw (lt-ltb n 10 small, mod-eq_of_lt small, lt-ltb n 10 small)
last_digits-digits_in (suc (suc r)) zero n h f = absurd (omega arith)
last_digits-digits_in (suc (suc r)) (suc k) n h f =
    let step : 10 ^ suc (suc r) ≡ 10 ^ suc r * 10 = pow-suc 10 (suc r) in
    let down : 10 ^ suc r ≡ 10 ^ r * 10 = pow-suc 10 r in
    let same : suc (suc r) - 1 ≡ suc r = omega arith in
    let back : suc r - 1 ≡ r = omega arith in
    let least : 10 ^ suc r ≤ n = rw same at (f.2 (omega arith)) in
    let low : n % 10 < 10 = omega arith in
    let whole = div-add-mod' n 10 in
    let more : 10 ≤ n = omega (arith, power-ten r) in
    let next : IsDigitCount 10 1 (n / 10) (suc r) = (omega arith, omega (arith, f.1), λ g. rw back (omega arith)) in
    rw (le-ltb n 10 more, lt-ltb (n % 10) 10 low, last_digits-digits_in (suc r) k (n / 10) (omega arith) next)

module _ (x k : ℕ) (ds : List ℕ) (c : IsPrefixLen k ds) (f : IsDigitCount 10 1 x k) (small : x < 18446744073709551616) where
  pub number-room : (at room : ℕ) → at + 20 ≤ room → at + length (take k ds) ≤ room
  number-room at room h = omega (arith, c.1, few-digits k x f small)

  pub number_put : {before after : List ℕ} {at end : ℕ} → take k ds ≡ last_digits 10 k x → Appended before at (take k ds) after end → Appended before at (decimal x) after end
  unfolding decimal
  number_put e p = rw (e, last_digits-digits_in k 20 x (few-digits k x f small) f) at p

-- ---- numbers with a space before each
pub decimal-short : (n : ℕ) → length (decimal n) ≤ 20
unfolding decimal digits_in
decimal-short n = short 20 n
  where
    short : (k m : ℕ) → length (digits_in k m) ≤ k
    short zero m = omega arith
    short (suc k) m =
        ⊎_elim
        (λ (y : ltb m 10 ≡ true). rw y (omega arith))
        (λ (f : ltb m 10 ≡ false). rw (f, length-append (digits_in k (m / 10)) ((48 + m % 10) ∷ [])) (omega (arith, short k (m / 10))))
        (cases (ltb m 10))

-- a word and a number: where they end at most
pub figure-ends : (word : List ℕ) (x : ℕ) {before after : List ℕ} {at end : ℕ} → Appended before at (word ++ decimal x) after end → end ≤ at + length word + 20
figure-ends word x p = omega (arith, p.ends, length-append word (decimal x), decimal-short x)

-- a text, and behind it the end of the line
pub line-done : {before text mid after : List ℕ} {k end : ℕ} → Appended before 0 text mid k → Appended mid k (10 ∷ []) after end → k + 1 ≤ length before
    → Spelt before (text ++ (10 ∷ [])) after end
line-done {before} {text} p q h =
    line_of (put_both p q) (simp length-append (omega (arith, p.ends)))

spaced-append : (xs ys : List ℕ) → spaced (xs ++ ys) ≡ spaced xs ++ spaced ys
unfolding spaced
spaced-append [] ys = refl
spaced-append (x ∷ xs) ys = rw (spaced-append xs ys, append_assoc (decimal x) (spaced xs) (spaced ys))

spaced-next : (xs : List ℕ) (i : ℕ) → i < length xs → spaced (take (i + 1) xs) ≡ spaced (take i xs) ++ (32 ∷ decimal (get_or xs i 0))
unfolding spaced
spaced-next xs i h =
    rw (add-one i, take-suc xs i 0 h, spaced-append (take i xs) (get_or xs i 0 ∷ []), append-nil (decimal (get_or xs i 0)))

pub spaced-short : (xs : List ℕ) → length (spaced xs) ≤ 21 * length xs
unfolding spaced
spaced-short [] = omega arith
spaced-short (x ∷ xs) = rw (length-append (decimal x) (spaced xs)) (omega (arith, spaced-short xs, decimal-short x))

-- a loop has put i numbers
pub record Spacing (before : List ℕ) (at : ℕ) (numbers : List ℕ) (i : ℕ) (out : List ℕ) (k : ℕ) : Type 0 where
  pub low : i ≤ length numbers
  pub so_far : Appended before at (spaced (take i numbers)) out k
  pub room : k ≤ at + 21 * i

pub spacing-start : (before : List ℕ) (at : ℕ) (numbers : List ℕ) → Spacing before at numbers 0 before at
unfolding spaced
spacing-start before at numbers =
    record { low = omega arith; so_far = put-none before at; room = omega arith }

pub spacing-next : {before : List ℕ} {at : ℕ} {numbers : List ℕ} {i : ℕ} {out out' : List ℕ} {k k' x : ℕ} → Spacing before at numbers i out k → i < length numbers
    → x ≡ get_or numbers i 0 → Appended out k ((32 ∷ []) ++ decimal x) out' k' → Spacing before at numbers (i + 1) out' k'
spacing-next {before} {at} {numbers} {i} {out} {out'} {k} {k'} {x} z h e p =
    let q : Appended out k (32 ∷ decimal (get_or numbers i 0)) out' k' = rw e at p in
    record {
      low = omega arith;
      so_far = rw (spaced-next numbers i h) (put_both z.so_far q);
      room = omega (arith, z.room, q.ends, decimal-short (get_or numbers i 0));
    }

pub spacing-room : {before : List ℕ} {at : ℕ} {numbers : List ℕ} {i : ℕ} {out : List ℕ} {k : ℕ} → Spacing before at numbers i out k → i < length numbers
    → at + 21 * length numbers ≤ length before → k + 1 + 20 ≤ length out
spacing-room z h room = omega (arith, z.so_far.long, z.room)

pub spacing-end : {before : List ℕ} {at : ℕ} {numbers : List ℕ} {i : ℕ} {out : List ℕ} {k : ℕ} → Spacing before at numbers i out k → length numbers ≤ i
    → Appended before at (spaced numbers) out k
spacing-end {before} {at} {numbers} {i} z h = rw (take_all i numbers h) at z.so_far

pub ruleset loops = (spacing-start, spacing-next, spacing-room, spacing-end)

pub ruleset laws = (put_both, number-room, number_put)

pub ruleset texts = (text-room, text-room-both, text-is, decimal-short, spaced-short, length-append)
