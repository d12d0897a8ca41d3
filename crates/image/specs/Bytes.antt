-- 01: "Bytes stand four to a word, lowest first."
use Rattle.std.specs.Prelude.{ℕ, zero, suc, ◌+◌, ◌*◌, ◌≤◌, ◌<◌, ◌≡◌, refl, List, [], ◌∷◌, length, get_or}
use Rattle.std.proofs.Common.{arith}

unfoldable pub words_of : List ℕ → List ℕ
words_of [] = []
words_of (a ∷ []) = []
words_of (a ∷ b ∷ []) = []
words_of (a ∷ b ∷ c ∷ []) = []
words_of (a ∷ b ∷ c ∷ d ∷ rest) = (a + 256 * b + 65536 * c + 16777216 * d) ∷ words_of rest

-- bytes that make k words, and room for them
pub record Decodes (bytes words : List ℕ) (k : ℕ) : Type 0 where
  pub whole : length bytes ≡ 4 * k
  pub room : k ≤ length words

-- up to three bytes after the last word are no word
pub record InWhole (bytes : List ℕ) : Type 0 where
  pub low : 4 * length (words_of bytes) ≤ length bytes
  pub top : length bytes < 4 * length (words_of bytes) + 4

pub in-whole : (bytes : List ℕ) → InWhole bytes
unfolding words_of
in-whole [] = record { low = omega arith; top = omega arith }
in-whole (a ∷ []) = record { low = omega arith; top = omega arith }
in-whole (a ∷ b ∷ []) = record { low = omega arith; top = omega arith }
in-whole (a ∷ b ∷ c ∷ []) = record { low = omega arith; top = omega arith }
in-whole (a ∷ b ∷ c ∷ d ∷ rest) = let z = in-whole rest in record { low = omega (arith, z.low); top = omega (arith, z.top) }

pub words-length : (k : ℕ) (bytes : List ℕ) → length bytes ≡ 4 * k → length (words_of bytes) ≡ k
words-length k bytes e = let z = in-whole bytes in omega (arith, z.low, z.top, e)

-- the word at i is made of the bytes at 4 i and after
pub words-at : (bytes : List ℕ) (i : ℕ) → i < length (words_of bytes)
    → get_or bytes (4 * i) 0 + 256 * get_or bytes (4 * i + 1) 0 + 65536 * get_or bytes (4 * i + 2) 0 + 16777216 * get_or bytes (4 * i + 3) 0 ≡ get_or (words_of bytes) i 0
unfolding words_of
words-at [] i h = absurd (omega arith)
words-at (a ∷ []) i h = absurd (omega arith)
words-at (a ∷ b ∷ []) i h = absurd (omega arith)
words-at (a ∷ b ∷ c ∷ []) i h = absurd (omega arith)
words-at (a ∷ b ∷ c ∷ d ∷ rest) zero h = refl
words-at (a ∷ b ∷ c ∷ d ∷ rest) (suc i) h =
    let a1 : 4 * suc i + 1 ≡ suc (suc (suc (suc (4 * i + 1)))) = omega arith in
    let a2 : 4 * suc i + 2 ≡ suc (suc (suc (suc (4 * i + 2)))) = omega arith in
    let a3 : 4 * suc i + 3 ≡ suc (suc (suc (suc (4 * i + 3)))) = omega arith in
    let a0 : 4 * suc i ≡ suc (suc (suc (suc (4 * i)))) = omega arith in
    rw (a1, a2, a3, a0) (words-at rest i (omega (arith, h)))
