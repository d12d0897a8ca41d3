-- The words that bytes make, read in place.
use Rattle.std.specs.Prelude.{ℕ, ◌+◌, ◌*◌, ◌/◌, ◌<◌, ◌≡◌, List, [], ◌∷◌, length, get_or}
use Rattle.std.proofs.Common.{arith, div-add-mod'}
use Rattle.std.specs.Int.{w32, from_le_bytes}
use Rattle.image.specs.Bytes.{words_of, in-whole, words-at}

pub packed-count : (bytes : List ℕ) → length bytes / 4 ≡ length (words_of bytes)
packed-count bytes = let z = in-whole bytes in omega (arith, z.low, z.top, div-add-mod' (length bytes) 4)

pub packed-top : (bytes : List ℕ) {i : ℕ} → i < length (words_of bytes) → 4 * i + 3 < length bytes
packed-top bytes h = let z = in-whole bytes in omega (arith, z.low)

pub packed-word : (bytes : List ℕ) (i : ℕ) {r : ℕ} → i < length (words_of bytes)
    → r ≡ from_le_bytes w32 (get_or bytes (4 * i) 0 ∷ get_or bytes (4 * i + 1) 0 ∷ get_or bytes (4 * i + 2) 0 ∷ get_or bytes (4 * i + 3) 0 ∷ [])
    → r ≡ get_or (words_of bytes) i 0
packed-word bytes i h e = let w = words-at bytes i h in omega (arith, e, w)

pub ruleset packed = (packed-count, packed-top, packed-word)
