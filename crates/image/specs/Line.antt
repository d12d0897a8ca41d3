-- 01: "A line is one slot's mark, one slot's contents, or the clock word." What a cut within its store leaves is `Torn` (Torn.antt).
use Rattle.std.specs.Prelude.{ℕ, zero, suc, ◌+◌, List, [], ◌∷◌, length, get_or, set}
use Rattle.image.specs.declared.header.Header.{Header}
use Rattle.image.specs.Layout.{header_at, contents_at}

-- where it stands, and which words
pub record Line : Type 0 where
  pub at : ℕ
  pub words : List ℕ

abbrev pub header_line : ℕ → Header → Line
header_line s h = record { at = header_at s; words = h.kind ∷ h.epoch ∷ h.uid ∷ h.board ∷ [] }

abbrev pub contents_line : ℕ → ℕ → ℕ → List ℕ → Line
contents_line n w s words = record { at = contents_at n w s; words = words }

abbrev pub clock_line : ℕ → Line
clock_line c = record { at = 2; words = c ∷ [] }

-- the first k words of src, put into dst from b on
unfoldable pub stored : List ℕ → ℕ → List ℕ → ℕ → List ℕ
stored dst b src zero = dst
stored dst b src (suc k) = set (stored dst b src k) (b + k) (get_or src k 0)

-- an image in which a line is stored
unfoldable pub store_line : List ℕ → Line → List ℕ
store_line l k = stored l k.at k.words (length k.words)
