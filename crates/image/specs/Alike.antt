-- What a store of a line leaves of an image: its length and its sizes.
use Rattle.std.specs.Prelude.{ℕ, ◌≡◌, refl, List, length}
use Rattle.std.proofs.Common.{arith}
use Rattle.image.specs.declared.header.Header.{Header}
use Rattle.image.specs.Layout.{slots_of, width_of}
use Rattle.image.specs.Line.{header_line, contents_line, clock_line, store_line}
use Rattle.image.specs.Laws.{length-store, front-past-header, front-past-contents, word-past-clock}

pub record Alike (l l' : List ℕ) : Type 0 where
  pub long : length l' ≡ length l
  pub slots : slots_of l' ≡ slots_of l
  pub width : width_of l' ≡ width_of l

module _ (l : List ℕ) where
  pub unchanged : Alike l l
  unchanged = record { long = refl; slots = refl; width = refl }

  pub header-alike : (s : ℕ) (h : Header) → Alike l (store_line l (header_line s h))
  header-alike s h = record { long = length-store l _; slots = front-past-header l s 0 h (omega arith); width = front-past-header l s 1 h (omega arith) }

  pub contents-alike : (n w s : ℕ) (words : List ℕ) → Alike l (store_line l (contents_line n w s words))
  contents-alike n w s words =
      record { long = length-store l _; slots = front-past-contents l n w s 0 words (omega arith); width = front-past-contents l n w s 1 words (omega arith) }

  pub clock-alike : (c : ℕ) → Alike l (store_line l (clock_line c))
  clock-alike c = record { long = length-store l _; slots = word-past-clock l c 0 (λ q. omega arith); width = word-past-clock l c 1 (λ q. omega arith) }
