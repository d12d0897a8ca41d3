-- 01, "Recovery": which slots are kept, win and survive. `c` is the clock, `n` the number of slots.
use Rattle.std.specs.Prelude.{ℕ, ◌+◌, Bool, not, ◌&&◌, List, leb, ltb, eqb}
use Rattle.search.specs.Some.{any_of}
use Rattle.search.specs.Count.{count}
use Rattle.image.specs.declared.header.Header.{Header}
use Rattle.image.specs.Layout.{is_filled, is_payload, header, clock_of}

-- "A slot is kept when it is filled and label + 2 ≤ clock."
unfoldable pub kept : ℕ → Header → Bool
kept c h = is_filled h && leb (h.epoch + 2) c

-- a kept header g of the same uid and a larger epoch
unfoldable pub beats : ℕ → Header → Header → Bool
beats c h g = kept c g && (eqb g.uid h.uid && ltb h.epoch g.epoch)

-- "Of kept slots with one uid the largest label wins; a winner of kind 1 or 2 survives.": slot s of an image of n slots
unfoldable pub survivor : List ℕ → ℕ → ℕ → Bool
survivor l n s =
    is_payload (header l s) && (kept (clock_of l) (header l s) && not (any_of (λ t. beats (clock_of l) (header l s) (header l t)) n))

-- a survivor of that board
unfoldable pub survives_on : List ℕ → ℕ → ℕ → ℕ → Bool
survives_on l n board s = survivor l n s && eqb (header l s).board board

unfoldable pub survivor_count : List ℕ → ℕ → ℕ
survivor_count l n = count (survivor l n) n
