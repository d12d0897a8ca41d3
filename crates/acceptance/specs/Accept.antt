-- 01, "Where each call can decline": what recovery refuses in an image, numbers 1 to 4.
use Rattle.std.specs.Prelude.{ℕ, Bool, not, ◌&&◌, ◌||◌, List, ◌==◌, nat_le, Ok}
use Rattle.search.specs.Some.{any_of, every}
use Rattle.reply.specs.declared.Refusal.TheVariants.{BadSizes, BadClock, BadSlot, Duplicate}
use Rattle.reply.specs.Refusals.{Check, refuse}
use Rattle.image.specs.declared.header.Header.{Header}
use Rattle.image.specs.Layout.{most_number, queue_board, has_zero, header, slots_of, width_of, clock_of, shape_ok, clock_ok}
use Rattle.image.specs.declared.name.Name.{Name}
use Rattle.image.specs.Name.{name_at, same_name, misnamed}
use Rattle.survival.specs.Survivors.{kept, survivor}

-- "A filled mark has a label from 2 to the clock and a uid from 1 to 4,000,000,000"; 02, No. 3: "condition 3 admits boards 1 and 2"
unfoldable pub in_range : ℕ → Header → Bool
in_range c h = nat_le h.kind 3 && (nat_le 2 h.epoch && (nat_le h.epoch c && (nat_le h.uid most_number && nat_le h.board queue_board)))

-- 02, No. 4: "of marks, condition 3 rejects only those of four nonzero words, one out of range"
unfoldable pub proper : ℕ → Header → Bool
proper c h = has_zero h || in_range c h

-- "two kept slots equal in uid and label": slot s is kept, and so is some slot below it with its uid and label
unfoldable pub version_below : ℕ → (ℕ → Header) → ℕ → Bool
version_below c hs s = kept c (hs s) && any_of (λ t. kept c (hs t) && ((hs t).uid == (hs s).uid && (hs t).epoch == (hs s).epoch)) s

-- a survivor of that name
unfoldable pub survives_as : List ℕ → ℕ → ℕ → Name → ℕ → Bool
survives_as l n w name t = survivor l n t && same_name (name_at l n w t) name

-- "two survivors equal in key", within one board: slot s survives, and so does some slot below it with the same name
unfoldable pub name_below : List ℕ → ℕ → ℕ → ℕ → Bool
name_below l n w s = survivor l n s && any_of (survives_as l n w (name_at l n w s)) s

-- 1: "N, W .. outside its range; image length wrong"; 2: "clock outside 2 to 4,000,000,000";
-- 3: a mark of four nonzero words, one out of range; "a survivor with key 0", or one of board 2 with a key above 4,000,000,000;
-- 4: "two kept slots equal in uid and label, or two survivors equal in key", whatever the boards of the one, within one board the other
unfoldable pub image_check : List ℕ → Check
image_check l =
    let n = slots_of l in let w = width_of l in let c = clock_of l in
    refuse (not (shape_ok l)) BadSizes
    (refuse (not (clock_ok c)) BadClock
    (refuse (not (every (λ s. proper c (header l s)) n) || any_of (λ s. survivor l n s && misnamed (name_at l n w s)) n) BadSlot
    (refuse (any_of (version_below c (header l)) n || any_of (name_below l n w) n) Duplicate (Ok tt))))
