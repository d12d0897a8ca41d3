-- 02, No. 1: "how many slots are free, surviving, kept but not surviving, and filled but too new. Each of the four figures is
-- counted by its own rule, and the printed total is their sum."
use Rattle.std.specs.Prelude.{ℕ, ◌+◌, Bool, not, ◌&&◌, List, ltb}
use Rattle.search.specs.Count.{count}
use Rattle.image.specs.Layout.{has_zero, is_filled, header, clock_of}
use Rattle.survival.specs.Survivors.{kept, survivor}
use Rattle.classes.specs.declared.Class.{Class}
use Rattle.classes.specs.declared.Class.TheVariants.{Free, Surviving, Kept, New}
use Rattle.classes.specs.declared.HeadCount.{HeadCount}

-- is slot s of an image of n slots in that class?
unfoldable pub in_class : Class → List ℕ → ℕ → ℕ → Bool
in_class Free l n s = has_zero (header l s)
in_class Surviving l n s = survivor l n s
in_class Kept l n s = kept (clock_of l) (header l s) && not (survivor l n s)
in_class New l n s = is_filled (header l s) && ltb (clock_of l) ((header l s).epoch + 2)

unfoldable pub head_count : List ℕ → ℕ → HeadCount
head_count l n =
    record {
      free = count (in_class Free l n) n;
      surviving = count (in_class Surviving l n) n;
      kept = count (in_class Kept l n) n;
      new = count (in_class New l n) n;
    }

abbrev pub total : HeadCount → ℕ
total c = c.free + c.surviving + c.kept + c.new
