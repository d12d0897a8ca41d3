-- What functions inside append require: a value with a uid and an order number to give, and the slot that is to hold it.
use Rattle.std.specs.Prelude.{ℕ, ◌+◌, ◌≤◌, ◌≡◌, Bool, false, ◌||◌, List, length, ltb, Option, Some}
use Rattle.std.proofs.Common.{sym, ◌∙◌, ltb-false, arith, Fits}
use Rattle.std.specs.Int.{w32}
use Rattle.search.specs.Bools.{or_left, or_right}
use Rattle.image.specs.Layout.{most_number}
use Rattle.transient.specs.declared.sizes.Sizes.{Sizes}
use Rattle.transient.specs.Layout.{head_words, note, next_uid_at, next_order_at}
use Rattle.transient.specs.Store.{table}
use Rattle.transient.specs.Requires.{Entered, entered-head}
use Rattle.table.specs.Find.{room}
use Rattle.jobs.specs.Requires.{Valued, Placed, room-reached, placed-head, placed-after}
use Rattle.queue_append.specs.Stages.{no_number}

pub record Ready (wk tr : List ℕ) (z : Sizes) (value : List ℕ) : Type 0 where
  pub valued : Valued wk tr z value
  pub uid-top : note next_uid_at tr ≤ most_number
  pub order-top : note next_order_at tr ≤ most_number

pub record Numbered (wk tr : List ℕ) (z : Sizes) (s : ℕ) (value : List ℕ) : Type 0 where
  pub placed : Placed wk tr z s value
  pub order-top : note next_order_at tr ≤ most_number

-- ---- how they are made
pub ready_of : {wk tr value : List ℕ} {z : Sizes} {b : Bool} → Valued wk tr z value → b ≡ no_number tr → b ≡ false → Ready wk tr z value
unfolding no_number
ready_of {wk} {tr} y e f =
    let u = note next_uid_at tr in
    let o = note next_order_at tr in
    let q : ltb most_number u || ltb most_number o ≡ false = sym e ∙ f in
    record {
      valued = y;
      uid-top = ltb-false most_number u (or_left (ltb most_number u) _ q);
      order-top = ltb-false most_number o (or_right (ltb most_number u) _ q);
    }

pub ready-entered : {wk tr value : List ℕ} {z : Sizes} → Ready wk tr z value → Entered wk tr z
ready-entered y = y.valued.entered

pub valued-head : {wk tr value : List ℕ} {z : Sizes} → Valued wk tr z value → head_words ≤ length tr
valued-head y = entered-head y.entered

pub ready-numbered : {wk tr value : List ℕ} {z : Sizes} {s : ℕ} {g : Option ℕ} (k : ℕ) → Ready wk tr z value → g ≡ room z (table wk tr) k → g ≡ Some s → Numbered wk tr z s value
ready-numbered k y c a =
    record {
      placed = record { held = record { reached = room-reached k c a y.valued.entered; words = y.valued.words }; uid-top = y.uid-top };
      order-top = y.order-top;
    }

module _ {wk tr value : List ℕ} {z : Sizes} {s : ℕ} (y : Numbered wk tr z s value) where
  pub numbered-placed : Placed wk tr z s value
  numbered-placed = y.placed

  pub numbered-head : head_words ≤ length tr
  numbered-head = placed-head y.placed

  pub numbered-after : (tr' : List ℕ) → length tr' ≡ length tr → head_words ≤ length tr'
  numbered-after tr' e = placed-after y.placed tr' e

  pub numbered-order : {o : ℕ} → o ≡ note next_order_at tr → Fits w32 (o + 1)
  numbered-order e = omega (arith, y.order-top, e)
