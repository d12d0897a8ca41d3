-- What functions inside a batch require: a whole change, and a list of whole changes that are not too many.
use Rattle.std.specs.Prelude.{ℕ, ◌+◌, ◌*◌, ◌-◌, ◌/◌, ◌%◌, ◌≤◌, ◌<◌, ◌≡◌, false, List, length, take, drop, ltb}
use Rattle.std.proofs.Common.{length-take, length-drop, arith, ltb-false, eqb-true}
use Rattle.std.proofs.Math.Nat.{div-add-mod, div-le_of_le-mul}
use Rattle.std.proofs.lemmas.Bool.{not-false}
use Rattle.search.specs.Bools.{or_left, or_right}
use Rattle.image.specs.Requires.{room_of}
use Rattle.transient.specs.declared.sizes.Sizes.{Sizes}
use Rattle.transient.specs.Requires.{Entered}
use Rattle.jobs.specs.Requires.{Valued}
use Rattle.job_batch.specs.Batch.{change_at, bad_list}

pub record Changing (wk tr : List ℕ) (z : Sizes) (c : List ℕ) : Type 0 where
  pub entered : Entered wk tr z
  pub words : length c ≡ z.w + 1

-- contents of a bounded width
pub record Narrow (z : Sizes) : Type 0 where
  pub width-hi : z.w ≤ 9

-- so many whole changes
pub record Whole (z : Sizes) (list : List ℕ) (many : ℕ) : Type 0 where
  pub long : length list ≡ (z.w + 1) * many
  pub few : many ≤ 64

pub record Listed (wk tr : List ℕ) (z : Sizes) (list : List ℕ) : Type 0 where
  pub entered : Entered wk tr z
  pub whole : Whole z list (length list / (z.w + 1))

-- ---- how they are made
pub entered-narrow : {wk tr : List ℕ} {z : Sizes} → Entered wk tr z → Narrow z
entered-narrow y = record { width-hi = y.shaped.working.sizes.width-hi }

pub list-whole : (z : Sizes) (list : List ℕ) → bad_list z list ≡ false → Whole z list (length list / (z.w + 1))
unfolding bad_list
list-whole z list h =
    let top = ltb-false (64 * (z.w + 1)) (length list) (or_left (ltb (64 * (z.w + 1)) (length list)) _ h) in
    let none = eqb-true (length list % (z.w + 1)) 0 (not-false _ (or_right (ltb (64 * (z.w + 1)) (length list)) _ h)) in
    record { long = omega (arith, div-add-mod (length list) (z.w + 1), none); few = div-le_of_le-mul (z.w + 1) (omega (arith, top)) }

-- each of the changes is whole, and lies in the list
module _ {z : Sizes} {list : List ℕ} {many : ℕ} (y : Whole z list many) (k : ℕ) (h : k < many) where
  pub change-room : (z.w + 1) * k + (z.w + 1) ≤ length list
  change-room = rw y.long (room_of (z.w + 1) k many h)

  pub change-words : length (change_at z list k) ≡ z.w + 1
  change-words = simp (length-take, length-drop) (omega (arith, change-room))

-- what a change needs of itself
module _ {wk tr : List ℕ} {z : Sizes} {c : List ℕ} (y : Changing wk tr z c) where
  pub change-entered : Entered wk tr z
  change-entered = y.entered

  pub change-long : 2 ≤ length c
  change-long = omega (arith, y.words, y.entered.shaped.working.sizes.width-lo)

  pub change-valued : Valued wk tr z (take (length c - 2) (drop 2 c))
  change-valued = record { entered = y.entered; words = simp (length-take, length-drop) (omega (arith, y.words)) }
