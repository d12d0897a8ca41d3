-- What functions inside require: an image of n slots and w words, and a slot of it.
use Rattle.std.specs.Prelude.{ℕ, ◌+◌, ◌*◌, ◌≤◌, ◌<◌, ◌≡◌, List, length, get_or}
use Rattle.std.proofs.Common.{◌∙◌, arith, mul-suc, mul-le-mul_left}
use Rattle.image.specs.Layout.{most_slots, header_words, header_at, image_words, header, contents}
use Rattle.image.specs.Line.{Line, header_line, contents_line}

pub record InRange (n w : ℕ) : Type 0 where
  pub slots-lo : 2 ≤ n
  pub slots-hi : n ≤ most_slots
  pub width-lo : 2 ≤ w
  pub width-hi : w ≤ 9

pub record Sized (l : List ℕ) (n w : ℕ) : Type 0 where
  pub sizes : InRange n w
  pub long : length l ≡ image_words n w

-- `room` is there for omega, which takes w * s and w * n as unknowns
pub record Slot (l : List ℕ) (n w s : ℕ) : Type 0 where
  pub sized : Sized l n w
  pub within : s < n
  pub room : w * s + w ≤ w * n

-- a slot's number, for where its contents stand
pub record SlotOf (n w s : ℕ) : Type 0 where
  pub sizes : InRange n w
  pub within : s < n
  pub room : w * s + w ≤ w * n

-- one slot of two images
pub record Slots (a b : List ℕ) (n w s : ℕ) : Type 0 where
  pub first : Slot a n w s
  pub second : Slot b n w s

-- where a header is read or written
pub record HeaderFits (l : List ℕ) (n s : ℕ) : Type 0 where
  pub within : s < n
  pub slots-hi : n ≤ most_slots
  pub long : 3 + header_words * n ≤ length l

-- ---- the words of a header, one by one
abbrev pub kind_at : List ℕ → ℕ → ℕ
kind_at l s = get_or l (header_at s) 0

abbrev pub epoch_at : List ℕ → ℕ → ℕ
epoch_at l s = get_or l (header_at s + 1) 0

abbrev pub uid_at : List ℕ → ℕ → ℕ
uid_at l s = get_or l (header_at s + 2) 0

abbrev pub board_at : List ℕ → ℕ → ℕ
board_at l s = get_or l (header_at s + 3) 0

-- ---- the lines of a slot as an image holds them
abbrev pub held_header : List ℕ → ℕ → Line
held_header l s = header_line s (header l s)

abbrev pub held_contents : List ℕ → ℕ → ℕ → ℕ → Line
held_contents l n w s = contents_line n w s (contents l n w s)

-- ---- how they are made
-- slot s's words end within n slots' words
pub room_of : (w s n : ℕ) → s < n → w * s + w ≤ w * n
room_of w s n h = rw mul-suc at (mul-le-mul_left w h)

pub slot : {l : List ℕ} {n w s : ℕ} → Sized l n w → s < n → Slot l n w s
slot {l} {n} {w} {s} z h = record { sized = z; within = h; room = room_of w s n h }

pub slot_of : {l : List ℕ} {n w s : ℕ} → Slot l n w s → SlotOf n w s
slot_of z = record { sizes = z.sized.sizes; within = z.within; room = z.room }

pub header-fits : {l : List ℕ} {n w s : ℕ} → Sized l n w → s < n → HeaderFits l n s
header-fits z h = record { within = h; slots-hi = z.sizes.slots-hi; long = omega arith }

pub slot-header : {l : List ℕ} {n w s : ℕ} → Slot l n w s → HeaderFits l n s
slot-header z = header-fits z.sized z.within

-- ---- they stay where the length does
pub sized-after : {l l' : List ℕ} {n w : ℕ} → length l' ≡ length l → Sized l n w → Sized l' n w
sized-after e z = record { sizes = z.sizes; long = e ∙ z.long }

pub slot-after : {l l' : List ℕ} {n w s : ℕ} → length l' ≡ length l → Slot l n w s → Slot l' n w s
slot-after e z = record { sized = sized-after e z.sized; within = z.within; room = z.room }
