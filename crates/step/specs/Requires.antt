-- What functions inside require: a store at a step of an advance, from a slot on.
use Rattle.std.specs.Prelude.{ℕ, ◌+◌, ◌-◌, ◌≤◌, ◌<◌, ◌≡◌, Bool, not, cond, ◌&&◌, List, length, leb, eqb}
use Rattle.std.proofs.Common.{Fits, arith}
use Rattle.std.specs.Int.{w32}
use Rattle.search.specs.Some.{any_of}
use Rattle.image.specs.Layout.{most_slots, most_number, has_zero, is_payload, header, free_header}
use Rattle.image.specs.Line.{header_line, store_line}
use Rattle.image.specs.Requires.{Sized, Slots, HeaderFits, slot, slot-header}
use Rattle.transient.specs.declared.sizes.Sizes.{Sizes}
use Rattle.transient.specs.Layout.{retired_in}
use Rattle.transient.specs.Store.{Table}
use Rattle.transient.specs.Requires.{Notes, NoteOf, Shaped, ShapedSlot, note-of, shaped-slot}
use Rattle.step.specs.declared.Place.{Place}

-- a slot from which on what is due is looked for
pub record Looking (wk tr : List ℕ) (z : Sizes) (c p : ℕ) : Type 0 where
  pub slot : ShapedSlot wk tr z p
  pub clock : 2 ≤ c

-- slots from p on, up to another
pub record Among (wk tr : List ℕ) (z : Sizes) (p to : ℕ) : Type 0 where
  pub shaped : Shaped wk tr z
  pub some : p < to
  pub top : to ≤ z.n

-- sixteen slots from s on: their notes, and their headers
pub record NoteGroup (tr : List ℕ) (z : Sizes) (s : ℕ) : Type 0 where
  pub notes : Notes tr z
  pub top : s + 16 ≤ z.n

pub record HeaderGroup (wk : List ℕ) (z : Sizes) (s : ℕ) : Type 0 where
  pub sized : Sized wk z.n z.w
  pub top : s + 16 ≤ z.n

-- both images and the notes of one size, and a clock that can go up
pub record Advancing (wk l tr : List ℕ) (z : Sizes) (c : ℕ) : Type 0 where
  pub shaped : Shaped wk tr z
  pub persistent : Sized l z.n z.w
  pub clock-lo : 2 ≤ c
  pub clock-hi : c < most_number

-- .. from a slot on, or at one
pub record Going (wk l tr : List ℕ) (z : Sizes) (c p : ℕ) : Type 0 where
  pub advancing : Advancing wk l tr z c
  pub within : p < z.n

-- ---- how they are made
pub slots-first : {wk l : List ℕ} {n w s : ℕ} → Slots wk l n w s → HeaderFits wk n s
slots-first y = slot-header y.first

pub slots-second : {wk l : List ℕ} {n w s : ℕ} → Slots wk l n w s → HeaderFits l n s
slots-second y = slot-header y.second

module _ {wk l tr : List ℕ} {z : Sizes} {c : ℕ} where
  pub advancing-working : Advancing wk l tr z c → 3 ≤ length wk
  advancing-working y = omega (arith, y.shaped.working.long)

  pub advancing-persistent : Advancing wk l tr z c → 3 ≤ length l
  advancing-persistent y = omega (arith, y.persistent.long)

  pub advancing-notes : Advancing wk l tr z c → Notes tr z
  advancing-notes y = y.shaped.notes

  pub advancing-next : Advancing wk l tr z c → Fits w32 (c + 1)
  advancing-next y = omega (arith, y.clock-hi)

  module _ {p : ℕ} (y : Going wk l tr z c p) where
    pub going-advancing : Advancing wk l tr z c
    going-advancing = y.advancing

    pub going-slots : Slots wk l z.n z.w p
    going-slots = record { first = slot y.advancing.shaped.working y.within; second = slot y.advancing.persistent y.within }

    pub going-shaped : ShapedSlot wk tr z p
    going-shaped = shaped-slot y.advancing.shaped y.within

    pub going-note : NoteOf tr z p
    going-note = note-of y.advancing.shaped.notes y.within

    pub going-looking : Looking wk tr z c p
    going-looking = record { slot = going-shaped; clock = y.advancing.clock-lo }

    pub going-clock : 1 ≤ c
    going-clock = omega (arith, y.advancing.clock-lo)

    pub going_next : p < most_slots
    going_next = omega (arith, y.within, y.advancing.shaped.notes.slots-hi)

    pub going-first : Going wk l tr z c 0
    going-first = record { advancing = y.advancing; within = omega (arith, y.within) }

-- ---- tests and ways that functions inside answer
unfoldable pub retired_due : ℕ → ℕ → Bool
retired_due r c = not (eqb r 0) && eqb (r + 2) c

-- a payload retired two epochs ago
unfoldable pub payload_due : Sizes → Table → ℕ → ℕ → Bool
payload_due z tb c s = is_payload (header tb.working s) && retired_due (retired_in z tb.transient s) c

-- a DELETE of three epochs ago
unfoldable pub anti_due : List ℕ → ℕ → ℕ → Bool
anti_due wk c s = not (has_zero (header wk s)) && (eqb (header wk s).kind 3 && eqb ((header wk s).epoch + 3) c)

-- is the j-th slot from s on retired in e? is any of sixteen?
unfoldable pub is_retired : Sizes → List ℕ → ℕ → ℕ → ℕ → Bool
is_retired z tr e s j = eqb (retired_in z tr (s + j)) e

unfoldable pub any_retired : Sizes → List ℕ → ℕ → ℕ → Bool
any_retired z tr e s = any_of (is_retired z tr e s) 16

-- .. a DELETE?
unfoldable pub is_delete : List ℕ → ℕ → ℕ → Bool
is_delete wk s j = eqb (header wk (s + j)).kind 3

unfoldable pub any_delete : List ℕ → ℕ → Bool
any_delete wk s = any_of (is_delete wk s) 16

-- are sixteen left, of which none is?
unfoldable pub group_stays : Sizes → Table → ℕ → ℕ → Bool
group_stays z tb c s = leb (s + 16) z.n && (not (any_retired z tb.transient (c - 2) s) && not (any_delete tb.working s))

-- a slot is free in both images
pub record Freed (wk l : List ℕ) (s : ℕ) (wk' l' : List ℕ) : Type 0 where
  pub working : wk' ≡ store_line wk (header_line s free_header)
  pub persistent : l' ≡ store_line l (header_line s free_header)

-- where a phase goes on, or begins
unfoldable pub slot_in : Place → ℕ → ℕ
slot_in p phase = cond (eqb p.phase phase) p.slot 0

pub ruleset requires-laws = (slots-first, slots-second, advancing-working, advancing-persistent, advancing-notes, advancing-next, going-advancing, going-slots, going-shaped, going-note, going-looking, going-clock, going_next, going-first)
