-- What functions inside require: a place on the way round the table, slots whose keys are looked at, and a value for a slot. And
-- what contracts inside and laws name: the next slot with a key, parts of a look-up, and a value stored.
use Rattle.reply.specs.declared.Refusal.{Refusal}
use Rattle.std.specs.Prelude.{ℕ, ◌+◌, ◌*◌, ◌-◌, ◌≤◌, ◌<◌, ◌≡◌, Bool, true, cond, ◌&&◌, List, length, ltb, eqb, Option, Some, None, Result, Ok}
use Rattle.std.proofs.Common.{arith}
use Rattle.search.specs.First.{first, where_found}
use Rattle.search.specs.Some.{any_of}
use Rattle.search.specs.Ring.{ring_slot, ring-below}
use Rattle.image.specs.Layout.{most_slots, header_words, contents_at, key_at}
use Rattle.image.specs.Line.{store_line}
use Rattle.image.specs.declared.name.Name.{Name}
use Rattle.image.specs.Name.{job_name}
use Rattle.image.specs.Requires.{Slot, HeaderFits, slot, slot-header, slot-after}
use Rattle.transient.specs.declared.sizes.Sizes.{Sizes}
use Rattle.transient.specs.Store.{Table}
use Rattle.transient.specs.Requires.{Shaped}
use Rattle.table.specs.Find.{listed, newer_on}

-- ---- round the table
-- the slot that follows s
unfoldable pub next_slot : ℕ → ℕ → ℕ
next_slot n s = cond (ltb (s + 1) n) (s + 1) 0

pub record Ring (n s : ℕ) : Type 0 where
  pub slots-hi : n ≤ most_slots
  pub below : s < n

pub record RingStart (wk : List ℕ) (n last steps : ℕ) : Type 0 where
  pub long : 3 + header_words * n ≤ length wk
  pub slots-hi : n ≤ most_slots
  pub from : last < n
  pub few : steps ≤ n

pub ring-header : {wk : List ℕ} {n last steps k s : ℕ} → RingStart wk n last steps → k < steps → s ≡ ring_slot n last k → HeaderFits wk n s
ring-header {wk} {n} {last} {steps} {k} y h e =
    record { within = rw e (ring-below n last k y.from (omega (arith, y.few))); slots-hi = y.slots-hi; long = y.long }

pub shaped_in : {wk tr : List ℕ} {z : Sizes} {s : ℕ} → Shaped wk tr z → s < z.n → Slot wk z.n z.w s
shaped_in y h = slot y.working h

-- ---- from one slot with a key to the next
-- the job of a slot's key
abbrev pub job_at : Sizes → List ℕ → ℕ → Name
job_at z wk s = job_name (key_at wk z.n z.w s)

unfoldable pub has_key : Sizes → List ℕ → ℕ → ℕ → Bool
has_key z wk key s = eqb (key_at wk z.n z.w s) key

-- on the chain of its job, with the key
unfoldable pub keyed : Sizes → Table → ℕ → ℕ → Bool
keyed z tb key s = listed z tb.transient (job_name key) s && has_key z tb.working key s

-- the first such slot from one on, or n
abbrev pub key_from : Sizes → Table → ℕ → ℕ → ℕ
key_from z tb key from = first (keyed z tb key) from (z.n - from)

-- a slot on the chain of a job, or n
pub record OnChain (wk tr : List ℕ) (z : Sizes) (key from : ℕ) : Type 0 where
  pub shaped : Shaped wk tr z
  pub top : from ≤ z.n
  pub on : from < z.n → listed z tr (job_name key) from ≡ true

-- a slot on it
pub record Keyed (wk tr : List ℕ) (z : Sizes) (key s : ℕ) : Type 0 where
  pub shaped : Shaped wk tr z
  pub within : s < z.n
  pub on : listed z tr (job_name key) s ≡ true

-- the first one up to s, where `live` is the first one below s
unfoldable pub sooner : Bool → ℕ → Option ℕ → Option ℕ
sooner b s live = where_found live Some (cond b (Some s) None)

-- ---- a look-up: refusal 9, and the live slot
unfoldable pub newer : Sizes → Table → Name → ℕ → Bool
newer z tb name e = any_of (newer_on z tb name e) z.n

abbrev pub looked_up : Option ℕ → Result (Option ℕ) Refusal
looked_up f = Ok f

-- ---- a value for a slot
-- the value words of a slot
unfoldable pub set_value : Sizes → List ℕ → ℕ → List ℕ → List ℕ
set_value z wk s value = store_line wk (record { at = contents_at z.n z.w s + 1; words = value })

pub record SlotValue (l : List ℕ) (z : Sizes) (s : ℕ) (value : List ℕ) : Type 0 where
  pub slot : Slot l z.n z.w s
  pub words : length value ≡ z.w - 1

pub slot-value : {l l' value : List ℕ} {z : Sizes} {s : ℕ} → length l' ≡ length l → SlotValue l z s value → SlotValue l' z s value
slot-value e y = record { slot = slot-after e y.slot; words = y.words }

pub value-slot : {l value : List ℕ} {z : Sizes} {s : ℕ} → SlotValue l z s value → Slot l z.n z.w s
value-slot y = y.slot

pub header-after : {l l' : List ℕ} {n w s : ℕ} → length l' ≡ length l → Slot l n w s → HeaderFits l' n s
header-after e y = slot-header (slot-after e y)
