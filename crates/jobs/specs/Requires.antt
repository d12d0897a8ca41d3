-- What functions inside the calls on jobs require: a value of the right length, a slot reached, and one more slot found for it.
use Rattle.reply.specs.declared.Refusal.{Refusal}
use Rattle.std.specs.Prelude.{ℕ, ◌+◌, ◌-◌, ◌≤◌, ◌<◌, ◌≡◌, List, length, Option, Some, Result, Ok}
use Rattle.std.proofs.Common.{sym, ◌∙◌, arith, Fits}
use Rattle.std.specs.Int.{w32}
use Rattle.image.specs.Layout.{most_number}
use Rattle.image.specs.declared.name.Name.{Name}
use Rattle.image.specs.Requires.{Slot, HeaderFits, slot, header-fits}
use Rattle.transient.specs.declared.sizes.Sizes.{Sizes}
use Rattle.transient.specs.Layout.{head_words, note, next_uid_at}
use Rattle.transient.specs.Store.{table}
use Rattle.transient.specs.Requires.{Notes, NoteOf, Shaped, Entered, entered-head}
use Rattle.table.specs.Find.{lookup, room}
use Rattle.table.specs.Requires.{SlotValue}
use Rattle.table.specs.Laws.{room-below, lookup-below}

-- contents of at least a key
pub record Wide (z : Sizes) : Type 0 where
  pub width-lo : 1 ≤ z.w

-- a value of V words
pub record Valued (wk tr : List ℕ) (z : Sizes) (value : List ℕ) : Type 0 where
  pub entered : Entered wk tr z
  pub words : length value ≡ z.w - 1

-- a slot of the table
pub record Reached (wk tr : List ℕ) (z : Sizes) (s : ℕ) : Type 0 where
  pub entered : Entered wk tr z
  pub within : s < z.n

-- both
pub record Held (wk tr : List ℕ) (z : Sizes) (s : ℕ) (value : List ℕ) : Type 0 where
  pub reached : Reached wk tr z s
  pub words : length value ≡ z.w - 1

-- the same with a uid to give: the slot takes a first version
pub record Placed (wk tr : List ℕ) (z : Sizes) (s : ℕ) (value : List ℕ) : Type 0 where
  pub held : Held wk tr z s value
  pub uid-top : note next_uid_at tr ≤ most_number

-- the notes of a slot, and of the one that supersedes it
pub record Superseding (tr : List ℕ) (z : Sizes) (s f : ℕ) : Type 0 where
  pub notes : Notes tr z
  pub from : s < z.n
  pub to : f < z.n

-- ---- how they are made
pub entered-wide : {wk tr : List ℕ} {z : Sizes} → Entered wk tr z → Wide z
entered-wide y = record { width-lo = omega (arith, y.shaped.working.sizes.width-lo) }

pub valued-entered : {wk tr value : List ℕ} {z : Sizes} → Valued wk tr z value → Entered wk tr z
valued-entered y = y.entered

pub valued-shaped : {wk tr value : List ℕ} {z : Sizes} → Valued wk tr z value → Shaped wk tr z
valued-shaped y = y.entered.shaped

pub reached-entered : {wk tr : List ℕ} {z : Sizes} {s : ℕ} → Reached wk tr z s → Entered wk tr z
reached-entered y = y.entered

pub reached-header : {wk tr : List ℕ} {z : Sizes} {s : ℕ} → Reached wk tr z s → HeaderFits wk z.n s
reached-header y = header-fits y.entered.shaped.working y.within

pub reached-note : {wk tr : List ℕ} {z : Sizes} {s : ℕ} → Reached wk tr z s → NoteOf tr z s
reached-note y = record { notes = y.entered.shaped.notes; within = y.within }

pub held-reached : {wk tr value : List ℕ} {z : Sizes} {s : ℕ} → Held wk tr z s value → Reached wk tr z s
held-reached y = y.reached

pub held-value : {wk tr value : List ℕ} {z : Sizes} {s : ℕ} → Held wk tr z s value → SlotValue wk z s value
held-value y = record { slot = slot y.reached.entered.shaped.working y.reached.within; words = y.words }

module _ {wk tr value : List ℕ} {z : Sizes} {s : ℕ} (y : Placed wk tr z s value) where
  pub placed-value : SlotValue wk z s value
  placed-value = held-value y.held

  pub placed-note : NoteOf tr z s
  placed-note = reached-note y.held.reached

  pub placed-head : head_words ≤ length tr
  placed-head = entered-head y.held.reached.entered

  pub placed-after : (tr' : List ℕ) → length tr' ≡ length tr → head_words ≤ length tr'
  placed-after tr' e = rw e placed-head

  pub placed-uid : {u : ℕ} → u ≡ note next_uid_at tr → Fits w32 (u + 1)
  placed-uid e = omega (arith, y.uid-top, e)

pub super-to : {tr : List ℕ} {z : Sizes} {s f : ℕ} → Superseding tr z s f → NoteOf tr z f
super-to y = record { notes = y.notes; within = y.to }

pub super-from : {tr : List ℕ} {z : Sizes} {s f : ℕ} → Superseding tr z s f → NoteOf tr z s
super-from y = record { notes = y.notes; within = y.from }

-- a slot that the look-up gave
module _ {wk tr : List ℕ} {z : Sizes} (name : Name) (e : ℕ) {s : ℕ} {k : Result (Option ℕ) Refusal} (c : k ≡ lookup z (table wk tr) name e) (a : k ≡ Ok (Some s)) where
  pub looked-reached : Entered wk tr z → Reached wk tr z s
  looked-reached y = record { entered = y; within = lookup-below z (table wk tr) name e s (sym c ∙ a) }

  pub looked-held : {value : List ℕ} → Valued wk tr z value → Held wk tr z s value
  looked-held y = record { reached = looked-reached y.entered; words = y.words }

-- one that the search for room gave
module _ {wk tr : List ℕ} {z : Sizes} (k : ℕ) {f : ℕ} {g : Option ℕ} (c : g ≡ room z (table wk tr) k) (a : g ≡ Some f) where
  pub room-reached : Entered wk tr z → Reached wk tr z f
  room-reached y = record { entered = y; within = room-below z (table wk tr) k f y.last (sym c ∙ a) }

  pub room-slot : {s : ℕ} → Reached wk tr z s → Slot wk z.n z.w f
  room-slot y = slot y.entered.shaped.working (room-reached y.entered).within

  pub room-value : {value : List ℕ} {s : ℕ} → Held wk tr z s value → SlotValue wk z f value
  room-value y = record { slot = room-slot y.reached; words = y.words }

  pub room-super : {s : ℕ} → Reached wk tr z s → Superseding tr z s f
  room-super y = record { notes = y.entered.shaped.notes; from = y.within; to = (room-reached y.entered).within }

pub ruleset reaching = (entered-wide, valued-entered, valued-shaped, reached-entered, reached-header, reached-note, held-reached, held-value, looked-reached, looked-held, room-slot, room-value, room-super)

-- the slot for a first version
pub ruleset placing = (placed-value, placed-note, placed-head, placed-after, placed-uid)
