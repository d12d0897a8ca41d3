-- What functions inside require: notes of these sizes, a slot or a thread of them, and what refusals 1 and 2 leave.
use Rattle.std.specs.Prelude.{◌≡◌, ℕ, ◌+◌, ◌*◌, ◌^◌, ◌<◌, ◌≤◌, Bool, ◌&&◌, ◌||◌, List, length, ◌==◌}
use Rattle.std.proofs.Common.{◌∙◌, arith}
use Rattle.image.specs.Layout.{most_slots, most_number, slots_of, width_of, clock_of, clock_ok}
use Rattle.image.specs.Requires.{Sized, Slot, HeaderFits, slot, header-fits}
use Rattle.transient.specs.declared.sizes.Sizes.{Sizes}
use Rattle.transient.specs.Layout.{head_words, waiting_at, transient_words, threads_ok, note, last_at, next_uid_at, next_order_at, place_at}
use Rattle.transient.specs.Entry.{images_fit, notes_fit, opens_ok}

-- ---- the notes alone
pub record InReach (n t : ℕ) : Type 0 where
  pub slots-hi : n ≤ most_slots
  pub threads-hi : t ≤ 16

-- one of N buckets or slots
pub record InIndex (z : Sizes) (s : ℕ) : Type 0 where
  pub sizes : InReach z.n z.t
  pub within : s < z.n

pub record ThreadRoom (len n : ℕ) : Type 0 where
  pub slots-hi : n ≤ most_slots
  pub room : head_words + 3 * n ≤ len

-- notes to be set, for n slots
pub record Blanking (tr : List ℕ) (n : ℕ) : Type 0 where
  pub some : 1 ≤ n
  pub room : head_words ≤ length tr

pub record Notes (tr : List ℕ) (z : Sizes) : Type 0 where
  pub long : length tr ≡ transient_words z.n z.t
  pub slots-hi : z.n ≤ most_slots
  pub threads-hi : z.t ≤ 16

pub record NoteOf (tr : List ℕ) (z : Sizes) (s : ℕ) : Type 0 where
  pub notes : Notes tr z
  pub within : s < z.n

pub record ThreadOf (tr : List ℕ) (z : Sizes) (thread : ℕ) : Type 0 where
  pub notes : Notes tr z
  pub within : thread < z.t

-- ---- the waiting lists
-- where an epoch's list begins, and where it has the word of a slot, which is one of the head
pub record Listed (e b : ℕ) : Type 0 where
  pub same : b ≡ waiting_at e 0
  pub top : b + 32 ≤ head_words

pub record Worded (e s b : ℕ) : Type 0 where
  pub same : b ≡ waiting_at e s
  pub top : b < head_words

-- ---- sizes

-- a head to read, and the sizes with it
pub record Sizable (wk tr : List ℕ) : Type 0 where
  pub long : 3 ≤ length wk
  pub room : ThreadRoom (length tr) (slots_of wk)

-- ---- on the way through refusals 1 and 2
-- two images whose sizes can be read
pub record Paired (wk l : List ℕ) : Type 0 where
  pub working : 3 ≤ length wk
  pub persistent : 3 ≤ length l

unfoldable pub sizes_alike : List ℕ → List ℕ → Bool
sizes_alike wk l = slots_of l == slots_of wk && width_of l == width_of wk

-- a part of refusal 1, in the words of `entry_check`
unfoldable pub sizes_fit : List ℕ → List ℕ → List ℕ → Bool
sizes_fit wk l tr = images_fit wk l && (threads_ok (length tr) (slots_of wk) && notes_fit tr (slots_of wk))

-- of refusal 2, in the words of `opens_ok` and `entry_check`
unfoldable pub open_ok : ℕ → ℕ → Bool
open_ok c e = e == 0 || (e == c || e + 1 == c)

unfoldable pub clocks_fit : List ℕ → List ℕ → List ℕ → ℕ → Bool
clocks_fit wk l tr t = clock_ok (clock_of wk) && (clock_of l == clock_of wk && opens_ok tr t (clock_of wk))

pub record Threads (tr : List ℕ) (t : ℕ) : Type 0 where
  pub room : head_words + t ≤ length tr
  pub few : t ≤ 16

pub record Fitting (wk l tr : List ℕ) (t : ℕ) : Type 0 where
  pub working : 3 ≤ length wk
  pub persistent : 3 ≤ length l
  pub threads : Threads tr t

-- ---- the working image beside the notes
pub record Shaped (wk tr : List ℕ) (z : Sizes) : Type 0 where
  pub working : Sized wk z.n z.w
  pub notes : Notes tr z

pub record ShapedSlot (wk tr : List ℕ) (z : Sizes) (s : ℕ) : Type 0 where
  pub slot : Slot wk z.n z.w s
  pub notes : Notes tr z

-- ---- past refusals 1 and 2
pub record Entered (wk tr : List ℕ) (z : Sizes) : Type 0 where
  pub shaped : Shaped wk tr z
  pub some : 1 ≤ z.t
  pub last : note last_at tr < z.n
  pub place : note place_at tr < z.n
  pub uid-lo : 1 ≤ note next_uid_at tr
  pub uid-hi : note next_uid_at tr ≤ most_number + 1
  pub order-lo : 1 ≤ note next_order_at tr
  pub order-hi : note next_order_at tr ≤ most_number + 1
  pub clock-lo : 2 ≤ clock_of wk
  pub clock-hi : clock_of wk ≤ most_number

-- the same with the persistent image
pub record EnteredWith (wk l tr : List ℕ) (z : Sizes) : Type 0 where
  pub entered : Entered wk tr z
  pub persistent : Sized l z.n z.w

-- ---- how they are made
pub notes-after : {tr tr' : List ℕ} {z : Sizes} → length tr' ≡ length tr → Notes tr z → Notes tr' z
notes-after e z = record { long = e ∙ z.long; slots-hi = z.slots-hi; threads-hi = z.threads-hi }

pub notes-head : {tr : List ℕ} {z : Sizes} → Notes tr z → head_words ≤ length tr
notes-head y = omega (arith, y.long)

pub note-of : {tr : List ℕ} {z : Sizes} {s : ℕ} → Notes tr z → s < z.n → NoteOf tr z s
note-of y h = record { notes = y; within = h }

pub note-after : {tr tr' : List ℕ} {z : Sizes} {s : ℕ} → length tr' ≡ length tr → NoteOf tr z s → NoteOf tr' z s
note-after e y = record { notes = notes-after e y.notes; within = y.within }

pub note-head : {tr : List ℕ} {z : Sizes} {s : ℕ} → NoteOf tr z s → head_words ≤ length tr
note-head y = notes-head y.notes

pub note-index : {tr : List ℕ} {z : Sizes} {s : ℕ} → NoteOf tr z s → InIndex z s
note-index y = record { sizes = record { slots-hi = y.notes.slots-hi; threads-hi = y.notes.threads-hi }; within = y.within }

pub note-slot : {tr : List ℕ} {z : Sizes} {s : ℕ} → NoteOf tr z s → s < 2 ^ 32
note-slot y = omega (arith, y.within, y.notes.slots-hi)

pub thread-of : {tr : List ℕ} {z : Sizes} {thread : ℕ} → Notes tr z → thread < z.t → ThreadOf tr z thread
thread-of y h = record { notes = y; within = h }

pub shaped-slot : {wk tr : List ℕ} {z : Sizes} {s : ℕ} → Shaped wk tr z → s < z.n → ShapedSlot wk tr z s
shaped-slot y h = record { slot = slot y.working h; notes = y.notes }

pub shaped-notes : {wk tr : List ℕ} {z : Sizes} → Shaped wk tr z → Notes tr z
shaped-notes y = y.notes

pub slot-note : {wk tr : List ℕ} {z : Sizes} {s : ℕ} → ShapedSlot wk tr z s → NoteOf tr z s
slot-note y = record { notes = y.notes; within = y.slot.within }

pub slot-working : {wk tr : List ℕ} {z : Sizes} {s : ℕ} → ShapedSlot wk tr z s → Slot wk z.n z.w s
slot-working y = y.slot

pub slot-head : {wk tr : List ℕ} {z : Sizes} {s : ℕ} → ShapedSlot wk tr z s → HeaderFits wk z.n s
slot-head y = header-fits y.slot.sized y.slot.within

pub entered-shaped : {wk tr : List ℕ} {z : Sizes} → Entered wk tr z → Shaped wk tr z
entered-shaped y = y.shaped

pub entered-notes : {wk tr : List ℕ} {z : Sizes} → Entered wk tr z → Notes tr z
entered-notes y = y.shaped.notes

pub entered-head : {wk tr : List ℕ} {z : Sizes} → Entered wk tr z → head_words ≤ length tr
entered-head y = notes-head y.shaped.notes

pub entered-front : {wk tr : List ℕ} {z : Sizes} → Entered wk tr z → 3 ≤ length wk
entered-front y = omega (arith, y.shaped.working.long)

pub with-entered : {wk l tr : List ℕ} {z : Sizes} → EnteredWith wk l tr z → Entered wk tr z
with-entered y = y.entered

pub ruleset requires-laws = (notes-after, notes-head, note-of, note-after, note-head, note-index, note-slot, thread-of, shaped-slot, shaped-notes, slot-note, slot-working, slot-head, entered-shaped, entered-notes, entered-head, entered-front, with-entered)
