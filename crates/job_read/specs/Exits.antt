-- The ways out of this crate's functions.
use Rattle.std.specs.Prelude.{ℕ, ◌+◌, ◌-◌, ◌≤◌, ◌<◌, ◌≡◌, List, length, take, drop, Option, Some, None, Result, Ok, Err}
use borrow.Author.Tests.{le-leb, lt-leb, eq-eqb, ne_eqb}
use native.Mathlib.Omega.{arith}
use Rattle.std.proofs.Common.{Fits}
use Rattle.std.specs.Int.{w64}
use Rattle.reply.specs.declared.Refusal.{Refusal}
use Rattle.reply.specs.declared.Refusal.TheVariants.{NoThread, BadArgument, NoJob}
use Rattle.reply.specs.Refusals.{Check, declined_number}
use Rattle.image.specs.Layout.{contents_at, value_at, slots_of, width_of}
use Rattle.image.specs.Name.{job_name}
use Rattle.image.specs.Requires.{Slot, SlotOf, slot_of}
use Rattle.image.specs.Laws.{area-top}
use Rattle.transient.specs.declared.sizes.Sizes.{Sizes}
use Rattle.transient.specs.Layout.{open_epoch}
use Rattle.transient.specs.Store.{Table, store, table, sizes_of}
use Rattle.transient.specs.Entry.{entry_check}
use Rattle.transient.specs.Requires.{thread-of, entered-shaped, entered-notes}
use Rattle.transient.specs.Passed.{passing}
use Rattle.table.specs.Find.{live_slot, lookup}
use Rattle.job_read.specs.Read.{read_sized, read_job, shown_value, read_position}
use Rattle.job_read.specs.Stages.{read_open, read-sized-is}
use Rattle.job_read.specs.Laws.{reads-readable, answers}
use Rattle.job_read.specs.Requires.{readable-slot}

-- ---- which slot
module _ (z : Sizes) (tb : Table) (key e : ℕ) where
  module _ {f : Option ℕ} (i : e ≡ 0) (fd : f ≡ live_slot z tb (job_name key)) where
    pub read_found : {s : ℕ} → f ≡ Some s → Ok s ≡ read_open z tb key e
    unfolding read_open
    read_found a = rw (eq-eqb e 0 i, ← fd, a)

    pub read-missing : f ≡ None → Err NoJob ≡ read_open z tb key e
    unfolding read_open
    read-missing a = rw (eq-eqb e 0 i, ← fd, a)

  module _ {k : Result (Option ℕ) Refusal} (i : e ≡ 0 → ⊥) (lk : k ≡ lookup z tb (job_name key) e) where
    pub read-later : {r : Refusal} → k ≡ Err r → Err r ≡ read_open z tb key e
    unfolding read_open
    read-later a = rw (ne_eqb e 0 i, ← lk, a)

    pub read_live : {s : ℕ} → k ≡ Ok (Some s) → Ok s ≡ read_open z tb key e
    unfolding read_open
    read_live a = rw (ne_eqb e 0 i, ← lk, a)

    pub read-absent : k ≡ Ok None → Err NoJob ≡ read_open z tb key e
    unfolding read_open
    read-absent a = rw (ne_eqb e 0 i, ← lk, a)

module _ (z : Sizes) (tb : Table) (thread key : ℕ) where
  pub read-thread : z.t ≤ thread → Err NoThread ≡ read_sized thread key z tb
  unfolding read_sized
  read-thread h = rw (le-leb z.t thread h)

  module _ (h : thread < z.t) where
    pub read-key : key ≡ 0 → Err BadArgument ≡ read_sized thread key z tb
    unfolding read_sized
    read-key k = rw (lt-leb z.t thread h, eq-eqb key 0 k)

    pub read_goes : {e : ℕ} {r : Result ℕ Refusal} → (key ≡ 0 → ⊥) → e ≡ open_epoch tb.transient thread → r ≡ read_open z tb key e → r ≡ read_sized thread key z tb
    read_goes k q p = rw (read-sized-is thread key z tb, lt-leb z.t thread h, ne_eqb key 0 k, ← q) p

module _ (wk l tr : List ℕ) (thread key : ℕ) {k : Check} (c : k ≡ entry_check (store wk l tr)) where
  pub read-declines : {r : Refusal} → k ≡ Err r → Err r ≡ read_job (store wk l tr) thread key
  unfolding read_job
  read-declines a = rw (← c, a)

  pub read-enters : {z : Sizes} {th : ℕ} {r : Result ℕ Refusal} → k ≡ Ok tt → z ≡ sizes_of (table wk tr) → th ≡ thread → r ≡ read_sized th key z (table wk tr) → r ≡ read_job (store wk l tr) thread key
  unfolding read_job
  read-enters a e i h = rw (← c, a) (rw (i, e) at h)

-- ---- where its value stands
pub shown-front : {wk : List ℕ} {n w s : ℕ} → Slot wk n w s → 3 ≤ length wk
shown-front y = omega (arith, y.sized.long)

module _ (wk : List ℕ) (s : ℕ) {n w : ℕ} (y : Slot wk (slots_of wk) (width_of wk) s) (ne : n ≡ slots_of wk) (we : w ≡ width_of wk) where
  pub shown-slot : SlotOf n w s
  shown-slot = rw (ne, we) (slot_of y)

  pub start_fits : {b : ℕ} → b ≡ contents_at n w s → Fits w64 (b + 1)
  start_fits e = let q = rw (ne, we) at e in omega (arith, q, y.room, area-top y.sized.sizes, y.sized.sizes.slots-hi)

pub start_is : (wk : List ℕ) (s : ℕ) {n w b : ℕ} → n ≡ slots_of wk → w ≡ width_of wk → b ≡ contents_at n w s → b + 1 ≡ contents_at (slots_of wk) (width_of wk) s + 1
start_is wk s ne we e = rw (e, ne, we)

module _ (wk : List ℕ) (s : ℕ) {b w : ℕ} (be : b ≡ contents_at (slots_of wk) (width_of wk) s + 1) (we : w ≡ width_of wk) where
  pub value-part : take (b + w - 1 - b) (drop b wk) ≡ value_at wk (slots_of wk) (width_of wk) s
  unfolding value_at
  value-part = let e : b + w - 1 - b ≡ w - 1 = omega arith in rw (e, be, we)

-- ---- the three answers
module _ (wk : List ℕ) {k : Result ℕ Refusal} {s : ℕ} (a : k ≡ Ok s) where
  pub value-shown : {v : List ℕ} → v ≡ value_at wk (slots_of wk) (width_of wk) s → v ≡ shown_value k wk
  value-shown h = rw a h

  pub position-shown : {p : ℕ} → p ≡ contents_at (slots_of wk) (width_of wk) s + 1 → p ≡ read_position k wk
  position-shown h = rw a h

module _ (wk : List ℕ) {k : Result ℕ Refusal} {r : Refusal} (a : k ≡ Err r) where
  pub value_none : take 0 wk ≡ shown_value k wk
  value_none = rw a

  pub position-none : {v : ℕ} → v ≡ declined_number r → v ≡ read_position k wk
  position-none h = rw a h

pub ruleset reads = (thread-of, entered-shaped, entered-notes, read_found, read-missing, read-later, read_live, read-absent, read-thread, read-key, read_goes, read-declines, read-enters, passing)

pub ruleset values = (readable-slot, reads-readable, answers, value-shown, value_none, position-shown, position-none, shown-front, shown-slot, start_fits, start_is, value-part)
