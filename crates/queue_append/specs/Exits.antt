-- The ways out of this crate's functions.
use Rattle.std.specs.Prelude.{ℕ, ◌+◌, ◌-◌, ◌≤◌, ◌<◌, ◌≡◌, refl, Bool, true, false, not, List, length, ltb, eqb, Option, Some, None, Result, Ok, Err}
use Rattle.std.proofs.Common.{sym, ap, ◌∙◌}
use borrow.Author.Tests.{lt-ltb, le-ltb, eqb-true, not-false}
use Rattle.search.specs.Some.{any_of}
use Rattle.reply.specs.declared.Refusal.{Refusal}
use Rattle.reply.specs.declared.Refusal.TheVariants.{Newer, NoUid, Full}
use Rattle.image.specs.declared.name.Name.{Name}
use Rattle.image.specs.Layout.{most_number}
use Rattle.image.specs.Name.{entry_name}
use Rattle.transient.specs.declared.sizes.Sizes.{Sizes}
use Rattle.transient.specs.Layout.{note, next_uid_at, next_order_at, set_note}
use Rattle.transient.specs.Store.{Table, store, table, sizes_of, outcome}
use Rattle.transient.specs.Entry.{entry_check}
use Rattle.transient.specs.Calls.{Changed, changed, refused, accepted}
use Rattle.transient.specs.Requires.{Entered, entered-head, entered-notes}
use Rattle.transient.specs.Passed.{on-declined, passing}
use Rattle.table.specs.Find.{room}
use Rattle.jobs.specs.Job.{made}
use Rattle.jobs.specs.Way.{way_in}
use Rattle.jobs.specs.Requires.{Valued, entered-wide, valued-entered, valued-shaped}
use Rattle.jobs.specs.Laws.{way-operating, way-declined, way-open}
use Rattle.queue.specs.Front.{entry_newer_at}
use Rattle.queue_append.specs.Append.{append_open, append_entry}
use Rattle.queue_append.specs.Stages.{bad_value, no_number, append_at, append_in, append-open-is, append_sized, Appended, given, numbering, append-entry-is, append_given}
use Rattle.queue_append.specs.Requires.{ready_of, ready-entered, valued-head, ready-numbered, numbered-placed, numbered-head, numbered-after, numbered-order}
use Rattle.reply.specs.Refusals.{Check}

pub bad-value : (z : Sizes) (value : List ℕ) → not (eqb (length value) (z.w - 1)) ≡ bad_value z value
unfolding bad_value
bad-value z value = refl

-- ---- 12
module _ (tr : List ℕ) {u : ℕ} (ue : u ≡ note next_uid_at tr) where
  pub number-uid : most_number < u → true ≡ no_number tr
  unfolding no_number
  number-uid h = rw (← ue, lt-ltb most_number u h)

  pub number-order : {o : ℕ} → u ≤ most_number → o ≡ note next_order_at tr → ltb most_number o ≡ no_number tr
  unfolding no_number
  number-order h oe = rw (← ue, le-ltb most_number u h, oe)

module _ (z : Sizes) (tb : Table) (e : ℕ) (value : List ℕ) where
  pub append-done : (s : ℕ) {o : ℕ} {name : Name} {wk a b : List ℕ} → o ≡ note next_order_at tb.transient → name ≡ entry_name o
      → table wk a ≡ made z tb e s name value → b ≡ set_note next_order_at a (o + 1) → changed (Ok tt) wk b ≡ append_at z tb e s value
  unfolding append_at
  append-done s p q h y =
      rw (y, p)
      (ap (λ (x : Table). accepted (table x.working (set_note next_order_at x.transient (note next_order_at tb.transient + 1)))) (rw (q, p) at h))

  -- 13
  module _ {f : Option ℕ} (fr : f ≡ room z tb 2) where
    pub append-full : f ≡ None → refused Full tb ≡ append_in (room z tb 2) z tb e value
    append-full a = rw (← fr, a)

    pub append-placed : {s : ℕ} {x : Changed} → f ≡ Some s → x ≡ append_at z tb e s value → x ≡ append_in (room z tb 2) z tb e value
    append-placed a p = rw (← fr, a) p

  -- 9 and 12
  module _ {n : Bool} (nw : n ≡ any_of (entry_newer_at tb.working e) z.n) where
    pub append-newer : n ≡ true → refused Newer tb ≡ append_open z tb value e
    append-newer t = rw (append-open-is z tb value e, ← nw, t)

    module _ {u : Bool} (f : n ≡ false) (un : u ≡ no_number tb.transient) where
      pub append-number : u ≡ true → refused NoUid tb ≡ append_open z tb value e
      append-number t = rw (append-open-is z tb value e, ← nw, f, ← un, t)

      pub append-room : {x : Changed} → u ≡ false → x ≡ append_in (room z tb 2) z tb e value → x ≡ append_open z tb value e
      append-room t p = rw (append-open-is z tb value e, ← nw, f, ← un, t) p

-- ---- 5, 7 and 8
module _ (z : Sizes) (tb : Table) (thread : ℕ) (value : List ℕ) (b : Bool) {k : Result ℕ Refusal} (be : b ≡ bad_value z value) (way : k ≡ way_in z tb.transient thread b) where
  pub append-declined : {r : Refusal} → k ≡ Err r → refused r tb ≡ append_sized thread value z tb
  unfolding append_sized
  append-declined a = way-declined z tb thread (bad_value z value) (append_open z tb value) (rw be at way) a

  pub append-goes : {e : ℕ} {x : Changed} → k ≡ Ok e → x ≡ append_open z tb value e → x ≡ append_sized thread value z tb
  unfolding append_sized
  append-goes a p = way-open z tb thread (bad_value z value) (append_open z tb value) (rw be at way) a p

pub append-valued : (z : Sizes) (wk tr : List ℕ) (thread : ℕ) (value : List ℕ) (b : Bool) {e : ℕ} {k : Result ℕ Refusal} → b ≡ bad_value z value → k ≡ way_in z tr thread b → k ≡ Ok e
    → Entered wk tr z → Valued wk tr z value
unfolding bad_value
append-valued z wk tr thread value b be way a y =
    record { entered = y; words = eqb-true (length value) (z.w - 1) (not-false _ (sym be ∙ (way-operating z tr thread b (sym way ∙ a)).fine)) }

-- ---- the reply
module _ (tb : Table) (thread : ℕ) (value : List ℕ) {o : ℕ} {k : Check} {wk tr : List ℕ} {z : Sizes} {th : ℕ} (oe : o ≡ note next_order_at tb.transient)
    (ze : z ≡ sizes_of tb) (te : th ≡ thread) (h : changed k wk tr ≡ append_sized th value z tb) where
  whole : changed k wk tr ≡ append_sized thread value (sizes_of tb) tb
  whole = rw (te, ze) at h

  pub given-order : k ≡ Ok tt → given (Ok o) wk tr ≡ append_given thread value tb
  unfolding append_given
  given-order a = rw (← whole, a, oe)

  pub given-none : {r : Refusal} → k ≡ Err r → given (Err r) wk tr ≡ append_given thread value tb
  unfolding append_given
  given-none a = rw (← whole, a)

-- 1 and 2
module _ (wk l tr : List ℕ) (thread : ℕ) (value : List ℕ) {k : Check} (c : k ≡ entry_check (store wk l tr)) where
  pub append-refused : {r : Refusal} → k ≡ Err r → outcome (Err r) wk l tr ≡ append_entry (store wk l tr) thread value
  append-refused a = rw (append-entry-is (store wk l tr) thread value) (ap (numbering (note next_order_at tr)) (on-declined wk l tr c (append_sized thread value) a))

  pub append-enters : {q : Result ℕ Refusal} {wk' tr' : List ℕ} → k ≡ Ok tt → given q wk' tr' ≡ append_given thread value (table wk tr) → outcome q wk' l tr' ≡ append_entry (store wk l tr) thread value
  unfolding append_given
  append-enters a h = rw (append-entry-is (store wk l tr) thread value, ← c, a) (ap (λ (x : Appended). outcome x.reply x.table.working l x.table.transient) h)

pub ruleset laws = (entered-head, entered-notes, entered-wide, valued-entered, valued-shaped, valued-head, ready_of, ready-entered, ready-numbered, numbered-placed, numbered-head, numbered-after, numbered-order, bad-value, number-uid, number-order, append-done, append-full, append-placed, append-newer, append-number, append-room, append-declined, append-goes, append-valued, given-order, given-none, append-refused, append-enters, passing)
