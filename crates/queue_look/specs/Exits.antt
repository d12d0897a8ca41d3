-- The ways out of this crate's functions.
use Rattle.std.specs.Prelude.{ℕ, ◌≤◌, ◌<◌, ◌≡◌, List, Result, Ok, Err, Option, Some, None}
use Rattle.std.proofs.Common.{le-leb}
use Rattle.std.proofs.lemmas.Bool.{lt-leb}
use Rattle.reply.specs.declared.Refusal.{Refusal}
use Rattle.reply.specs.declared.Refusal.TheVariants.{NoThread, QueueEmpty}
use Rattle.transient.specs.declared.sizes.Sizes.{Sizes}
use Rattle.transient.specs.Layout.{open_epoch}
use Rattle.transient.specs.Store.{Table, store, table, sizes_of}
use Rattle.transient.specs.Entry.{entry_check}
use Rattle.transient.specs.Requires.{thread-of, entered-shaped, entered-notes}
use Rattle.transient.specs.Passed.{passing}
use Rattle.job_read.specs.Laws.{answers}
use Rattle.queue.specs.Front.{front_lookup}
use Rattle.queue_look.specs.Look.{look_sized, look_entry}
use Rattle.queue_look.specs.Stages.{look_open, look-sized-is}
use Rattle.queue_look.specs.Laws.{look-readable}
use Rattle.reply.specs.Refusals.{Check}

-- ---- which slot
module _ (z : Sizes) (tb : Table) (e : ℕ) {k : Result (Option ℕ) Refusal} (lk : k ≡ front_lookup z tb e) where
  pub look-later : {r : Refusal} → k ≡ Err r → Err r ≡ look_open z tb e
  unfolding look_open
  look-later a = rw (← lk, a)

  pub look-live : {s : ℕ} → k ≡ Ok (Some s) → Ok s ≡ look_open z tb e
  unfolding look_open
  look-live a = rw (← lk, a)

  pub look-empty : k ≡ Ok None → Err QueueEmpty ≡ look_open z tb e
  unfolding look_open
  look-empty a = rw (← lk, a)

module _ (z : Sizes) (tb : Table) (thread : ℕ) where
  pub look-thread : z.t ≤ thread → Err NoThread ≡ look_sized thread z tb
  unfolding look_sized
  look-thread h = rw (le-leb z.t thread h)

  pub look-goes : {e : ℕ} {r : Result ℕ Refusal} → thread < z.t → e ≡ open_epoch tb.transient thread → r ≡ look_open z tb e → r ≡ look_sized thread z tb
  look-goes h q p = rw (look-sized-is thread z tb, lt-leb z.t thread h, ← q) p

-- ---- 1 and 2
module _ (wk l tr : List ℕ) (thread : ℕ) {k : Check} (c : k ≡ entry_check (store wk l tr)) where
  pub look-declines : {r : Refusal} → k ≡ Err r → Err r ≡ look_entry (store wk l tr) thread
  unfolding look_entry
  look-declines a = rw (← c, a)

  pub look-enters : {z : Sizes} {th : ℕ} {r : Result ℕ Refusal} → k ≡ Ok tt → z ≡ sizes_of (table wk tr) → th ≡ thread → r ≡ look_sized th z (table wk tr) → r ≡ look_entry (store wk l tr) thread
  unfolding look_entry
  look-enters a e i h = rw (← c, a) (rw (i, e) at h)

pub ruleset laws = (thread-of, entered-shaped, entered-notes, look-later, look-live, look-empty, look-thread, look-goes, look-declines, look-enters, passing, look-readable, answers)
