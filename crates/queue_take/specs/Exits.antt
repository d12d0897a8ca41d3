-- The ways out of this crate's functions.
use Rattle.std.specs.Prelude.{ℕ, ◌≡◌, List, Result, Ok, Err, Option, Some, None}
use Rattle.std.proofs.Common.{sym, ◌∙◌}
use Rattle.std.proofs.Math.Bool.{false}
use Rattle.reply.specs.declared.Refusal.{Refusal}
use Rattle.reply.specs.declared.Refusal.TheVariants.{QueueEmpty}
use Rattle.image.specs.Layout.{key_at}
use Rattle.image.specs.Requires.{Slot, slot}
use Rattle.transient.specs.declared.sizes.Sizes.{Sizes}
use Rattle.transient.specs.Store.{Table, store, table, sizes_of, outcome}
use Rattle.transient.specs.Entry.{entry_check}
use Rattle.transient.specs.Calls.{Changed, changed, refused}
use Rattle.transient.specs.Requires.{Entered, entered-shaped, entered-notes}
use Rattle.transient.specs.Passed.{on-declined, on-passed, passing}
use Rattle.jobs.specs.Way.{way_in}
use Rattle.jobs.specs.Requires.{Reached}
use Rattle.jobs.specs.Laws.{way-declined, way-open}
use Rattle.job_delete.specs.Delete.{delete_at}
use Rattle.queue.specs.Front.{front_lookup}
use Rattle.queue.specs.Laws.{front-lookup-below}
use Rattle.queue_take.specs.Take.{take_entry}
use Rattle.queue_take.specs.Stages.{take_open, take_sized}
use Rattle.reply.specs.Refusals.{Check}

-- ---- the front is a slot of the table
module _ {wk tr : List ℕ} {z : Sizes} (e : ℕ) {s : ℕ} {k : Result (Option ℕ) Refusal} (c : k ≡ front_lookup z (table wk tr) e) (a : k ≡ Ok (Some s)) (y : Entered wk tr z) where
  pub front-reached : Reached wk tr z s
  front-reached = record { entered = y; within = front-lookup-below z (table wk tr) e s (sym c ∙ a) }

  pub front-slot : Slot wk z.n z.w s
  front-slot = slot y.shaped.working front-reached.within

-- ---- 9 and 17
module _ (z : Sizes) (tb : Table) (e : ℕ) {k : Result (Option ℕ) Refusal} (lk : k ≡ front_lookup z tb e) where
  pub take-later : {r : Refusal} → k ≡ Err r → refused r tb ≡ take_open z tb e
  unfolding take_open
  take-later a = rw (← lk, a)

  pub take-live : {s key : ℕ} {x : Changed} → k ≡ Ok (Some s) → key ≡ key_at tb.working z.n z.w s → x ≡ delete_at z tb e s key → x ≡ take_open z tb e
  unfolding take_open
  take-live a i p = rw (← lk, a, ← i) p

  pub take-empty : k ≡ Ok None → refused QueueEmpty tb ≡ take_open z tb e
  unfolding take_open
  take-empty a = rw (← lk, a)

-- ---- 5 and 7
module _ (z : Sizes) (tb : Table) (thread : ℕ) {k : Result ℕ Refusal} (way : k ≡ way_in z tb.transient thread false) where
  pub take-declined : {r : Refusal} → k ≡ Err r → refused r tb ≡ take_sized thread z tb
  unfolding take_sized
  take-declined a = way-declined z tb thread false (take_open z tb) way a

  pub take-goes : {e : ℕ} {x : Changed} → k ≡ Ok e → x ≡ take_open z tb e → x ≡ take_sized thread z tb
  unfolding take_sized
  take-goes a p = way-open z tb thread false (take_open z tb) way a p

-- ---- 1 and 2
module _ (wk l tr : List ℕ) (thread : ℕ) {k : Check} (c : k ≡ entry_check (store wk l tr)) where
  pub take-refused : {r : Refusal} → k ≡ Err r → outcome (Err r) wk l tr ≡ take_entry (store wk l tr) thread
  unfolding take_entry take_sized take_open
  take-refused a = on-declined wk l tr c (take_sized thread) a

  pub take-enters : {z : Sizes} {th : ℕ} {q : Check} {wk' tr' : List ℕ} → k ≡ Ok tt → z ≡ sizes_of (table wk tr) → th ≡ thread
      → changed q wk' tr' ≡ take_sized th z (table wk tr) → outcome q wk' l tr' ≡ take_entry (store wk l tr) thread
  unfolding take_entry take_sized take_open
  take-enters a e i h = on-passed wk l tr c (take_sized thread) a (rw (i, e) at h)

pub ruleset laws = (entered-shaped, entered-notes, front-reached, front-slot, take-later, take-live, take-empty, take-declined, take-goes, take-refused, take-enters, passing)
