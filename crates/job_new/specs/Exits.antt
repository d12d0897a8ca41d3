-- The ways out of this crate's functions.
use Rattle.std.specs.Prelude.{ℕ, ◌≤◌, ◌<◌, ◌≡◌, Bool, List, Option, Some, None, Result, Ok, Err}
use Rattle.std.proofs.Math.Path.{ap}
use Rattle.std.proofs.Common.{lt-ltb, le-ltb}
use Rattle.reply.specs.declared.Refusal.{Refusal}
use Rattle.reply.specs.declared.Refusal.TheVariants.{JobExists, NoUid, Full}
use Rattle.image.specs.declared.name.Name.{Name}
use Rattle.image.specs.Layout.{most_number}
use Rattle.image.specs.Name.{job_name}
use Rattle.transient.specs.declared.sizes.Sizes.{Sizes}
use Rattle.transient.specs.Layout.{note, next_uid_at}
use Rattle.transient.specs.Store.{Table, store, table, sizes_of, outcome}
use Rattle.transient.specs.Entry.{entry_check}
use Rattle.transient.specs.Calls.{Changed, changed, refused, accepted}
use Rattle.transient.specs.Requires.{entered-head, entered-notes}
use Rattle.transient.specs.Passed.{on-declined, on-passed, passing}
use Rattle.table.specs.Find.{lookup, room}
use Rattle.jobs.specs.Job.{Job, bad_job, made}
use Rattle.jobs.specs.Way.{way_in}
use Rattle.jobs.specs.Requires.{entered-wide, valued-entered, valued-shaped}
use Rattle.jobs.specs.Laws.{way-valued, way-declined, way-open}
use Rattle.job_new.specs.New.{new_absent, new_job}
use Rattle.job_new.specs.Stages.{new_at, new_in, new-absent-is, new_open, new_sized}
use Rattle.job_new.specs.Requires.{ready_of, ready-entered, ready-placed}
use Rattle.reply.specs.Refusals.{Check}

module _ (z : Sizes) (tb : Table) (e : ℕ) (j : Job) where
  pub new-done : (s : ℕ) {name : Name} {wk tr : List ℕ} → name ≡ job_name j.key → table wk tr ≡ made z tb e s name j.value → changed (Ok tt) wk tr ≡ new_at z tb e s j
  unfolding new_at
  new-done s q h = ap accepted (rw q at h)

  -- 13
  module _ {f : Option ℕ} (fr : f ≡ room z tb 2) where
    pub new-full : f ≡ None → refused Full tb ≡ new_in (room z tb 2) z tb e j
    new-full a = rw (← fr, a)

    pub new-placed : {s : ℕ} {x : Changed} → f ≡ Some s → x ≡ new_at z tb e s j → x ≡ new_in (room z tb 2) z tb e j
    new-placed a p = rw (← fr, a) p

  -- 12
  module _ {u : ℕ} (ue : u ≡ note next_uid_at tb.transient) where
    pub new-uid : most_number < u → refused NoUid tb ≡ new_absent z tb e j
    new-uid h = rw (new-absent-is z tb e j, ← ue, lt-ltb most_number u h)

    pub new-room : {x : Changed} → u ≤ most_number → x ≡ new_in (room z tb 2) z tb e j → x ≡ new_absent z tb e j
    new-room h p = rw (new-absent-is z tb e j, ← ue, le-ltb most_number u h) p

  -- 9 and 11
  module _ {k : Result (Option ℕ) Refusal} (lk : k ≡ lookup z tb (job_name j.key) e) where
    pub new-later : {r : Refusal} → k ≡ Err r → refused r tb ≡ new_open z tb j e
    unfolding new_open
    new-later a = rw (← lk, a)

    pub new-exists : {s : ℕ} → k ≡ Ok (Some s) → refused JobExists tb ≡ new_open z tb j e
    unfolding new_open
    new-exists a = rw (← lk, a)

    pub new-absent : {x : Changed} → k ≡ Ok None → x ≡ new_absent z tb e j → x ≡ new_open z tb j e
    unfolding new_open
    new-absent a p = rw (← lk, a) p

-- 5, 7 and 8
module _ (z : Sizes) (tb : Table) (thread : ℕ) (j : Job) (b : Bool) {k : Result ℕ Refusal} (be : b ≡ bad_job z j) (way : k ≡ way_in z tb.transient thread b) where
  pub new-declined : {r : Refusal} → k ≡ Err r → refused r tb ≡ new_sized thread j z tb
  unfolding new_sized
  new-declined a = way-declined z tb thread (bad_job z j) (new_open z tb j) (rw be at way) a

  pub new-goes : {e : ℕ} {x : Changed} → k ≡ Ok e → x ≡ new_open z tb j e → x ≡ new_sized thread j z tb
  unfolding new_sized
  new-goes a p = way-open z tb thread (bad_job z j) (new_open z tb j) (rw be at way) a p

-- 1 and 2
module _ (wk l tr : List ℕ) (thread : ℕ) (j : Job) {k : Check} (c : k ≡ entry_check (store wk l tr)) where
  pub new-refused : {r : Refusal} → k ≡ Err r → outcome (Err r) wk l tr ≡ new_job (store wk l tr) thread j
  unfolding new_job new_sized new_open
  new-refused a = on-declined wk l tr c (new_sized thread j) a

  pub new-enters : {z : Sizes} {th : ℕ} {q : Check} {wk' tr' : List ℕ} → k ≡ Ok tt → z ≡ sizes_of (table wk tr) → th ≡ thread
      → changed q wk' tr' ≡ new_sized th j z (table wk tr) → outcome q wk' l tr' ≡ new_job (store wk l tr) thread j
  unfolding new_job new_sized new_open
  new-enters a e i h = on-passed wk l tr c (new_sized thread j) a (rw (i, e) at h)

pub ruleset laws = (entered-head, entered-notes, entered-wide, valued-entered, valued-shaped, way-valued, ready_of, ready-entered, ready-placed, new-done, new-full, new-placed, new-uid, new-room, new-later, new-exists, new-absent, new-declined, new-goes, new-refused, new-enters, passing)
