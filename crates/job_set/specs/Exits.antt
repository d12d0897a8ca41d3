-- The ways out of this crate's functions.
use Rattle.std.specs.Prelude.{ℕ, ◌≡◌, Bool, true, false, List, ◌∷◌, Option, Some, None, Result, Ok, Err}
use Rattle.std.proofs.Common.{eq-eqb, ne_eqb}
use Rattle.reply.specs.declared.Refusal.{Refusal}
use Rattle.reply.specs.declared.Refusal.TheVariants.{NoJob, Full}
use Rattle.image.specs.declared.header.Header.{Header}
use Rattle.image.specs.Layout.{header, updated_header}
use Rattle.image.specs.Name.{job_name, name_of}
use Rattle.transient.specs.declared.sizes.Sizes.{Sizes}
use Rattle.transient.specs.Layout.{set_retired, set_waiting}
use Rattle.transient.specs.Store.{Table, store, table, sizes_of, outcome}
use Rattle.transient.specs.Entry.{entry_check}
use Rattle.transient.specs.Calls.{Changed, changed, refused}
use Rattle.transient.specs.Requires.{entered-notes}
use Rattle.transient.specs.Passed.{on-declined, on-passed, passing}
use Rattle.table.specs.Find.{lookup, room}
use Rattle.table.specs.Fill.{filled_slot, taken}
use Rattle.table.specs.Requires.{set_value}
use Rattle.jobs.specs.Job.{Job, bad_job}
use Rattle.jobs.specs.Way.{way_in}
use Rattle.jobs.specs.Requires.{reaching}
use Rattle.jobs.specs.Laws.{way-valued, way-declined, way-open}
use Rattle.job_set.specs.Set.{same_value, set_live, set_job}
use Rattle.job_set.specs.Stages.{rewritten, resaved, renewed, set-live-is, set_opened, set_sized}
use Rattle.reply.specs.Refusals.{Check}

module _ (z : Sizes) (tb : Table) (e s : ℕ) where
  pub rewrite-done : (value : List ℕ) {wk tr : List ℕ} → wk ≡ set_value z tb.working s value → tr ≡ set_waiting tb.transient e s → changed (Ok tt) wk tr ≡ rewritten z tb e s value
  unfolding rewritten
  rewrite-done value p q = rw (p, q)

  module _ (j : Job) {g : Header} {x : Changed} (at : g ≡ header tb.working s) where
    pub set_same : g.epoch ≡ e → x ≡ rewritten z tb e s j.value → x ≡ set_live z tb e s j
    set_same d p = rw (set-live-is z tb e s j, ← at, eq-eqb g.epoch e d) p

    pub set-older : (g.epoch ≡ e → ⊥) → x ≡ renewed z tb e s j → x ≡ set_live z tb e s j
    set-older d p = rw (set-live-is z tb e s j, ← at, ne_eqb g.epoch e d) p

-- the same value again, or 13
module _ (z : Sizes) (wk : List ℕ) (s : ℕ) (value : List ℕ) {b : Bool} (same : b ≡ same_value z wk s value) where
  pub resave-same : b ≡ true → Ok tt ≡ resaved z wk s value
  unfolding resaved
  resave-same a = rw (← same, a)

  pub resave-full : b ≡ false → Err Full ≡ resaved z wk s value
  unfolding resaved
  resave-full a = rw (← same, a)

-- by a new version, or without one
module _ (z : Sizes) (tb : Table) (e s : ℕ) (j : Job) {f : Option ℕ} (fr : f ≡ room z tb 2) where
  pub update-none : {k : Check} → f ≡ None → k ≡ resaved z tb.working s j.value → record { reply = k; table = tb } ≡ renewed z tb e s j
  unfolding renewed
  update-none a p = rw (← fr, a, p)

  pub update-done : {i : ℕ} {g h : Header} {wk tr : List ℕ} → f ≡ Some i → g ≡ header tb.working s → h ≡ updated_header e g → wk ≡ filled_slot z tb.working i h (j.key ∷ j.value)
      → tr ≡ set_retired z (taken z tb.transient e i (name_of h.board j.key)) s e → changed (Ok tt) wk tr ≡ renewed z tb e s j
  unfolding renewed
  update-done a at hd p q = rw (← fr, a, p, q, hd, at)

-- 9 and 10
module _ (z : Sizes) (tb : Table) (e : ℕ) (j : Job) {k : Result (Option ℕ) Refusal} (lk : k ≡ lookup z tb (job_name j.key) e) where
  pub set-later : {r : Refusal} → k ≡ Err r → refused r tb ≡ set_opened z tb j e
  unfolding set_opened
  set-later a = rw (← lk, a)

  pub set-live : {s : ℕ} {x : Changed} → k ≡ Ok (Some s) → x ≡ set_live z tb e s j → x ≡ set_opened z tb j e
  unfolding set_opened
  set-live a p = rw (← lk, a) p

  pub set-absent : k ≡ Ok None → refused NoJob tb ≡ set_opened z tb j e
  unfolding set_opened
  set-absent a = rw (← lk, a)

-- 5, 7 and 8
module _ (z : Sizes) (tb : Table) (thread : ℕ) (j : Job) (b : Bool) {k : Result ℕ Refusal} (be : b ≡ bad_job z j) (way : k ≡ way_in z tb.transient thread b) where
  pub set-declined : {r : Refusal} → k ≡ Err r → refused r tb ≡ set_sized thread j z tb
  unfolding set_sized
  set-declined a = way-declined z tb thread (bad_job z j) (set_opened z tb j) (rw be at way) a

  pub set-goes : {e : ℕ} {x : Changed} → k ≡ Ok e → x ≡ set_opened z tb j e → x ≡ set_sized thread j z tb
  unfolding set_sized
  set-goes a p = way-open z tb thread (bad_job z j) (set_opened z tb j) (rw be at way) a p

-- 1 and 2
module _ (wk l tr : List ℕ) (thread : ℕ) (j : Job) {k : Check} (c : k ≡ entry_check (store wk l tr)) where
  pub set-refused : {r : Refusal} → k ≡ Err r → outcome (Err r) wk l tr ≡ set_job (store wk l tr) thread j
  unfolding set_job set_sized set_opened
  set-refused a = on-declined wk l tr c (set_sized thread j) a

  pub set-enters : {z : Sizes} {th : ℕ} {q : Check} {wk' tr' : List ℕ} → k ≡ Ok tt → z ≡ sizes_of (table wk tr) → th ≡ thread
      → changed q wk' tr' ≡ set_sized th j z (table wk tr) → outcome q wk' l tr' ≡ set_job (store wk l tr) thread j
  unfolding set_job set_sized set_opened
  set-enters a e i h = on-passed wk l tr c (set_sized thread j) a (rw (i, e) at h)

pub ruleset laws = (entered-notes, reaching, way-valued, rewrite-done, resave-same, resave-full, update-none, update-done, set_same, set-older, set-later, set-live, set-absent, set-declined, set-goes, set-refused, set-enters, passing)
