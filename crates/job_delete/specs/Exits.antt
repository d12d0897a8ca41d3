-- The ways out of this crate's functions.
use Rattle.std.specs.Prelude.{ℕ, ◌-◌, ◌≡◌, List, ◌∷◌, replicate, eqb, Option, Some, None, Result, Ok, Err}
use Rattle.std.proofs.Common.{eq-eqb, ne_eqb}
use Rattle.reply.specs.declared.Refusal.{Refusal}
use Rattle.reply.specs.declared.Refusal.TheVariants.{NoJob, Full}
use Rattle.image.specs.declared.header.Header.{Header}
use Rattle.image.specs.Layout.{header, free_header, anti_header}
use Rattle.image.specs.Line.{header_line, store_line}
use Rattle.image.specs.Name.{job_name, name_of}
use Rattle.image.specs.Requires.{board_at}
use Rattle.transient.specs.declared.sizes.Sizes.{Sizes}
use Rattle.transient.specs.Layout.{set_retired, set_waiting}
use Rattle.transient.specs.Store.{Table, store, table, sizes_of, outcome}
use Rattle.transient.specs.Entry.{entry_check}
use Rattle.transient.specs.Calls.{Changed, changed, refused}
use Rattle.transient.specs.Requires.{entered-shaped, entered-notes}
use Rattle.transient.specs.Passed.{on-declined, on-passed, passing}
use Rattle.table.specs.Find.{lookup, room}
use Rattle.table.specs.Fill.{filled_slot, taken, freed}
use Rattle.jobs.specs.Way.{way_in}
use Rattle.jobs.specs.Requires.{reaching}
use Rattle.jobs.specs.Laws.{way-declined, way-open}
use Rattle.job_delete.specs.Delete.{delete_at, delete_job}
use Rattle.job_delete.specs.Stages.{freed_at, turned, covered, delete-at-is, delete_open, delete_sized}
use Rattle.reply.specs.Refusals.{Check}

module _ (z : Sizes) (tb : Table) (e s : ℕ) where
  pub free-done : (key : ℕ) {b : ℕ} {h : Header} {wk tr : List ℕ} → b ≡ board_at tb.working s → h ≡ free_header → wk ≡ store_line tb.working (header_line s h)
      → tr ≡ freed z tb.transient e s (name_of b key) → changed (Ok tt) wk tr ≡ freed_at z tb e s key
  unfolding freed_at header
  free-done key o p q r = rw (q, p, r, o)

  pub turn-done : {g h : Header} {wk tr : List ℕ} → g ≡ header tb.working s → h ≡ anti_header e g → wk ≡ store_line tb.working (header_line s h)
      → tr ≡ set_waiting tb.transient e s → changed (Ok tt) wk tr ≡ turned z tb e s
  unfolding turned
  turn-done a p q r = rw (q, p, a, r)

  module _ (key : ℕ) where
    -- 13
    module _ {f : Option ℕ} (fr : f ≡ room z tb 1) where
      pub cover-full : f ≡ None → refused Full tb ≡ covered z tb e s key
      unfolding covered
      cover-full a = rw (← fr, a)

      pub cover-done : {i : ℕ} {g h : Header} {wk tr : List ℕ} → f ≡ Some i → g ≡ header tb.working s → h ≡ anti_header e g
          → wk ≡ filled_slot z tb.working i h (key ∷ replicate (z.w - 1) 0) → tr ≡ set_retired z (taken z tb.transient e i (name_of h.board key)) s e → changed (Ok tt) wk tr ≡ covered z tb e s key
      unfolding covered
      cover-done a at hd p q = rw (← fr, a, p, q, hd, at)

    module _ {g : Header} {x : Changed} (at : g ≡ header tb.working s) where
      pub delete-free : g.epoch ≡ e → g.kind ≡ 1 → x ≡ freed_at z tb e s key → x ≡ delete_at z tb e s key
      delete-free d k p = rw (delete-at-is z tb e s key, ← at, eq-eqb g.epoch e d, eq-eqb g.kind 1 k) p

      pub delete-turn : g.epoch ≡ e → (g.kind ≡ 1 → ⊥) → x ≡ turned z tb e s → x ≡ delete_at z tb e s key
      delete-turn d k p = rw (delete-at-is z tb e s key, ← at, eq-eqb g.epoch e d, ne_eqb g.kind 1 k) p

      pub delete-cover : (g.epoch ≡ e → ⊥) → x ≡ covered z tb e s key → x ≡ delete_at z tb e s key
      delete-cover d p = rw (delete-at-is z tb e s key, ← at, ne_eqb g.epoch e d) p

-- 9 and 10
module _ (z : Sizes) (tb : Table) (e key : ℕ) {k : Result (Option ℕ) Refusal} (lk : k ≡ lookup z tb (job_name key) e) where
  pub delete-later : {r : Refusal} → k ≡ Err r → refused r tb ≡ delete_open z tb key e
  unfolding delete_open
  delete-later a = rw (← lk, a)

  pub delete-live : {s : ℕ} {x : Changed} → k ≡ Ok (Some s) → x ≡ delete_at z tb e s key → x ≡ delete_open z tb key e
  unfolding delete_open
  delete-live a p = rw (← lk, a) p

  pub delete-absent : k ≡ Ok None → refused NoJob tb ≡ delete_open z tb key e
  unfolding delete_open
  delete-absent a = rw (← lk, a)

-- 5, 7 and 8
module _ (z : Sizes) (tb : Table) (thread key : ℕ) {k : Result ℕ Refusal} (way : k ≡ way_in z tb.transient thread (eqb key 0)) where
  pub delete-declined : {r : Refusal} → k ≡ Err r → refused r tb ≡ delete_sized thread key z tb
  unfolding delete_sized
  delete-declined a = way-declined z tb thread (eqb key 0) (delete_open z tb key) way a

  pub delete-goes : {e : ℕ} {x : Changed} → k ≡ Ok e → x ≡ delete_open z tb key e → x ≡ delete_sized thread key z tb
  unfolding delete_sized
  delete-goes a p = way-open z tb thread (eqb key 0) (delete_open z tb key) way a p

-- 1 and 2
module _ (wk l tr : List ℕ) (thread key : ℕ) {k : Check} (c : k ≡ entry_check (store wk l tr)) where
  pub delete-refused : {r : Refusal} → k ≡ Err r → outcome (Err r) wk l tr ≡ delete_job (store wk l tr) thread key
  unfolding delete_job delete_sized delete_open
  delete-refused a = on-declined wk l tr c (delete_sized thread key) a

  pub delete-enters : {z : Sizes} {th : ℕ} {q : Check} {wk' tr' : List ℕ} → k ≡ Ok tt → z ≡ sizes_of (table wk tr) → th ≡ thread
      → changed q wk' tr' ≡ delete_sized th key z (table wk tr) → outcome q wk' l tr' ≡ delete_job (store wk l tr) thread key
  unfolding delete_job delete_sized delete_open
  delete-enters a e i h = on-passed wk l tr c (delete_sized thread key) a (rw (i, e) at h)

pub ruleset laws = (entered-shaped, entered-notes, reaching, free-done, turn-done, cover-full, cover-done, delete-free, delete-turn, delete-cover, delete-later, delete-live, delete-absent, delete-declined, delete-goes, delete-refused, delete-enters, passing)
