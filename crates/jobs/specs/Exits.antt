-- The ways out of this crate's functions.
use Rattle.std.specs.Prelude.{ℕ, ◌+◌, ◌-◌, ◌≤◌, ◌<◌, ◌≡◌, Bool, true, false, not, List, ◌∷◌, length, eqb, Ok, Err}
use borrow.Author.Tests.{le-leb, lt-leb, eq-eqb, ne_eqb}
use Rattle.reply.specs.declared.Refusal.TheVariants.{NoThread, NotOpen, BadArgument}
use Rattle.image.specs.declared.header.Header.{Header}
use Rattle.image.specs.declared.name.Name.{Name}
use Rattle.image.specs.Layout.{fresh_header}
use Rattle.transient.specs.declared.sizes.Sizes.{Sizes}
use Rattle.transient.specs.Layout.{open_epoch, note, next_uid_at, set_note, set_retired}
use Rattle.transient.specs.Store.{Table, table}
use Rattle.transient.specs.Requires.{note-after, thread-of}
use Rattle.table.specs.Fill.{filled_slot, taken}
use Rattle.jobs.specs.Job.{job, bad_job, made}
use Rattle.jobs.specs.Way.{way_in}
use Rattle.jobs.specs.Requires.{super-to, super-from, placing}

-- ---- the way in
module _ (z : Sizes) (tr : List ℕ) (thread : ℕ) (bad : Bool) where
  pub way-thread : z.t ≤ thread → Err NoThread ≡ way_in z tr thread bad
  unfolding way_in
  way-thread h = rw (le-leb z.t thread h)

  module _ {e : ℕ} (h : thread < z.t) (q : e ≡ open_epoch tr thread) where
    pub way-none : e ≡ 0 → Err NotOpen ≡ way_in z tr thread bad
    unfolding way_in
    way-none d = rw (lt-leb z.t thread h, ← q, eq-eqb e 0 d)

    pub way-bad : (e ≡ 0 → ⊥) → bad ≡ true → Err BadArgument ≡ way_in z tr thread bad
    unfolding way_in
    way-bad d b = rw (lt-leb z.t thread h, ← q, ne_eqb e 0 d, b)

    pub way-fine : (e ≡ 0 → ⊥) → bad ≡ false → Ok e ≡ way_in z tr thread bad
    unfolding way_in
    way-fine d b = rw (lt-leb z.t thread h, ← q, ne_eqb e 0 d, b)

module _ (z : Sizes) (key : ℕ) (value : List ℕ) where
  pub job-nameless : key ≡ 0 → true ≡ bad_job z (job key value)
  unfolding bad_job
  job-nameless k = rw (eq-eqb key 0 k)

  pub job-long : (key ≡ 0 → ⊥) → not (eqb (length value) (z.w - 1)) ≡ bad_job z (job key value)
  unfolding bad_job
  job-long k = rw (ne_eqb key 0 k)

-- ---- a first version
pub made-done : (z : Sizes) (tb : Table) (e s : ℕ) (name : Name) (value : List ℕ) {u : ℕ} {h : Header} {wk a b : List ℕ}
    → u ≡ note next_uid_at tb.transient → h ≡ fresh_header e u name.board → wk ≡ filled_slot z tb.working s h (name.key ∷ value)
    → a ≡ taken z tb.transient e s name → b ≡ set_note next_uid_at a (u + 1) → table wk b ≡ made z tb e s name value
unfolding made
made-done z tb e s name value p q r x y = rw (r, q, y, x, p)

-- ---- superseding
pub noted : (z : Sizes) (tr : List ℕ) (e s f : ℕ) (name : Name) {a b : List ℕ} → a ≡ taken z tr e f name → b ≡ set_retired z a s e → b ≡ set_retired z (taken z tr e f name) s e
noted z tr e s f name p q = rw (← p) q

pub ruleset laws = (thread-of, note-after, way-thread, way-none, way-bad, way-fine, job-nameless, job-long, super-to, super-from, noted, placing, made-done)
