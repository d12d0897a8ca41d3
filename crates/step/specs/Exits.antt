-- The ways out of a step: the lines, and the step by its phase.
use Rattle.std.specs.Prelude.{ℕ, ◌+◌, ◌-◌, ◌≤◌, ◌<◌, true, false, List, Option, Some, None}
use Rattle.std.proofs.Math.Path.{◌≡◌}
use Rattle.std.proofs.Common.{sym, ◌∙◌, arith}
use Rattle.std.proofs.Math.Logic.{⊎_elim}
use Rattle.std.proofs.Math.Dec.{eqb}
use borrow.Author.Tests.{lt-ltb, le-ltb, eq-eqb, ne_eqb}
use Rattle.std.proofs.Math.Decide.{ℕ_discrete}
use Rattle.search.specs.Bools.{cases}
use Rattle.search.specs.From.{first_from, found_between}
use Rattle.image.specs.declared.header.Header.{Header}
use Rattle.image.specs.Layout.{free_header}
use Rattle.image.specs.Line.{header_line, clock_line, store_line}
use Rattle.image.specs.declared.name.Name.{Name}
use Rattle.image.specs.Name.{name_at}
use Rattle.image.specs.Requires.{held_header, held_contents, Slots, slot}
use Rattle.transient.specs.declared.sizes.Sizes.{Sizes}
use Rattle.transient.specs.Layout.{is_waiting, set_retired, emptied}
use Rattle.transient.specs.Store.{Table, store, table}
use Rattle.transient.specs.Requires.{NoteOf, note-after, slot-working}
use Rattle.transient.specs.Laws.{retired-front}
use Rattle.index.specs.Index.{removed}
use Rattle.step.specs.declared.Place.{Place}
use Rattle.step.specs.declared.Advance.TheVariants.{WentOn, Ticked}
use Rattle.step.specs.Step.{idle, reclaim_next, contents_next, header_next, clock_next, Stepped, stepped, place, passing, reclaimed, contents_flushed, header_flushed, ticking, flush_from, reclaim_from, step}
use Rattle.step.specs.Stages.{due_from, due_next, reclaim_or_flush}
use Rattle.step.specs.Requires.{Looking, Going, Freed, slot_in, slots-first, slots-second, going-advancing, going-looking, requires-laws}
use Rattle.step.specs.From.{due-between}
use Rattle.step.specs.DueExits.{looking-at}

-- ---- a slot found is one of the table
module _ {wk l tr : List ℕ} {z : Sizes} {c p s : ℕ} {f : Option ℕ} (y : Going wk l tr z c p) where
  pub going-wait : f ≡ first_from (is_waiting tr (c - 1)) z.n p → f ≡ Some s → Slots wk l z.n z.w s
  going-wait e a =
      let h = (found_between (is_waiting tr (c - 1)) z.n p (sym e ∙ a)).below in
      record { first = slot y.advancing.shaped.working h; second = slot y.advancing.persistent h }

-- ---- lines
pub freed-both : (wk l : List ℕ) (s : ℕ) {g h : Header} {wk' l' : List ℕ} → g ≡ free_header → wk' ≡ store_line wk (header_line s g) → h ≡ free_header → l' ≡ store_line l (header_line s h) → Freed wk l s wk' l'
freed-both wk l s a p b q = record { working = rw a at p; persistent = rw b at q }

-- ---- places
pub passing-on : (n s phase next : ℕ) → s + 1 < n → place phase (s + 1) ≡ passing n s phase next
unfolding passing
passing-on n s phase next h = rw (lt-ltb (s + 1) n h)

pub passing-over : (n s phase next : ℕ) → n ≤ s + 1 → place next 0 ≡ passing n s phase next
unfolding passing
passing-over n s phase next h = rw (le-ltb (s + 1) n h)

module _ (p : Place) where
  pub slot-on : (phase : ℕ) → p.phase ≡ phase → p.slot ≡ slot_in p phase
  unfolding slot_in
  slot-on phase h = rw (eq-eqb p.phase phase h)

  pub slot-first : (phase : ℕ) → (p.phase ≡ phase → ⊥) → 0 ≡ slot_in p phase
  unfolding slot_in
  slot-first phase h = rw (ne_eqb p.phase phase h)

  -- it is a slot of the table
  slot-within : (phase : ℕ) {n a : ℕ} → a ≡ slot_in p phase → p.slot < n → a < n
  unfolding slot_in
  slot-within phase {n} {a} e h =
      ⊎_elim
      (λ (t : eqb p.phase phase ≡ true). let f = rw t at e in rw f h)
      (λ (t : eqb p.phase phase ≡ false). let f = rw t at e in omega arith)
      (cases (eqb p.phase phase))

  pub looking-in : (phase : ℕ) {wk tr : List ℕ} {z : Sizes} {c a : ℕ} → Looking wk tr z c p.slot → a ≡ slot_in p phase → Looking wk tr z c a
  looking-in phase y e = looking-at y (slot-within phase e y.slot.slot.within)

  pub going-in : (phase : ℕ) {wk l tr : List ℕ} {z : Sizes} {c a : ℕ} → Going wk l tr z c p.slot → a ≡ slot_in p phase → Going wk l tr z c a
  going-in phase y e = record { advancing = y.advancing; within = slot-within phase e y.within }

  -- ---- the next slot to reclaim
  module _ (z : Sizes) (tb : Table) (c : ℕ) where
    pub due-over : p.phase ≡ contents_next → None ≡ due_next z tb c p
    unfolding due_next
    due-over h = rw (eq-eqb p.phase contents_next h)

    pub due-on : {a : ℕ} {f : Option ℕ} → (p.phase ≡ contents_next → ⊥) → a ≡ slot_in p reclaim_next → f ≡ due_from z tb c a → f ≡ due_next z tb c p
    unfolding due_next
    due-on h e d = rw (ne_eqb p.phase contents_next h, ← e) d

  pub going-due : {wk l tr : List ℕ} {z : Sizes} {c s : ℕ} {f : Option ℕ} → Going wk l tr z c p.slot → f ≡ due_next z (table wk tr) c p → f ≡ Some s → Going wk l tr z c s
  unfolding due_next
  going-due {wk} {l} {tr} {z} {c} {s} y e a =
      ⊎_elim
      (λ (t : eqb p.phase contents_next ≡ true). let g : None ≡ Some s = rw t at (sym e ∙ a) in let one : ◌≡◌ {A = ℕ} 0 1 = cc in absurd (omega arith))
      (λ (t : eqb p.phase contents_next ≡ false).
      let g = rw t at (sym e ∙ a) in
      record { advancing = y.advancing; within = (due-between z (table wk tr) c (slot_in p reclaim_next) g).below })
      (cases (eqb p.phase contents_next))

-- ---- a slot no longer retired has its note
pub retired-note : {tr tr' : List ℕ} {z : Sizes} {s : ℕ} (e : ℕ) → NoteOf tr z s → tr' ≡ set_retired z tr s e → NoteOf tr' z s
retired-note {tr} {tr'} {z} {s} e y q = note-after (rw q (retired-front tr z s e).head.long) y

-- ---- one line, or the tick
module _ (z : Sizes) (wk l tr : List ℕ) where
  pub reclaim-done : (s : ℕ) {name : Name} {wk' l' tr' tr'' : List ℕ} {p : Place} → name ≡ name_at wk z.n z.w s → Freed wk l s wk' l' → tr' ≡ set_retired z tr s 0
      → tr'' ≡ removed z tr' name s → p ≡ passing z.n s reclaim_next contents_next → stepped WentOn wk' l' tr'' p ≡ reclaimed z (store wk l tr) s
  unfolding reclaimed
  reclaim-done s e f r q p = rw (f.working, f.persistent, q, r, e, p)

  pub header-done : (s : ℕ) {l' : List ℕ} {p : Place} → l' ≡ store_line l (held_header wk s) → p ≡ passing z.n s contents_next clock_next → stepped WentOn wk l' tr p ≡ header_flushed z (store wk l tr) s
  unfolding header_flushed
  header-done s e p = rw (e, p)

  pub tick-done : (c : ℕ) {wk' l' tr' : List ℕ} → wk' ≡ store_line wk (clock_line (c + 1)) → l' ≡ store_line l (clock_line (c + 1)) → tr' ≡ emptied tr (c - 1)
      → stepped Ticked wk' l' tr' (place idle 0) ≡ ticking z (store wk l tr) c
  unfolding ticking
  tick-done c a b d = rw (a, b, d)

  -- from a slot on
  module _ (c p : ℕ) {f : Option ℕ} where
    pub flush-line : {s : ℕ} {l' : List ℕ} → f ≡ first_from (is_waiting tr (c - 1)) z.n p → f ≡ Some s → l' ≡ store_line l (held_contents wk z.n z.w s)
        → stepped WentOn wk l' tr (place header_next s) ≡ flush_from z (store wk l tr) c p
    unfolding flush_from first_from contents_flushed
    flush-line fe a e = rw (← fe, a, e)

    pub flush-tick : {x : Stepped} → f ≡ first_from (is_waiting tr (c - 1)) z.n p → f ≡ None → x ≡ ticking z (store wk l tr) c → x ≡ flush_from z (store wk l tr) c p
    unfolding flush_from first_from
    flush-tick fe a e = rw (← fe, a) e

  -- by the phase
  module _ (c : ℕ) (p : Place) {x : Stepped} where
    pub step-header : p.phase ≡ header_next → x ≡ header_flushed z (store wk l tr) p.slot → x ≡ step z (store wk l tr) c p
    unfolding step
    step-header a e = rw a e

    pub step-tick : p.phase ≡ clock_next → x ≡ ticking z (store wk l tr) c → x ≡ step z (store wk l tr) c p
    unfolding step
    step-tick a e = rw a e

    pub step-slot : (p.phase ≡ header_next → ⊥) → (p.phase ≡ clock_next → ⊥) → x ≡ reclaim_or_flush z (store wk l tr) c p → x ≡ step z (store wk l tr) c p
    unfolding step reclaim_from reclaim_or_flush due_next due_from slot_in
    step-slot b d e =
        elim (ℕ_discrete p.phase contents_next) [
          | yes h ↦ rw h (rw h at e)
          | no h ↦ elim (ℕ_discrete p.phase reclaim_next) [
            | yes g ↦ rw g (rw g at e)
            | no g ↦
                let i = ne_eqb p.phase reclaim_next g in
                let j = ne_eqb p.phase contents_next h in
                rw (i, j, ne_eqb p.phase header_next b, ne_eqb p.phase clock_next d) (rw (i, j) at e)
          ]
        ]

    -- .. at a slot
    module _ {f : Option ℕ} (fe : f ≡ due_next z (table wk tr) c p) where
      pub slot-reclaim : {s : ℕ} → f ≡ Some s → x ≡ reclaimed z (store wk l tr) s → x ≡ reclaim_or_flush z (store wk l tr) c p
      unfolding reclaim_or_flush
      slot-reclaim a e = rw (← fe, a) e

      pub slot-flush : {a : ℕ} → f ≡ None → a ≡ slot_in p contents_next → x ≡ flush_from z (store wk l tr) c a → x ≡ reclaim_or_flush z (store wk l tr) c p
      unfolding reclaim_or_flush
      slot-flush n g e = rw (← fe, n, ← g) e

pub ruleset lines = (slots-first, slots-second, freed-both, passing-on, passing-over)

pub ruleset steps = (requires-laws, slot-working, retired-note, going-wait, reclaim-done, header-done, tick-done, flush-line, flush-tick)

pub ruleset places = (slot-on, slot-first, looking-in, due-over, due-on)

pub ruleset slots = (going-looking, going-in, going-due, slot-reclaim, slot-flush)

pub ruleset stepping = (going-advancing, step-header, step-tick, step-slot)
