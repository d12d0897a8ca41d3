-- The ways out of an advance call: refusals 14 and 15, then a step from the place that the notes have.
use Rattle.std.specs.Prelude.{ℕ, ◌≤◌, ◌<◌, ◌^◌, ◌≡◌, Bool, true, false, not, ◌&&◌, List, length, leb, eqb, Result, Ok, Err}
use Rattle.std.proofs.Common.{sym, ap, ◌∙◌, arith}
use Rattle.std.proofs.Math.Bool.{true≢false}
use borrow.Author.Tests.{le-leb, lt-leb, eq-eqb, ne_eqb}
use Rattle.search.specs.Bools.{tests}
use Rattle.reply.specs.declared.Refusal.{Refusal}
use Rattle.reply.specs.declared.Refusal.TheVariants.{StillOpen, LastEpoch}
use Rattle.reply.specs.Refusals.{Check, refuse, not-refused}
use Rattle.image.specs.Layout.{most_number, clock_of}
use Rattle.transient.specs.declared.sizes.Sizes.{Sizes}
use Rattle.transient.specs.Layout.{head_words, note, phase_at, place_at, set_place}
use Rattle.transient.specs.Store.{store, table, sizes_of, Outcome, outcome}
use Rattle.transient.specs.Entry.{entry_check}
use Rattle.transient.specs.Requires.{EnteredWith, notes-head, with-entered, entered-notes, entered-front}
use Rattle.step.specs.declared.Place.{Place}
use Rattle.step.specs.declared.Advance.{Advance}
use Rattle.step.specs.Step.{reclaim_next, clock_next, stepped, place, step}
use Rattle.step.specs.Requires.{Going}
use Rattle.advance.specs.Advance.{advance_check, noted, advance}
use Rattle.advance.specs.Stages.{underway, open_below, held_check, advance_sized, advance-is, held_open, noted_place}
use Rattle.advance.specs.Left.{step-goes}

-- ---- refusals 14 and 15
module _ (tr : List ℕ) {phase : ℕ} (p : phase ≡ note phase_at tr) where
  pub underway-not : phase < reclaim_next → false ≡ underway tr
  unfolding underway
  underway-not h = rw (← p, lt-leb reclaim_next phase h)

  pub underway-is : reclaim_next ≤ phase → leb phase clock_next ≡ underway tr
  unfolding underway
  underway-is h = rw (← p, le-leb reclaim_next phase h)

module _ (z : Sizes) (tr : List ℕ) (c : ℕ) where
  module _ {u : Bool} (un : u ≡ underway tr) where
    pub held-not : u ≡ true → false ≡ held_open z tr c
    unfolding held_open
    held-not e = rw (← un, e)

    pub held-is : {r : Bool} → u ≡ false → r ≡ open_below tr z.t c → r ≡ held_open z tr c
    unfolding held_open
    held-is e q = rw (← un, e) q

  module _ {h : Bool} (he : h ≡ held_open z tr c) where
    pub check-open : h ≡ true → Err StillOpen ≡ held_check z tr c
    unfolding held_check held_open
    check-open e = rw (← he, e)

    pub check-last : h ≡ false → c ≡ most_number → Err LastEpoch ≡ held_check z tr c
    unfolding held_check held_open
    check-last e d = rw (← he, e, eq-eqb c most_number d)

    pub check-fine : h ≡ false → (c ≡ most_number → ⊥) → Ok tt ≡ held_check z tr c
    unfolding held_check held_open
    check-fine e d = rw (← he, e, ne_eqb c most_number d)

  -- an advance that is not refused can raise the clock
  not_last : held_check z tr c ≡ Ok tt → (c ≡ most_number → ⊥)
  unfolding held_check
  not_last a d =
      let first = not-refused (not (underway tr) && open_below tr z.t c) StillOpen (refuse (eqb c most_number) LastEpoch (Ok tt)) a in
      let second = not-refused (eqb c most_number) LastEpoch (Ok tt) first.1 in
      true≢false (sym (eq-eqb c most_number d) ∙ second.0)

-- ---- a step from the place that the notes have, which the notes then keep
pub place-head : {wk l tr : List ℕ} {z : Sizes} {c p : ℕ} → Going wk l tr z c p → head_words ≤ length tr
place-head y = notes-head y.advancing.shaped.notes

pub place_kept : {wk l tr : List ℕ} {z : Sizes} {c p : ℕ} (tr' : List ℕ) → Going wk l tr z c p → length tr' ≡ length tr → head_words ≤ length tr'
place_kept tr' y e = omega (arith, place-head y)

pub place-going : {wk l tr : List ℕ} {z : Sizes} {c s : ℕ} → Going wk l tr z c (note place_at tr) → s ≡ note place_at tr → Going wk l tr z c s
place-going y e = rw e y

module _ (z : Sizes) (wk l tr : List ℕ) (c : ℕ) {phase s : ℕ} (p : phase ≡ note phase_at tr) (q : s ≡ note place_at tr) where
  pub place-narrow : {r : Advance} {wk' l' tr' : List ℕ} {x : Place} → Going wk l tr z c (note place_at tr) → stepped r wk' l' tr' x ≡ step z (store wk l tr) c (place phase s) → x.slot < 2 ^ 32
  place-narrow {x = x} y e =
      let b : x.slot < z.n = rw (← e) at (step-goes z (store wk l tr) c (place phase s) (rw q y.within)).within in
      omega (arith, y.advancing.shaped.notes.slots-hi)

  pub place-noted : {r : Advance} {wk' l' tr' tr'' : List ℕ} {x : Place} {m : ℕ} {a : Advance} → stepped r wk' l' tr' x ≡ step z (store wk l tr) c (place phase s) → m ≡ x.slot
      → tr'' ≡ set_place tr' x.phase m → a ≡ r → outcome (Ok a) wk' l' tr'' ≡ noted (step z (store wk l tr) c (noted_place tr))
  place-noted e f g i = rw (i, g, f, ← p, ← q) (ap noted e)

-- ---- the call
module _ (z : Sizes) (wk l tr : List ℕ) {c : ℕ} {k : Check} (ce : c ≡ clock_of wk) (ke : k ≡ held_check z tr c) where
  pub sized-refused : {r : Refusal} → k ≡ Err r → outcome (Err r) wk l tr ≡ advance_sized z (store wk l tr)
  unfolding advance_sized
  sized-refused a = rw (← ce, ← ke, a)

  module _ (a : k ≡ Ok tt) where
    pub sized-going : EnteredWith wk l tr z → Going wk l tr z c (note place_at tr)
    sized-going y =
        let d : c ≡ most_number → ⊥ = not_last z tr c (sym ke ∙ a) in
        record {
          advancing = record {
            shaped = y.entered.shaped;
            persistent = y.persistent;
            clock-lo = omega (arith, y.entered.clock-lo);
            clock-hi = omega (arith, y.entered.clock-hi);
          };
          within = y.entered.place;
        }

    pub sized-goes : {x : Outcome (Result Advance Refusal)} → x ≡ noted (step z (store wk l tr) c (noted_place tr)) → x ≡ advance_sized z (store wk l tr)
    unfolding advance_sized
    sized-goes e = rw (← ce, ← ke, a) e

module _ (wk l tr : List ℕ) {k : Check} (ce : k ≡ entry_check (store wk l tr)) where
  pub advance-refused : {r : Refusal} → k ≡ Err r → outcome (Err r) wk l tr ≡ advance (store wk l tr)
  unfolding advance advance_check
  advance-refused a = rw (← ce, a)

  pub advance-goes : {z : Sizes} {x : Outcome (Result Advance Refusal)} → k ≡ Ok tt → z ≡ sizes_of (table wk tr) → x ≡ advance_sized z (store wk l tr) → x ≡ advance (store wk l tr)
  advance-goes a e h = rw (advance-is (store wk l tr), ← ce, a) (rw e at h)

pub ruleset checks = (tests, notes-head, underway-not, underway-is, held-not, held-is, check-open, check-last, check-fine)

pub ruleset placing = (place-head, place_kept, place-going, place-narrow, place-noted)

pub ruleset calls = (with-entered, entered-notes, entered-front, sized-refused, sized-going, sized-goes, advance-refused, advance-goes)
