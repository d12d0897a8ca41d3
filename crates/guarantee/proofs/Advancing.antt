-- Advance keeps the invariant of a run: a declined call changes nothing, an accepted one makes one step.
use Prim.Native.Nat.{ℕ, ◌+◌, ◌<◌}
use Rattle.std.specs.Prelude.{◌≡◌, refl, not, ◌&&◌, Result, Ok, Err}
use Rattle.std.proofs.Common.{ap, ◌∙◌, arith}
use Rattle.std.proofs.Math.Bool.{Bool}
use Rattle.std.proofs.Math.Dec.{eqb}
use borrow.Author.Tests.{eqb-false, eq-eqb, ne_eqb}
use Rattle.std.proofs.Math.Decide.{ℕ_discrete}
use Rattle.search.specs.Bools.{never, not-is-true, and_both}
use Rattle.search.specs.Some.{any_of, some_at}
use Rattle.reply.specs.declared.Refusal.TheVariants.{StillOpen, LastEpoch}
use Rattle.reply.specs.Refusals.{Check, refuse, not-refused}
use Rattle.image.specs.Layout.{most_number}
use Rattle.transient.specs.declared.sizes.Sizes.{Sizes}
use Rattle.transient.specs.Layout.{note, phase_at, place_at, open_epoch}
use Rattle.transient.specs.Store.{Store, table_of, sizes_of, Outcome, after_check}
use Rattle.transient.specs.Entry.{entry_check}
use Rattle.transient.specs.Passed.{entry-with}
use Rattle.step.specs.declared.Advance.{Advance}
use Rattle.step.specs.Step.{reclaim_next, contents_next, header_next, clock_next, place, step}
use Rattle.advance.specs.Advance.{noted, advance}
use Rattle.advance.specs.Stages.{underway, open_below, held_check, advance_sized, advance-is}
use Rattle.crash.specs.Reference.{Jobs}
use Rattle.crash.specs.Slots.{Place}
use Rattle.guarantee.specs.Trace.{Plain, told_advance}
use Rattle.guarantee.specs.View.{progress}
use Rattle.guarantee.proofs.Good.{Good}
use Rattle.guarantee.proofs.Changing.{sizes-is}
use Rattle.guarantee.proofs.Stepping.{progress-reclaim, progress-contents, progress-header, progress-clock, progress-none, Reached, Ready}
use Rattle.guarantee.proofs.Ticking.{Owed, tick-good}
use Rattle.guarantee.proofs.Flushing.{flush-good, head-good}
use Rattle.guarantee.proofs.Reclaiming.{reclaim-good}
use Rattle.reply.specs.declared.Refusal.{Refusal}

-- ---- one step, by the phase
module _ {sz : Sizes} {start : Jobs} {st : Store} {p : Plain} (y : Ready sz start st p) (k : note place_at st.transient < sz.n) where
  abbrev phase : ℕ
  phase = note phase_at st.transient

  abbrev slot : ℕ
  slot = note place_at st.transient

  placed : {q : Place} → progress sz.n phase slot ≡ q → Reached sz start st p q
  placed e = rw e at y.good.inv

  in-phase : {q : Place} (j : ℕ) → phase ≡ j → progress sz.n j slot ≡ q → Reached sz start st p q
  in-phase j e d = placed (ap (λ i. progress sz.n i slot) e ∙ d)

  step-good : Owed sz start p (step sz st p.clock (place phase slot))
  unfolding step
  step-good = elim (ℕ_discrete phase reclaim_next) [
    | yes a ↦ rw (eq-eqb phase reclaim_next a) (reclaim-good y slot (in-phase reclaim_next a (progress-reclaim sz.n slot)))
    | no a ↦ rw (ne_eqb phase reclaim_next a) (elim (ℕ_discrete phase contents_next) [
      | yes b ↦ rw (eq-eqb phase contents_next b) (flush-good y slot (in-phase contents_next b (progress-contents sz.n slot)))
      | no b ↦ rw (ne_eqb phase contents_next b) (elim (ℕ_discrete phase header_next) [
        | yes c ↦ rw (eq-eqb phase header_next c) (head-good y slot k (in-phase header_next c (progress-header sz.n slot)))
        | no c ↦ rw (ne_eqb phase header_next c) (elim (ℕ_discrete phase clock_next) [
          | yes d ↦ rw (eq-eqb phase clock_next d) (tick-good y (in-phase clock_next d (progress-clock sz.n slot)))
          | no d ↦ rw (ne_eqb phase clock_next d) (reclaim-good y 0 (placed (progress-none sz.n phase slot a b c d)))
        ])
      ])
    ])
  ]

-- ---- the checks
module _ {sz : Sizes} {start : Jobs} {st : Store} {p : Plain} (g : Good sz start st p) where
  -- refusals 14 and 15 passed
  ready : held_check sz st.transient p.clock ≡ Ok tt → Ready sz start st p
  unfolding held_check open_below
  ready e =
      let below : ℕ → Bool = λ u. eqb (open_epoch st.transient u + 1) p.clock in
      let last = eqb p.clock most_number in
      let a = not-refused (not (underway st.transient) && any_of below sz.t) StillOpen (refuse last LastEpoch (Ok tt)) e in
      let top = eqb-false p.clock most_number (not-refused last LastEpoch (Ok tt) a.1).0 in
      record {
        good = g;
        quiet = λ u h q. never _ (and_both (not-is-true (g.opens.quiet u h q)) (some_at below sz.t u h (eq-eqb _ _ q))) a.0;
        clock-top = omega (arith, g.clock-hi);
      }

  abbrev Told : Outcome (Result Advance Refusal) → Type 0
  Told a = Good sz start a.store (told_advance a.reply p)

  abbrev next : Outcome (Result Advance Refusal)
  next = noted (step sz st p.clock (place (note phase_at st.transient) (note place_at st.transient)))

  advance-sized-good : note place_at st.transient < sz.n → Told (advance_sized sz st)
  unfolding advance_sized
  advance-sized-good h = rw g.working.clock-is (go (held_check sz st.transient p.clock) refl)
    where
      go : (k : Check) → held_check sz st.transient p.clock ≡ k → Told (after_check k Err st next)
      go (Err r) e = g
      go (Ok _) e = step-good (ready e) h

  -- ---- the call
  pub advance-good : Told (advance st)
  advance-good = rw (advance-is st) (go (entry_check st) refl)
    where
      place-below : entry_check st ≡ Ok tt → note place_at st.transient < sz.n
      place-below a = rw (sizes-is g) at (entry-with st.working st.persistent st.transient a).entered.place

      go : (k : Check) → entry_check st ≡ k → Told (after_check k Err st (advance_sized (sizes_of (table_of st)) st))
      go (Err r) e = g
      go (Ok _) e = rw (sizes-is g) (advance-sized-good (place-below e))
