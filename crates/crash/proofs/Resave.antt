-- A set of the value that the live version has keeps the invariant, though no slot changes: with no newer slot of the name, the value is
-- the same at every threshold from the operation's epoch on.
use Rattle.std.specs.Prelude.{ℕ, ◌≤◌, ◌≡◌, refl, ◌↔◌, Some}
use Rattle.std.proofs.Common.{ap, inl, arith}
use Rattle.std.proofs.Math.Decide.{ℕ_discrete}
use Rattle.image.specs.declared.name.Name.{Name}
use Rattle.crash.proofs.Laws.{late-snoc, shown-step}
use Rattle.crash.specs.Slots.{Value, Entry, State, Shows, Inv}
use Rattle.crash.specs.Steps.{after, Resave}
use Rattle.crash.proofs.Versions.{current-lone}

module _ {e r : ℕ} {st : State} (i : Inv st) (t : Resave e r st) where
  abbrev held : Entry
  held = (st.slots r).working

  abbrev name : Name
  name = held.name

  -- from e on the version shows its job, and no other slot does
  loud : (d : ℕ) → e ≤ d → (w : Value) → Shows st.slots d name w ↔ (Some held.value ≡ Some w)
  loud d l w = (
    λ a. elim (ℕ_discrete a.at r) [
      | yes q ↦ ap Some (rw q at a.holds.value-is)
      | no q ↦ absurd (current-lone i t.of d a.at q (omega (arith, t.begun)) a.holds.visible a.holds.name-is)
    ],
    λ q. record {
      at = r;
      holds = record { visible = record { payload = t.of.payload; begun = omega (arith, t.begun); live = inl t.of.current }; name-is = refl; value-is = cc };
    },
  )

  pub resave-inv : Inv (after st st.slots st.uid st.order e name (Some held.value))
  resave-inv = record {
    clock-lo = i.clock-lo;
    uid-lo = i.uid-lo;
    one = i.one;
    two = i.two;
    next = i.next;
    underway = i.underway;
    late = late-snoc st.clock st.row _ t.of.operation.epoch-hi i.late;
    shown = λ d lo hi. shown-step (Shows st.slots d) (Shows st.slots d) st.start st.row _ d (i.shown d lo hi) (λ j w h. (λ a. a, λ a. a)) (loud d);
  }
