-- A delete of an ALLOC in its own epoch, which frees its slot, keeps the invariant: no other slot has its uid.
use Rattle.std.specs.Prelude.{ℕ, refl, ◌≢◌, None}
use Rattle.std.proofs.Common.{sym, arith}
use Rattle.crash.specs.Slots.{Slot, State, Filled, Inv}
use Rattle.crash.specs.Steps.{after, Unmake}
use Rattle.crash.proofs.InPlace.{in-place-inv}
use Rattle.crash.proofs.Versions.{current-newest}
use Rattle.crash.proofs.Write.{tells-nothing}

module _ {e r now before : ℕ} {st : State} {g : ℕ → Slot} (i : Inv st) (t : Unmake e r now before st g) where
  -- a current ALLOC is both the newest of its uid and the first
  only : (m : ℕ) → m ≢ r → Filled (st.slots m).working → (st.slots m).working.uid ≢ (st.slots r).working.uid
  only m h p u = omega (arith, current-newest i t.change.of m h p u)

  pub unmake-inv : Inv (after st g st.uid st.order e (st.slots r).working.name None)
  unmake-inv = in-place-inv i t.change
      (record { epoch-is = λ h. absurd (omega arith); name-is = λ h. absurd (omega arith) })
      (omega arith)
      (omega arith)
      (tells-nothing (λ p. omega arith) refl)
      (λ m h p q u. absurd (omega arith))
      (λ m h l a. absurd (only m h ((i.one m).retired-of l).0.0 (sym a.uid-is)))
