-- A delete in the epoch of the version itself, which turns into a DELETE, keeps the invariant.
use Rattle.std.specs.Prelude.{ℕ, refl, None}
use Rattle.std.proofs.Common.{arith}
use Rattle.crash.specs.Slots.{Slot, State, Inv}
use Rattle.crash.specs.Steps.{after, turned, InPlace}
use Rattle.crash.proofs.InPlace.{kept-uid-inv}
use Rattle.crash.proofs.Write.{tells-nothing}

pub turn-inv : {e r now before : ℕ} {st : State} {g : ℕ → Slot} → Inv st → InPlace (turned (st.slots r).working) e r now before st g
    → Inv (after st g st.uid st.order e (st.slots r).working.name None)
turn-inv i t = kept-uid-inv i t (omega arith) (omega arith) (tells-nothing (λ p. omega arith) refl)
