-- A new ALLOC keeps the invariant: its uid is fresh, and every earlier version of its name is retired by then.
use Rattle.std.specs.Prelude.{ℕ, suc, ◌≤◌, ◌≡◌, refl, Some}
use Rattle.std.proofs.Common.{◌∙◌, arith}
use Rattle.image.specs.declared.name.Name.{Name}
use Rattle.crash.specs.Slots.{Value, Slot, State, Payload, Inv}
use Rattle.crash.specs.Steps.{entry, filled, after, New}
use Rattle.crash.proofs.OneSlot.{slotty}
use Rattle.crash.proofs.Versions.{uid-name}
use Rattle.crash.proofs.Write.{Write, Behind, tells-value, write-inv}

module _ {e s order : ℕ} {k : Name} {v : Value} {now before : ℕ} {st : State} {g : ℕ → Slot} (i : Inv st) (t : New e s order k v now before st g) where
  -- a payload of the name gave way to a version that is not later than e
  given-way : (m : ℕ) → Payload (st.slots m).working → (st.slots m).working.name ≡ k → (1 ≤ (st.slots m).retired) × ((st.slots m).retired ≤ e)
  given-way m p q =
      let r : 1 ≤ (st.slots m).retired = t.no-live m p q in
      let a = i.next m r in
      omega (arith, t.no-later a.at a.holds.filled (uid-name i a.at m a.holds.filled p.0 a.holds.uid-is ∙ q))

  -- the new entry
  write : Write e s (suc st.uid) order k (Some v) (entry 1 e st.uid k v) 0 now before st
  write = record {
    operation = t.operation;
    joins = t.joins;
    was = record { epoch-is = λ h. absurd (omega arith); name-is = λ h. absurd (omega arith) };
    own = record { epoch-is = λ _. refl; name-is = λ _. refl };
    proper = omega arith;
    named = t.named;
    uid-below = omega arith;
    order_below = λ _ b. omega (arith, t.order_below b);
    not-retired = refl;
    tells = tells-value (omega arith) refl;
  }

  -- no slot has its uid, and none shows its name from e on
  behind : (m : ℕ) → Behind e k (filled (entry 1 e st.uid k v) now before (st.slots s)) (st.slots m)
  behind m = record {
    newer = λ p q u. absurd (omega (arith, (i.one m).uid-below));
    lone = λ d l w q. omega (slotty, given-way m w.payload q);
  }

  pub new-inv : Inv (after st g (suc st.uid) order e k (Some v))
  new-inv = write-inv i write t.put (λ m _. behind m) (omega arith) t.orders (λ m _ h w. absurd (omega arith))
