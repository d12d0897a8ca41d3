-- A change of a version in its own slot and epoch keeps the invariant: in general, where the version keeps its uid, and a set.
use Rattle.std.specs.Prelude.{ℕ, ◌≤◌, ◌<◌, refl, ◌≢◌, Option, Some}
use Rattle.std.proofs.Common.{arith}
use Rattle.crash.specs.Slots.{Value, Entry, Slot, State, Proper, Inv}
use Rattle.crash.specs.Steps.{entry, rewritten, after, revalued, InPlace}
use Rattle.crash.proofs.Versions.{current-newest, current-lone}
use Rattle.crash.proofs.Write.{Own, Tells, tells-value, Newer, Heir, Write, write-inv}

-- ---- the entry x takes the place of the version
module _ {x : Entry} {e r now before : ℕ} {st : State} {g : ℕ → Slot} (i : Inv st) (t : InPlace x e r now before st g) where
  abbrev old : Slot
  old = st.slots r

  abbrev new : Slot
  new = rewritten x now before old

  -- x is of this epoch and job, newer than the other slots of its uid, and the heir of the version
  pub in-place-inv : {v : Option Value} → Own e old.working.name x → Proper st.clock x → x.uid < st.uid → Tells v x
      → ((m : ℕ) → m ≢ r → Newer new (st.slots m)) → ((m : ℕ) → m ≢ r → Heir old new (st.slots m))
      → Inv (after st g st.uid st.order e old.working.name v)
  in-place-inv {v} own proper below tells newer heir =
      let write : Write e r st.uid st.order old.working.name v x old.retired now before st = record {
        operation = t.of.operation;
        joins = t.joins;
        was = record { epoch-is = λ _. t.epoch-is; name-is = λ _. refl };
        own = own;
        proper = proper;
        named = (i.one r).named t.of.payload.0;
        uid-below = below;
        order_below = λ f. rw (own.name-is f) ((i.one r).order_below t.of.payload.0);
        not-retired = t.of.current;
        tells = tells;
      } in
      write-inv i write t.put (λ m h. record { newer = newer m h; lone = λ d l w. current-lone i t.of d m h (omega arith) w }) (omega arith) (omega arith) heir

-- ---- where uid, epoch and name stay and the kind does not go down
module _ {kind : ℕ} {w : Value} {e r now before : ℕ} {st : State} {g : ℕ → Slot} (i : Inv st)
    (t : InPlace (entry kind (st.slots r).working.epoch (st.slots r).working.uid (st.slots r).working.name w) e r now before st g) where
  pub kept-uid-inv : {v : Option Value} → (st.slots r).working.kind ≤ kind → kind ≤ 3
      → Tells v (entry kind (st.slots r).working.epoch (st.slots r).working.uid (st.slots r).working.name w)
      → Inv (after st g st.uid st.order e (st.slots r).working.name v)
  kept-uid-inv up hi tells =
      let one = i.one r in
      in-place-inv i t
      (record { epoch-is = λ _. t.epoch-is; name-is = λ _. refl })
      (let p = one.proper in omega (arith, p.epoch-lo t.of.payload.0, p.uid-lo t.of.payload.0, p.board-lo t.of.payload.0))
      one.uid-below
      tells
      (λ m h p q u. let a = current-newest i t.of m h p u in search arith)
      (λ m h l a. search arith)

pub set-inv : {v : Value} {e r now before : ℕ} {st : State} {g : ℕ → Slot} → Inv st → InPlace (revalued v (st.slots r).working) e r now before st g
    → Inv (after st g st.uid st.order e (st.slots r).working.name (Some v))
set-inv i t = kept-uid-inv i t (omega arith) (omega arith) (tells-value t.of.payload refl)
