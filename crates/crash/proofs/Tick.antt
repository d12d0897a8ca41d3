-- The clock goes on and keeps the invariant.
use Rattle.std.specs.Prelude.{ℕ, suc, ◌+◌, ◌≤◌, ◌≡◌, ◌↔◌, Some}
use Rattle.std.proofs.Math.Logic.Iff.{trans as Iff-trans}
use Rattle.std.proofs.Common.{arith}
use Rattle.std.proofs.Math.Decide.{dec_le}
use Rattle.image.specs.declared.name.Name.{Name}
use Rattle.crash.specs.Reference.{jobs_at}
use Rattle.crash.specs.Slots.{Value, Entry, Slot, State, Proper, Worded, Visible, Shows, One, Inv}
use Rattle.crash.specs.Steps.{ticked, ticked_state, Tick}
use Rattle.crash.proofs.Laws.{jobs-agree}
use Rattle.crash.proofs.OneSlot.{slotty, rest-underway}
use Rattle.crash.proofs.Dressed.{Dressed, dressed-two, dressed-next, dressed-shows}

-- a proper entry stays proper
proper-suc : {c : ℕ} {x : Entry} → Proper c x → Proper (suc c) x
proper-suc p = search arith

worded-suc : {c : ℕ} {x : Entry} → Worded c x → Worded (suc c) x
worded-suc p = record { kind-hi = p.kind-hi; epoch-lo = p.epoch-lo; epoch-hi = omega (arith, p.epoch-hi); uid-hi = p.uid-hi; board-hi = p.board-hi }

-- what is old at the new clock was old, or of c - 1
old-suc : {c : ℕ} {P : Type 0} (x : ℕ) → (x + 2 ≤ c → P) → (x + 1 ≡ c → P) → x + 2 ≤ suc c → P
old-suc {c} x old last h = elim (dec_le (x + 2) c) [ yes a ↦ old a | no a ↦ last (omega arith) ]

module _ {st : State} {g : ℕ → Slot} (i : Inv st) (t : Tick st g) where
  -- the working sides stay
  kept : (s : ℕ) → Dressed (st.slots s) (g s)
  kept s = record { entry = (st.slots s).persistent; now = 0; before = (st.slots s).now; is = t.all s }

  -- what is said of one slot, at the new clock
  one : (s : ℕ) → One (suc st.clock) st.uid st.order (ticked (st.slots s))
  one s =
      let o = i.one s in
      record {
        proper = proper-suc o.proper;
        uid-below = o.uid-below;
        order_below = o.order_below;
        named = o.named;
        retired-hi = omega (arith, o.retired-hi);
        retired-lo = λ h. omega (arith, (t.swept s).retired h);
        retired-of = o.retired-of;
        anti-lo = λ h. omega (arith, (t.swept s).anti h);
        settled-head = λ f. old-suc _ (o.settled-head f) (t.flushed s).head;
        settled-line = λ f. old-suc _ (o.settled-line f) (t.flushed s).line;
        copied = λ f. old-suc _ (o.copied f) (t.flushed s).stray;
        waits = record { in-now = λ h. absurd (omega (arith, o.proper.epoch-hi)); in-before = λ h. o.waits.in-now (omega arith) };
        stray = record { in-now = λ h. absurd (omega (arith, o.worded.epoch-hi)); in-before = λ h. o.stray.in-now (omega arith) };
        worded = worded-suc o.worded;
      }

  -- at the new clock all is visible as at the old one
  new : (k : Name) (v : Value) → Shows st.slots (suc st.clock) k v ↔ Shows st.slots st.clock k v
  new k v = (
    λ a. let w = a.holds in
        let x : Visible st.clock (st.slots a.at) = omega (slotty, (i.one a.at).proper.epoch-hi, (i.one a.at).retired-hi) in
        record { at = a.at; holds = search },
    λ a. let w = a.holds in
        let x : Visible (suc st.clock) (st.slots a.at) = omega (slotty, (i.one a.at).retired-hi) in
        record { at = a.at; holds = search },
  )

  -- the reference map at the thresholds of the new clock
  shown : (e : ℕ) → e ≤ suc st.clock → suc st.clock ≤ e + 2 → (k : Name) (v : Value)
      → Shows st.slots e k v ↔ (jobs_at e st.start st.row k ≡ Some v)
  shown e lo hi k v = elim (dec_le e st.clock) [
    | yes a ↦ i.shown e a (omega arith) k v
    | no a ↦
        let q : e ≡ suc st.clock = omega arith in
        rw (q, jobs-agree st.clock (suc st.clock) st.start st.row (omega arith) i.late)
        (Iff-trans (new k v) (i.shown st.clock (omega arith) (omega arith) k v))
  ]

  -- the three thresholds move up by one
  pub tick-inv : Inv (ticked_state st g)
  tick-inv = record {
    clock-lo = omega (arith, i.clock-lo);
    uid-lo = i.uid-lo;
    one = λ s. rw (t.all s) (one s);
    two = dressed-two kept i.two;
    next = dressed-next kept i.next;
    underway = λ s. rest-underway;
    late = λ ch m. omega (arith, i.late ch m);
    shown = λ e lo hi k v. Iff-trans (dressed-shows kept e k v) (shown e lo hi k v);
  }
