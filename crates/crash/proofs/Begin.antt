-- A start has the invariant.
use Rattle.std.specs.Prelude.{ℕ, ◌+◌, ◌≤◌, ◌≡◌, refl, []}
use Rattle.std.proofs.Math.Logic.Iff.{trans as Iff-trans}
use mathlib.Core.List.Memᴰ
use Rattle.std.proofs.Common.{arith}
use Rattle.image.specs.declared.name.Name.{Name}
use Rattle.crash.specs.Reference.{Jobs, jobs_at}
use Rattle.crash.specs.Slots.{Value, State, Visible, Shows, One, Inv}
use Rattle.crash.specs.Steps.{Start}
use Rattle.crash.proofs.OneSlot.{slotty, proper-worded, old-waits, rest-underway}

-- with no change the jobs are those of the start
no_change : (e : ℕ) (start : Jobs) → jobs_at e start [] ≡ start
unfolding jobs_at
no_change e start = refl

module _ {st : State} (t : Start st) where
  -- what is said of one slot
  one : (s : ℕ) → One st.clock st.uid st.order (st.slots s)
  one s =
      let a = t.settled s in
      let h = a.same_head in
      record {
        proper = a.proper;
        uid-below = a.uid-below;
        order_below = a.order_below;
        named = a.named;
        retired-hi = omega arith;
        retired-lo = λ h. absurd (omega arith);
        retired-of = λ h. absurd (omega arith);
        anti-lo = λ k. absurd (omega arith);
        settled-head = λ _ _. a.same_head;
        settled-line = λ _ _. a.same_line;
        copied = λ _ _. a.same_head;
        waits = old-waits a.old;
        stray = old-waits (omega arith);
        worded = proper-worded h a.proper;
      }

  -- at every threshold from c - 2 on the same is visible
  alike : (d e : ℕ) → st.clock ≤ e + 2 → (k : Name) (v : Value) → Shows st.slots d k v → Shows st.slots e k v
  alike d e h k v a =
      let o = t.settled a.at in
      let w = a.holds in
      let x : Visible e (st.slots a.at) = omega slotty in
      record { at = a.at; holds = search }

  -- all is settled, nothing is retired, the row is empty
  pub start-inv : Inv st
  start-inv = record {
    clock-lo = t.clock-lo;
    uid-lo = t.uid-lo;
    one = one;
    two = λ m n q. record {
      kin = λ a b u _. absurd ((t.apart m n q).uids a b u);
      disjoint = λ _ a b. (t.apart m n q).names a.payload.0 b.payload.0;
    };
    next = λ s h. absurd (omega (arith, (t.settled s).not-retired));
    underway = λ s. rw t.rest rest-underway;
    late = rw t.empty (λ ch m. absurd (Memᴰ.not-nil m));
    shown = λ e lo hi k v.
        rw (t.empty, no_change e st.start) (Iff-trans (alike e st.clock (omega arith) k v, alike st.clock e hi k v) (t.jobs k v));
  }
