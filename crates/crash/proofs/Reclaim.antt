-- A slot that advance frees in both images keeps the invariant.
use Rattle.std.specs.Prelude.{ℕ, ◌+◌, ◌≤◌}
use Rattle.std.proofs.Common.{inl, inr, arith}
use Rattle.crash.specs.Table.{Any, every-put, pairwise-put, any-keep, any-case}
use Rattle.crash.specs.Slots.{Slot, State, Visible, One, Underway, Two, Next, Inv}
use Rattle.crash.specs.Steps.{moved, Reclaim}
use Rattle.crash.proofs.OneSlot.{slotty, old-waits, quiet-flushed}

module _ {s : ℕ} {st : State} {g : ℕ → Slot} (i : Inv st) (t : Reclaim s st g) where
  -- it is the next version of no slot: that would be retired before c - 2
  last : (n : ℕ) → 1 ≤ (st.slots n).retired → ¬ Next (st.slots n).working.uid (st.slots n).retired (st.slots s)
  last n h w = elim t.due [
    | inl a ↦ omega (arith, (i.one n).retired-lo h, (i.one s).retired-of a.0)
    | inr a ↦ omega (arith, (i.one n).retired-lo h)
  ]

  -- it is visible at no threshold from c - 2 on
  hidden : (e : ℕ) → st.clock ≤ e + 2 → ¬ Visible e (st.slots s)
  hidden e h w = elim t.due [ inl a ↦ omega slotty | inr a ↦ omega arith ]

  -- the freed slot has nothing to keep, the others lose nothing
  pub reclaim-inv : Inv (moved st g st.place)
  reclaim-inv = record {
    clock-lo = i.clock-lo;
    uid-lo = i.uid-lo;
    one = every-put t.put (λ m. One st.clock st.uid st.order) (record {
      proper = omega arith;
      uid-below = i.uid-lo;
      order_below = λ h. absurd (omega arith);
      named = λ h. absurd (omega arith);
      retired-hi = omega arith;
      retired-lo = λ h. absurd (omega arith);
      retired-of = λ h. absurd (omega arith);
      anti-lo = λ h. absurd (omega arith);
      settled-head = λ h. absurd (omega arith);
      settled-line = λ h. absurd (omega arith);
      copied = λ h. absurd (omega arith);
      waits = old-waits i.clock-lo;
      stray = old-waits i.clock-lo;
      worded = record { kind-hi = omega arith; epoch-lo = λ h. absurd (omega arith); epoch-hi = omega arith; uid-hi = omega arith; board-hi = omega arith };
    }) (λ m _. i.one m);
    two = pairwise-put t.put Two (λ m q. (
      record { kin = λ a b u l. absurd (omega arith); disjoint = λ e a b k. omega arith },
      record { kin = λ a b u l. absurd (omega arith); disjoint = λ e a b k. omega arith },
    )) i.two;
    next = every-put t.put (λ m a. 1 ≤ a.retired → Any (Next a.working.uid a.retired) g) (λ h. absurd (omega arith))
        (λ m _ h. any-keep t.put (λ w. absurd (last m h w)) (i.next m h));
    underway = every-put t.put (Underway st.clock st.place) (record {
      swept = λ _. record { retired = λ h. absurd (omega arith); anti = λ h. absurd (omega arith) };
      flushed = λ _. quiet-flushed (λ h. omega (arith, i.clock-lo)) (λ h. omega (arith, i.clock-lo));
      half = λ _ _ h. absurd (omega (arith, i.clock-lo));
    }) (λ m _. i.underway m);
    late = i.late;
    shown = λ e lo hi k v. (
      λ a. (i.shown e lo hi k v).0 (any-case t.put (λ w. absurd (omega arith)) (λ m _ w. record { at = m; holds = w }) a),
      λ q. any-keep t.put (λ w. absurd (hidden e hi w.visible)) ((i.shown e lo hi k v).1 q),
    );
  }
