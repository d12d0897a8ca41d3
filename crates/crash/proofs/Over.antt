-- A set or a delete of an older version, by a new UPDATE or DELETE, keeps the invariant: the old version is retired in its epoch.
use Rattle.std.specs.Prelude.{ℕ, ◌≤◌, ◌<◌, ◌≡◌, refl, ◌≢◌, ◌⊎◌, ◌↔◌, Option, Some}
use Rattle.std.proofs.Common.{sym, inl, inr, arith}
use Rattle.image.specs.declared.name.Name.{Name}
use Rattle.crash.specs.Table.{Any, every-put2, pairwise-put2, any-first, any-second, any-keep2, any-case2}
use Rattle.crash.proofs.Laws.{late-snoc, shown-step}
use Rattle.crash.specs.Slots.{Value, Entry, Slot, State, Visible, Sees, Shows, One, Underway, Two, Next, Inv}
use Rattle.crash.specs.Steps.{entry, filled, retiring, after, Successor, updates, removes, Over}
use Rattle.crash.proofs.OneSlot.{slotty}
use Rattle.crash.proofs.Versions.{current-newest, current-lone}
use Rattle.crash.proofs.Write.{own-unseen, Tells, tells-value, tells-nothing, Write, Behind, write-one, write-underway, write-tells, write_two}

-- the kind and what is left, of a set and of a delete
outcome-kind : {kind : ℕ} {v : Value} {u : Option Value} → Successor kind v u → (2 ≤ kind) × (kind ≤ 3)
outcome-kind (updates v) = omega arith
outcome-kind (removes v) = omega arith

successor-tells : {kind : ℕ} {v : Value} {u : Option Value} (e uid : ℕ) (k : Name) → Successor kind v u → Tells u (entry kind e uid k v)
successor-tells e uid k (updates v) = tells-value (omega arith) refl
successor-tells e uid k (removes v) = tells-nothing (λ p. omega arith) refl

module _ {kind e s r : ℕ} {v : Value} {u : Option Value} {now before : ℕ} {st : State} {g : ℕ → Slot} (i : Inv st)
    (t : Over kind e s r v u now before st g) where
  abbrev old : Slot
  old = st.slots r

  abbrev name : Name
  name = old.working.name

  abbrev x : Entry
  x = entry kind e old.working.uid name v

  abbrev new : Slot
  new = filled x now before (st.slots s)

  -- ---- the new version
  write : Write e s st.uid st.order name u x 0 now before st
  write =
      let one = i.one r in record {
        operation = t.of.operation;
        joins = t.joins;
        was = record { epoch-is = λ h. absurd (omega arith); name-is = λ h. absurd (omega arith) };
        own = record { epoch-is = λ _. refl; name-is = λ _. refl };
        proper = omega (arith, outcome-kind t.outcome, one.proper.uid-lo t.of.payload.0, one.proper.board-lo t.of.payload.0);
        named = one.named t.of.payload.0;
        uid-below = one.uid-below;
        order_below = λ _. one.order_below t.of.payload.0;
        not-retired = refl;
        tells = successor-tells e old.working.uid name t.outcome;
      }

  -- the other slots are behind it
  behind : (m : ℕ) → m ≢ r → Behind e name new (st.slots m)
  behind m h = record {
    newer = λ p q u. let a = current-newest i t.of m h p u in search (arith, outcome-kind t.outcome);
    lone = λ d l w. current-lone i t.of d m h (omega arith) w;
  }

  -- .. and so is the version that it retires
  behind-old : Behind e name new (retiring e old)
  behind-old = record {
    newer = λ p q u. search (arith, outcome-kind t.outcome);
    lone = λ d l w. absurd (omega slotty);
  }

  -- ---- the old version: only its retirement changes
  old-one : One st.clock st.uid st.order (retiring e old)
  old-one = let one = i.one r in search arith

  old-underway : Underway st.clock st.place r (retiring e old)
  old-underway = record {
    swept = λ h. omega arith;
    flushed = λ h. let w = (i.underway r).flushed h in search;
    half = (i.underway r).half;
  }

  old-two : (m : ℕ) → m ≢ r → Two (retiring e old) (st.slots m) × Two (st.slots m) (retiring e old)
  old-two m h = (
    record {
      kin = λ p q u l. absurd (omega (arith, current-newest i t.of m h q (sym u)));
      disjoint = λ d p q k. current-lone i t.of d m h p.begun q (sym k);
    },
    record {
      kin = λ p q u l. let a = current-newest i t.of m h p u in search;
      disjoint = λ d p q. current-lone i t.of d m h q.begun p;
    },
  )

  -- at epochs before e, and for other names, it shows what it showed
  old-sees : {d : ℕ} {j : Name} {w : Value} → (d < e) ⊎ (j ≢ name) → Sees d j w old ↔ Sees d j w (retiring e old)
  old-sees {d} (inl l) = (λ a. let p : Visible d (retiring e old) = omega slotty in search, λ a. let p : Visible d old = omega slotty in search)
  old-sees (inr l) = (λ a. absurd (l (sym a.name-is)), λ a. absurd (l (sym a.name-is)))

  -- ---- both
  -- other jobs, and all before e, are shown as they were
  quiet : (d : ℕ) (j : Name) (w : Value) → (d < e) ⊎ (j ≢ name) → Shows st.slots d j w ↔ Shows g d j w
  quiet d j w h = (
    any-keep2 t.put (λ q. absurd (own-unseen write.was h q)) (λ q. any-second t.put ((old-sees h).0 q)),
    any-case2 t.put (λ q. absurd (own-unseen write.own h q)) (λ q. record { at = r; holds = (old-sees h).1 q }) (λ m _ _ q. record { at = m; holds = q }),
  )

  -- from e on the job is shown as the row has it
  loud : (d : ℕ) → e ≤ d → (w : Value) → Shows g d name w ↔ (u ≡ Some w)
  loud d l w = (
    any-case2 t.put (write-tells i write d l w).0 (λ q. absurd (behind-old.lone d l q.visible q.name-is))
        (λ m _ h q. absurd ((behind m h).lone d l q.visible q.name-is)),
    λ q. any-first t.put ((write-tells i write d l w).1 q),
  )

  pub over-inv : Inv (after st g st.uid st.order e name u)
  over-inv =
      let a = write_two i write (retiring e old) behind-old in record {
        clock-lo = i.clock-lo;
        uid-lo = i.uid-lo;
        one = every-put2 t.put (λ s. One st.clock st.uid st.order) (write-one i write) old-one (λ m _ _. i.one m);
        two = pairwise-put2 t.put Two a.0 a.1
            (λ m _ h. let b = write_two i write (st.slots m) (behind m h) in (b.0, b.1, (old-two m h).0, (old-two m h).1)) i.two;
        next = every-put2 t.put (λ s a. 1 ≤ a.retired → Any (Next a.working.uid a.retired) g)
            (λ h. absurd (omega arith))
            (λ h. any-first t.put (search (arith, outcome-kind t.outcome)))
            (λ m _ _ h. any-keep2 t.put (λ w. absurd (omega arith)) (λ w. any-second t.put (search)) (i.next m h));
        underway = every-put2 t.put (Underway st.clock st.place) (write-underway i write) old-underway (λ m _ _. i.underway m);
        late = late-snoc st.clock st.row _ t.of.operation.epoch-hi i.late;
        shown = λ d lo hi. shown-step (Shows st.slots d) (Shows g d) st.start st.row _ d (i.shown d lo hi) (quiet d) (loud d);
      }
