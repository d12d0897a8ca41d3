-- The place of an advance moves on, the slots stay.
use Rattle.std.specs.Prelude.{ℕ, suc, ◌≡◌}
use Rattle.std.proofs.Common.{arith}
use Rattle.std.proofs.Math.Decide.{ℕ_discrete, dec_le}
use Rattle.crash.specs.Table.{Every}
use Rattle.crash.specs.Slots.{Place, State, SameHead, SameLine, Flushed, Underway, Inv}
use Rattle.crash.specs.Steps.{moved, Looks, Passes}
use Rattle.crash.proofs.OneSlot.{quiet-flushed}

-- what a change of the place owes
placed-inv : {st : State} {p : Place} → Inv st → Every (Underway st.clock p) st.slots → Inv (moved st st.slots p)
placed-inv i h = record {
  clock-lo = i.clock-lo;
  uid-lo = i.uid-lo;
  one = i.one;
  two = i.two;
  next = i.next;
  underway = h;
  late = i.late;
  shown = i.shown;
}

-- past slots where nothing is to be reclaimed
pub looks-inv : {st : State} (to : ℕ) → Inv st → Looks to st
    → Inv (moved st st.slots (record { looked = to; flushed = st.place.flushed; half = st.place.half }))
looks-inv {st} to i t = placed-inv i (λ s. record {
  swept = λ h. elim (dec_le st.place.looked s) [ yes a ↦ t.swept s a h | no a ↦ (i.underway s).swept (omega arith) ];
  flushed = (i.underway s).flushed;
  half = (i.underway s).half;
})

-- past slots that do not wait: they have no entry of c - 1
pub passes-inv : {st : State} (to : ℕ) → Inv st → Passes to st
    → Inv (moved st st.slots (record { looked = st.place.looked; flushed = to; half = 0 }))
passes-inv {st} to i t = placed-inv i (λ s. record {
  swept = (i.underway s).swept;
  flushed = λ h. elim (dec_le st.place.flushed s) [ yes a ↦ clean s (t.quiet s a h) | no a ↦ (i.underway s).flushed (omega arith) ];
  half = λ h. absurd (omega arith);
})
  where
    clean : (s : ℕ) → (st.slots s).before ≡ 0 → Flushed st.clock (st.slots s)
    clean s q = quiet-flushed (λ h. omega (arith, (i.one s).waits.in-before h)) (λ h. omega (arith, (i.one s).stray.in-before h))

-- the contents of the next slot are written back
pub half-inv : {st : State} → Inv st → SameLine (st.slots st.place.flushed).persistent (st.slots st.place.flushed).working
    → Inv (moved st st.slots (record { looked = st.place.looked; flushed = st.place.flushed; half = 1 }))
half-inv i same = placed-inv i (λ s. record {
  swept = (i.underway s).swept;
  flushed = (i.underway s).flushed;
  half = λ _ e _. rw e same;
})

-- .. and its header too
pub whole-inv : {st : State} → Inv st → st.place.half ≡ 1
    → SameHead (st.slots st.place.flushed).persistent (st.slots st.place.flushed).working
    → Inv (moved st st.slots (record { looked = st.place.looked; flushed = suc st.place.flushed; half = 0 }))
whole-inv {st} i is-half same = placed-inv i (λ s. record {
  swept = (i.underway s).swept;
  flushed = λ h. elim (ℕ_discrete s st.place.flushed) [
    | yes e ↦ record { head = λ _. rw e same; line = (i.underway s).half (omega arith) e; stray = λ _. rw e same }
    | no a ↦ (i.underway s).flushed (omega arith)
  ];
  half = λ h. absurd (omega arith);
})
