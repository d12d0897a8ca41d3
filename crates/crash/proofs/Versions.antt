-- The slots of one uid: one is the older of two, and a current payload is the newest.
use Rattle.std.specs.Prelude.{ℕ, ◌≤◌, ◌≡◌, ◌≢◌, ◌⊎◌}
use Rattle.std.proofs.Common.{sym, inl, inr, arith}
use Rattle.std.proofs.Math.Decide.{ℕ_discrete, dec_le}
use Rattle.image.specs.Name.{name-same}
use Rattle.crash.specs.Table.{Pairwise}
use Rattle.crash.specs.Slots.{Slot, State, Filled, Visible, Kin, Two, Inv}
use Rattle.crash.specs.Steps.{Current}

-- of two slots of one uid one is the older
pub kin-cases : {f : ℕ → Slot} → Pairwise Two f → (m n : ℕ) → m ≢ n → Filled (f m).working → Filled (f n).working
    → (f m).working.uid ≡ (f n).working.uid → Kin (f m) (f n) ⊎ Kin (f n) (f m)
kin-cases {f} two m n h p q u = elim (dec_le (f m).working.epoch (f n).working.epoch) [
  | yes l ↦ inl ((two m n h).kin p q u l)
  | no l ↦ inr ((two n m (λ e. h (sym e))).kin q p (sym u) (omega arith))
]

module _ {st : State} (i : Inv st) where
  -- slots of one uid have one name, also where the two are one slot
  pub uid-name : (m n : ℕ) → Filled (st.slots m).working → Filled (st.slots n).working
      → (st.slots m).working.uid ≡ (st.slots n).working.uid → (st.slots m).working.name ≡ (st.slots n).working.name
  uid-name m n p q u = elim (ℕ_discrete m n) [
    | yes e ↦ cc
    | no h ↦ elim (kin-cases i.two m n h p q u) [ inl a ↦ a.name-same | inr a ↦ sym a.name-same ]
  ]

  module _ {e r : ℕ} (of : Current e r st) where
    -- of a current payload every other filled slot of its uid is older
    pub current-newest : (m : ℕ) → m ≢ r → Filled (st.slots m).working → (st.slots m).working.uid ≡ (st.slots r).working.uid
        → Kin (st.slots m) (st.slots r)
    current-newest m h p u = elim (kin-cases i.two m r h p of.payload.0 u) [ inl a ↦ a | inr a ↦ absurd (omega arith) ]

    -- while a current payload is visible, no other slot shows its name
    pub current-lone : (d m : ℕ) → m ≢ r → (st.slots r).working.epoch ≤ d → Visible d (st.slots m)
        → (st.slots m).working.name ≢ (st.slots r).working.name
    current-lone d m h l w = (i.two m r h).disjoint d w (record { payload = of.payload; begun = l; live = inl of.current })
