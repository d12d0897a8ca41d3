-- A cut: what recovery makes of the persistent entries, in terms of what was visible at the clock less 2.
use Rattle.std.specs.Prelude.{ℕ, ◌+◌, ◌≤◌, ◌≡◌, ◌≢◌, ◌⊎◌, ◌↔◌, Some}
use Rattle.std.proofs.Common.{sym, ◌∙◌, inl, inr, arith}
use Rattle.std.proofs.Math.Logic.Iff.{trans as Iff-trans}
use Rattle.std.proofs.Math.Decide.{ℕ_discrete, dec_le}
use Rattle.image.specs.declared.name.Name.{Name}
use Rattle.image.specs.Name.{Named}
use Rattle.crash.specs.Reference.{jobs_at}
use Rattle.crash.specs.Slots.{Value, State, Filled, SameHead, SameLine, Live, Visible, Shows, Kin, Inv}
use Rattle.crash.specs.Steps.{Kept, Survives}
use Rattle.crash.specs.Cut.{CutAt, CutShows}
use Rattle.crash.proofs.OneSlot.{slotty, proper-whole, same-named}
use Rattle.crash.proofs.Versions.{kin-cases}

module _ {st : State} (i : Inv st) {e : ℕ} (c : CutAt e st) where
  -- a kept header is that of the working side
  pub cut-head : (s : ℕ) → Kept e (st.slots s).persistent → SameHead (st.slots s).persistent (st.slots s).working
  cut-head s h = (i.one s).copied h.whole.epoch-lo (omega arith)

  -- .. and what is old enough on the working side is kept
  settled : (s : ℕ) → Filled (st.slots s).working → (st.slots s).working.epoch ≤ e → Kept e (st.slots s).persistent
  settled s f l =
      let q = (i.one s).settled-head f (omega arith) in
      let w = proper-whole (i.one s).proper f in
      record { whole = record { kind-lo = omega arith; epoch-lo = omega arith; uid-lo = omega arith; board-lo = omega arith }; old = omega arith }

  -- .. and what is kept is old on the working side
  working : (s : ℕ) → Kept e (st.slots s).persistent → Filled (st.slots s).working × ((st.slots s).working.epoch ≤ e)
  working s h = let q = cut-head s h in (omega arith, omega arith)

  -- of a uid's kept versions one is the older
  kept-cases : (m n : ℕ) → m ≢ n → Kept e (st.slots m).persistent → Kept e (st.slots n).persistent
      → (st.slots m).persistent.uid ≡ (st.slots n).persistent.uid → Kin (st.slots m) (st.slots n) ⊎ Kin (st.slots n) (st.slots m)
  kept-cases m n d p q u =
      let a = cut-head m p in
      let b = cut-head n q in
      kin-cases i.two m n d (working m p).0 (working n q).0 (omega arith)

  -- what is visible at e is kept
  visible-kept : (s : ℕ) → Visible e (st.slots s) → Kept e (st.slots s).persistent
  visible-kept s w = settled s w.payload.0 w.begun

  -- a survivor is not retired up to e: the next version would win
  lives : (s : ℕ) → Survives e st.slots s → Live e (st.slots s).retired
  lives s h = elim (ℕ_discrete (st.slots s).retired 0) [
    | yes z ↦ inl z
    | no z ↦ elim (dec_le (st.slots s).retired e) [
      | no l ↦ inr (omega arith)
      | yes l ↦
          let r : 1 ≤ (st.slots s).retired = omega arith in
          let a = i.next s r in
          let b = a.holds in
          let k = settled a.at b.filled (omega arith) in
          let p = cut-head s h.kept in
          let q = cut-head a.at k in
          absurd (omega (arith, (i.one s).retired-of r, h.wins a.at k (omega arith)))
    ]
  ]

  -- what is visible at e wins
  wins : (s : ℕ) → Visible e (st.slots s) → (m : ℕ) → Kept e (st.slots m).persistent → (st.slots m).persistent.uid ≡ (st.slots s).persistent.uid
      → (st.slots m).persistent.epoch ≤ (st.slots s).persistent.epoch
  wins s w m h u =
      let k = visible-kept s w in
      let p = cut-head s k in
      let q = cut-head m h in
      elim (ℕ_discrete m s) [
        | yes d ↦ rw d (omega arith)
        | no d ↦ elim (kept-cases m s d h k u) [ inl a ↦ omega arith | inr a ↦ absurd (omega slotty) ]
      ]

  -- what survives is what is visible at e
  pub cut-survives : (s : ℕ) → Survives e st.slots s ↔ Visible e (st.slots s)
  cut-survives s = (
    λ h. let q = cut-head s h.kept in record { payload = omega arith; begun = omega arith; live = lives s h },
    λ w. let k = visible-kept s w in
        let q = cut-head s k in
        record { kept = k; payload = omega arith; wins = wins s w },
  )

  -- a survivor's contents are those of the working side
  pub cut_line : (s : ℕ) → Survives e st.slots s → SameLine (st.slots s).persistent (st.slots s).working
  cut_line s h = let k = working s h.kept in (i.one s).settled-line k.0 (omega arith)

  -- .. and so is its name
  cut-name : (s : ℕ) → Survives e st.slots s → (st.slots s).persistent.name ≡ (st.slots s).working.name
  cut-name s h = same-named (cut-head s h.kept) (cut_line s h)

  -- kept versions of one uid have different epochs
  pub cut-versions : (m n : ℕ) → m ≢ n → Kept e (st.slots m).persistent → Kept e (st.slots n).persistent
      → (st.slots m).persistent.uid ≡ (st.slots n).persistent.uid → (st.slots m).persistent.epoch ≢ (st.slots n).persistent.epoch
  cut-versions m n d p q u l =
      let a = cut-head m p in
      let b = cut-head n q in
      elim (kept-cases m n d p q u) [ inl k ↦ omega arith | inr k ↦ omega arith ]

  -- two survivors have two names
  pub cut-names : (m n : ℕ) → m ≢ n → Survives e st.slots m → Survives e st.slots n → (st.slots m).persistent.name ≢ (st.slots n).persistent.name
  cut-names m n d p q k =
      (i.two m n d).disjoint e ((cut-survives m).0 p) ((cut-survives n).0 q) (sym (cut-name m p) ∙ k ∙ cut-name n q)

  -- a survivor has a name
  pub cut-named : (s : ℕ) → Survives e st.slots s → Named (st.slots s).persistent.name
  cut-named s h = rw (cut-name s h) ((i.one s).named (working s h.kept).0)

  -- the survivors' names and values are what is shown at e
  holds : (k : Name) (v : Value) → CutShows e st.slots k v ↔ Shows st.slots e k v
  holds k v = (
    λ a. let q = cut_line a.at a.survives in
        let w = (cut-survives a.at).0 a.survives in
        record { at = a.at; holds = record { visible = w; name-is = sym (cut-name a.at a.survives) ∙ a.name-is; value-is = sym q.value-is ∙ a.value-is } },
    λ a. let h = (cut-survives a.at).1 a.holds.visible in
        let q = cut_line a.at h in
        record { at = a.at; survives = h; name-is = cut-name a.at h ∙ a.holds.name-is; value-is = q.value-is ∙ a.holds.value-is },
  )

  -- .. and those of the reference map at e
  pub cut-jobs : (k : Name) (v : Value) → CutShows e st.slots k v ↔ (jobs_at e st.start st.row k ≡ Some v)
  cut-jobs k v = Iff-trans (holds k v) (i.shown e (omega arith) (omega arith) k v)
