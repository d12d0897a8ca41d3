-- The survivors of an image are those of the table whose persistent side it is, at the clock less 2.
use Rattle.std.specs.Prelude.{ℕ, ◌+◌, ◌≤◌, ◌<◌, ◌≡◌, true, false, List}
use Rattle.std.proofs.Math.Dec.{eqb}
use borrow.Author.Tests.{eqb-true, ltb-true, lt-ltb, eq-eqb, not-true}
use native.Mathlib.Omega.{arith}
use Rattle.std.proofs.Math.Decide.{dec_lt, dec_le}
use Rattle.search.specs.Bools.{never, refuted, and_left, and_right, and_both, not-is-true}
use Rattle.search.specs.Some.{some-none, none-some}
use Rattle.image.specs.Layout.{is_payload, header, contents, clock_of}
use Rattle.image.specs.Whole.{says-payload}
use Rattle.transient.specs.declared.sizes.Sizes.{Sizes}
use Rattle.transient.specs.Store.{Store}
use Rattle.survival.specs.Survivors.{kept, beats, survivor}
use Rattle.crash.specs.Slots.{Slot, Filled}
use Rattle.crash.specs.Steps.{Kept, Survives}
use Rattle.guarantee.specs.View.{view, view_in, view_out}
use Rattle.guarantee.specs.Says.{payload-of, kept-says, says-kept}

module _ (st : Store) (sz : Sizes) (c e : ℕ) (cut : e + 2 ≡ clock_of st.persistent) where
  abbrev slots : ℕ → Slot
  slots = view st sz c

  abbrev l : List ℕ
  l = st.persistent

  -- a slot with something in it is one of the image
  filled_in : (s : ℕ) → Filled (slots s).persistent → s < sz.n
  filled_in s f = elim (dec_lt s sz.n) [
    | yes h ↦ h
    | no h ↦ let q : 1 ≤ 0 = rw (view_out st sz c s (omega arith)) at f in absurd (omega arith)
  ]

  -- a kept header, in the table
  pub kept_at : (s : ℕ) → s < sz.n → kept (clock_of l) (header l s) ≡ true → Kept e (slots s).persistent
  kept_at s h k = rw (view_in st sz c s h) (kept-says (clock_of l) e (header l s) (contents l sz.n sz.w s) cut k)

  -- what wins in the table is beaten by no header of the image
  unbeaten : (s : ℕ) → s < sz.n → Survives e slots s → (m : ℕ) → m < sz.n → beats (clock_of l) (header l s) (header l m) ≡ false
  unfolding beats
  unbeaten s h v m b = refuted (beats (clock_of l) (header l s) (header l m)) (λ y.
      let x = kept (clock_of l) (header l m) in
      let u = eqb (header l m).uid (header l s).uid in
      let r = and_right x _ y in
      let top = rw (view_in st sz c s h, view_in st sz c m b) at (v.wins m (kept_at m b (and_left x _ y))) in
      let one-uid = eqb-true (header l m).uid (header l s).uid (and_left u _ r) in
      let late = ltb-true (header l s).epoch (header l m).epoch (and_right u _ r) in
      omega (arith, top one-uid))

  -- a survivor of the table is one of the image
  pub at-survives : (s : ℕ) → Survives e slots s → (s < sz.n) × (survivor l sz.n s ≡ true)
  unfolding survivor
  at-survives s v =
      let h = filled_in s v.kept.whole.kind-lo in
      let k = rw (view_in st sz c s h) at v.kept in
      let p = rw (view_in st sz c s h) at v.payload in
      let is-kept = says-kept (clock_of l) e (header l s) (contents l sz.n sz.w s) cut (omega arith) k in
      let alone = none-some (λ m. beats (clock_of l) (header l s) (header l m)) sz.n (unbeaten s h v) in
      (h, and_both (says-payload (header l s) (record { whole = k.whole; kind-hi = p })) (and_both is-kept (not-is-true alone)))

  module _ (kinds : (m : ℕ) → m < sz.n → (header l m).kind ≤ 3) where
    -- .. and a survivor of the image one of the table
    pub survives-at : (s : ℕ) → s < sz.n → survivor l sz.n s ≡ true → Survives e slots s
    unfolding survivor beats
    survives-at s h v =
        let is = view_in st sz c s h in
        let p = is_payload (header l s) in
        let k = kept (clock_of l) (header l s) in
        let won = and_right p _ v in
        let unbeaten = some-none (λ m. beats (clock_of l) (header l s) (header l m)) sz.n (not-true _ (and_right k _ won)) in
        record {
          kept = kept_at s h (and_left k _ won);
          payload = rw is (payload-of (header l s) (and_left p _ v)).1;
          wins = λ m x u.
              let b = filled_in m x.whole.kind-lo in
              let at = view_in st sz c m b in
              let x' = rw at at x in
              let u' = rw (at, is) at u in
              rw (at, is)
              (elim (dec_le (header l m).epoch (header l s).epoch) [
                | yes y ↦ y
                | no y ↦
                    let late : (header l s).epoch < (header l m).epoch = omega arith in
                    never _
                    (and_both (says-kept (clock_of l) e (header l m) (contents l sz.n sz.w m) cut (kinds m b) x') (and_both (eq-eqb _ _ u') (lt-ltb _ _ late)))
                    (unbeaten m b)
              ]);
        }
