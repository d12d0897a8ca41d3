-- The first steps of an advance: each payload retired in c − 2 and each DELETE of c − 3 becomes free in both images.
use Rattle.std.specs.Prelude.{ℕ, ◌+◌, ◌≤◌, ◌<◌, ◌≡◌, Bool, true, false, ◌&&◌, ◌||◌, ◌⊎◌, List, leb, Option, Some, None}
use Rattle.std.proofs.Math.Path.{refl}
use Rattle.std.proofs.Math.Bool.{not}
use Rattle.std.proofs.Math.Logic.{inl, inr, ⊎_elim}
use Rattle.std.proofs.Math.Dec.{eqb}
use borrow.Author.Tests.{eqb-true, eqb-false, eq-eqb, ne_eqb, le-leb, not-true}
use native.Mathlib.Omega.{arith}
use Rattle.std.proofs.Math.Decide.{dec_lt}
use Rattle.search.specs.Bools.{never, refuted, not-is-true, and_left, and_right, and_both, or_left, or_right}
use Rattle.search.specs.First.{found_first, found_nothing, where_found}
use Rattle.image.specs.declared.header.Header.{Header}
use Rattle.image.specs.Layout.{has_zero, is_filled, is_payload, header, contents, free_header}
use Rattle.image.specs.Line.{header_line, store_line}
use Rattle.image.specs.Whole.{says-whole, filled-says}
use Rattle.image.specs.Name.{name_at}
use Rattle.transient.specs.declared.sizes.Sizes.{Sizes}
use Rattle.transient.specs.Layout.{retired_in, set_retired, set_place}
use Rattle.transient.specs.Store.{Store, Table, store, table_of}
use Rattle.index.specs.Index.{removed}
use Rattle.step.specs.Step.{flush_from, reclaim_next, contents_next, due, reclaimed, reclaim_from, passing}
use Rattle.step.specs.Stages.{due_from}
use Rattle.crash.specs.Table.{Put}
use Rattle.crash.specs.Reference.{Jobs}
use Rattle.crash.specs.Slots.{Slot, Swept}
use Rattle.crash.specs.Steps.{moved, Reclaim}
use Rattle.crash.specs.Steps as steps
use Rattle.crash.proofs.Reclaim.{reclaim-inv}
use Rattle.crash.proofs.Places.{looks-inv}
use Rattle.guarantee.specs.Trace.{Plain}
use Rattle.guarantee.specs.View.{view, view_in}
use Rattle.guarantee.proofs.Good.{state_of, Good}
use Rattle.guarantee.proofs.Indexing.{freed-unfilled, reclaimed-indexed}
use Rattle.guarantee.proofs.Images.{Wrote, wrote-image, header-wrote}
use Rattle.guarantee.proofs.Lookups.{filled_at, payload-at}
use Rattle.guarantee.proofs.Stepping.{looked_to, passing-looked, Noted, noted-cleared, step-put, Reached, Ready, went-good}
use Rattle.guarantee.proofs.Ticking.{Owed}
use Rattle.guarantee.proofs.Flushing.{flush-good}

or-either : (a b : Bool) → a || b ≡ true → (a ≡ true) ⊎ (b ≡ true)
or-either true b h = inl refl
or-either false b h = inr h

-- ---- the test
module _ (sz : Sizes) (tb : Table) (c s : ℕ) where
  abbrev r : ℕ
  r = retired_in sz tb.transient s

  abbrev h : Header
  h = header tb.working s

  due-says : due sz tb c s ≡ true → ((1 ≤ r) × (r + 2 ≡ c)) ⊎ ((h.kind ≡ 3) × (h.epoch + 3 ≡ c))
  unfolding due
  due-says d =
      ⊎_elim
      (λ (a : is_payload h && (not (eqb r 0) && eqb (r + 2) c) ≡ true).
      let b = and_right (is_payload h) _ a in
      let z = eqb-false r 0 (not-true _ (and_left (not (eqb r 0)) _ b)) in
      inl (omega arith, eqb-true (r + 2) c (and_right (not (eqb r 0)) _ b)))
      (λ (a : not (has_zero h) && (eqb h.kind 3 && eqb (h.epoch + 3) c) ≡ true).
      let b = and_right (not (has_zero h)) _ a in
      inr (eqb-true h.kind 3 (and_left (eqb h.kind 3) _ b), eqb-true (h.epoch + 3) c (and_right (eqb h.kind 3) _ b)))
      (or-either (is_payload h && (not (eqb r 0) && eqb (r + 2) c)) _ d)

  spared-retired : due sz tb c s ≡ false → is_payload h ≡ true → 1 ≤ r → r + 2 ≡ c → ⊥
  unfolding due
  spared-retired d a b q =
      never _ (and_both a (and_both (not-is-true (ne_eqb r 0 (λ z. omega arith))) (eq-eqb (r + 2) c q)))
      (or_left (is_payload h && (not (eqb r 0) && eqb (r + 2) c)) _ d)

  spared-anti : due sz tb c s ≡ false → is_filled h ≡ true → h.kind ≡ 3 → h.epoch + 3 ≡ c → ⊥
  unfolding due
  spared-anti d f a q =
      never _ (and_both (not-is-true (says-whole h (filled-says h f).whole)) (and_both (eq-eqb h.kind 3 a) (eq-eqb (h.epoch + 3) c q)))
      (or_right (is_payload h && (not (eqb r 0) && eqb (r + 2) c)) _ d)

-- ---- the step
module _ {sz : Sizes} {start : Jobs} {st : Store} {p : Plain} (y : Ready sz start st p) where
  abbrev c : ℕ
  c = p.clock

  abbrev slots : ℕ → Slot
  slots = view st sz c

  abbrev dues : ℕ → ℕ → Bool
  dues q m = leb q m && due sz (table_of st) c m

  -- a slot that is passed has nothing to reclaim
  spared : (q s : ℕ) → q ≤ s → dues q s ≡ false → s < sz.n → Swept c (slots s)
  spared q s a f h =
      let off : due sz (table_of st) c s ≡ false = refuted _ (λ d. never _ (and_both (le-leb q s a) d) f) in
      let o = rw (view_in st sz c s h) at (y.good.inv.one s) in
      rw (view_in st sz c s h) (record {
        retired = λ b. elim (dec_lt c (retired_in sz st.transient s + 2)) [
          | yes z ↦ z
          | no z ↦
              absurd (spared-retired sz (table_of st) c s off (payload-at y.good s h (o.retired-of b).0) b (omega (arith, o.retired-lo b)))
        ];
        anti = λ b. elim (dec_lt c ((header st.working s).epoch + 3)) [
          | yes z ↦ z
          | no z ↦ absurd (spared-anti sz (table_of st) c s off (filled_at y.good s h (omega arith)) b (omega (arith, o.anti-lo b)))
        ];
      })

  -- the slot that is due becomes free
  module _ (s : ℕ) (h : s < sz.n) where
    abbrev phase : ℕ
    phase = (passing sz.n s reclaim_next contents_next).phase

    abbrev slot : ℕ
    slot = (passing sz.n s reclaim_next contents_next).slot

    abbrev wk : List ℕ
    wk = store_line st.working (header_line s free_header)

    abbrev l : List ℕ
    l = store_line st.persistent (header_line s free_header)

    abbrev tr : List ℕ
    tr = removed sz (set_retired sz st.transient s 0) (name_at st.working sz.n sz.w s) s

    abbrev st' : Store
    st' = store wk l (set_place tr phase slot)

    working-freed : Wrote st.working wk sz s free_header (contents st.working sz.n sz.w s)
    working-freed = header-wrote y.good.working.sized h free_header

    persistent-freed : Wrote st.persistent l sz s free_header (contents st.persistent sz.n sz.w s)
    persistent-freed = header-wrote y.good.persistent.sized h free_header

    notes-freed : Noted sz st.transient st'.transient s 0
    notes-freed = noted-cleared y.good.notes s phase slot (name_at st.working sz.n sz.w s) h

    freed-put : Put slots (view st' sz c) s (steps.reclaimed (slots s))
    freed-put = rw (view_in st sz c s h) (step-put st st' sz c s 0 working-freed persistent-freed notes-freed h)

    freed-swept : (m : ℕ) → s ≤ m → m < s + 1 → Swept c (view st' sz c m)
    freed-swept m a b =
        let z : m ≡ s = omega arith in
        rw (z, freed-put.here) (record { retired = λ q. absurd (omega arith); anti = λ q. absurd (omega arith) })

    -- a slot that is due is filled
    due-filled : due sz (table_of st) c s ≡ true → is_filled (header st.working s) ≡ true
    due-filled d =
        let o = rw (view_in st sz c s h) at (y.good.inv.one s) in
        ⊎_elim
        (λ b. filled_at y.good s h (o.retired-of b.0).0.0)
        (λ b. filled_at y.good s h (omega (arith, b.0)))
        (due-says sz (table_of st) c s d)

    freed-good : due sz (table_of st) c s ≡ true → Reached sz start st p (looked_to s) → Good sz start st' p
    freed-good d i =
        let x : Reclaim s (moved (state_of sz start st p) slots (looked_to s)) (view st' sz c) =
        record { due = rw (view_in st sz c s h) (due-says sz (table_of st) c s d); put = freed-put } in
        went-good y tr phase slot (wrote-image working-freed y.good.working) (wrote-image persistent-freed y.good.persistent) notes-freed
        (reclaimed-indexed working-freed (omega (arith, y.good.working.sized.sizes.width-lo)) h y.good.index y.good.notes _ (due-filled d) refl freed-unfilled)
        (passing-looked sz.n s h) (looks-inv (s + 1) (reclaim-inv i x) (record { swept = freed-swept }))

  -- the next slot that is due, or the first that waits, or the clock
  pub reclaim-good : (q : ℕ) → Reached sz start st p (looked_to q)
      → Owed sz start p (reclaim_from sz st c q)
  unfolding reclaim_from due_from reclaimed
  reclaim-good q i = go (due_from sz (table_of st) c q) refl
    where
      go : (f : Option ℕ) → due_from sz (table_of st) c q ≡ f
          → Owed sz start p (where_found f (reclaimed sz st) (flush_from sz st c 0))
      go (Some s) d =
          let f = found_first (dues q) sz.n d in
          let k = f.below in
          freed-good s k (and_right (leb q s) _ f.passes) (looks-inv s i (record { swept = λ m a b. spared q m a (f.before m b) (omega arith) }))
      go None d = flush-good y 0 (looks-inv sz.n i (record { swept = λ m a b. spared q m a (found_nothing (dues q) sz.n d m b) b }))
