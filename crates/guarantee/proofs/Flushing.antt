-- Lines written back by advance: the contents and then the header of each slot that waits.
use Rattle.std.specs.Prelude.{ℕ, ◌+◌, ◌-◌, ◌≤◌, ◌<◌, ◌≡◌, Bool, false, ◌&&◌, List, leb, Option, Some, None}
use Rattle.std.proofs.Math.Path.{refl}
use Rattle.std.proofs.Common.{le-leb, arith}
use Rattle.search.specs.Bools.{never, refuted, and_both}
use Rattle.search.specs.First.{found_first, found_nothing, where_found}
use Rattle.image.specs.Layout.{header, contents}
use Rattle.image.specs.Line.{store_line}
use Rattle.image.specs.Requires.{held_header, held_contents, slot}
use Rattle.image.specs.Laws.{length-contents}
use Rattle.transient.specs.declared.sizes.Sizes.{Sizes}
use Rattle.transient.specs.Layout.{retired_in, is_waiting}
use Rattle.transient.specs.Store.{Store, store}
use Rattle.transient.specs.Lists.{waiting-again}
use Rattle.step.specs.Step.{ticking, header_next, contents_next, clock_next, contents_flushed, header_flushed, flush_from, passing}
use Rattle.step.specs.Stages.{waiting_from}
use Rattle.crash.specs.Table.{Put}
use Rattle.crash.specs.Reference.{Jobs}
use Rattle.crash.specs.Slots.{Slot, SameHead, SameLine}
use Rattle.crash.specs.Steps.{headed, stored}
use Rattle.crash.proofs.Lines.{head-inv, line-inv}
use Rattle.crash.proofs.Places.{passes-inv, half-inv, whole-inv}
use Rattle.guarantee.specs.Trace.{Plain}
use Rattle.guarantee.specs.View.{view, view_in}
use Rattle.guarantee.proofs.Good.{Image, Good}
use Rattle.guarantee.proofs.Images.{Wrote, wrote-image, header-wrote, contents-wrote, unwrote}
use Rattle.guarantee.proofs.Frame.{flag_off}
use Rattle.guarantee.proofs.Stepping.{flushed_to, half_at, progress-header, passing-flushed, Noted, noted-place, step-put, Reached, Ready, went-good}
use Rattle.guarantee.proofs.Ticking.{Owed, tick-good}

-- ---- a line of slot s
module _ {sz : Sizes} {start : Jobs} {st : Store} {p : Plain} (g : Good sz start st p) {s : ℕ} (k : s < sz.n) where
  abbrev x : Slot
  x = view st sz p.clock s

  abbrev line : List ℕ
  line = store_line st.persistent (held_contents st.working sz.n sz.w s)

  abbrev head : List ℕ
  head = store_line st.persistent (held_header st.working s)

  line_wrote : Wrote st.persistent line sz s (header st.persistent s) (contents st.working sz.n sz.w s)
  line_wrote = contents-wrote g.persistent.sized k (contents st.working sz.n sz.w s) (length-contents (slot g.working.sized k))

  head-wrote : Wrote st.persistent head sz s (header st.working s) (contents st.persistent sz.n sz.w s)
  head-wrote = header-wrote g.persistent.sized k (header st.working s)

  line-image : Image sz p.clock line
  line-image = wrote-image line_wrote g.persistent

  head-image : Image sz p.clock head
  head-image = wrote-image head-wrote g.persistent

  -- the table after it
  module _ (tr : List ℕ) (z : Noted sz st.transient tr s (retired_in sz st.transient s)) where
    abbrev lined : ℕ → Slot
    lined = view (store st.working line tr) sz p.clock

    abbrev headered : ℕ → Slot
    headered = view (store st.working head tr) sz p.clock

    line-put : Put (view st sz p.clock) lined s (stored (headed x.persistent x.working) x)
    line-put = rw (view_in st sz p.clock s k) (step-put st (store st.working line tr) sz p.clock s _ unwrote line_wrote z k)

    head-put : Put (view st sz p.clock) headered s (stored (headed x.working x.persistent) x)
    head-put = rw (view_in st sz p.clock s k) (step-put st (store st.working head tr) sz p.clock s _ unwrote head-wrote z k)

    -- both images have the line
    line_same : SameLine (lined s).persistent (lined s).working
    line_same = rw line-put.here (record { key-is = refl; value-is = refl })

    head-same : SameHead (headered s).persistent (headered s).working
    head-same = rw head-put.here (record { kind-is = refl; epoch-is = refl; uid-is = refl; board-is = refl })

-- ---- by advance
module _ {sz : Sizes} {start : Jobs} {st : Store} {p : Plain} (y : Ready sz start st p) where
  abbrev c : ℕ
  c = p.clock

  abbrev tr : List ℕ
  tr = st.transient

  abbrev waits : ℕ → ℕ → Bool
  waits q m = leb q m && is_waiting tr (c - 1) m

  -- a slot that is passed does not wait
  quiet : (q m : ℕ) → q ≤ m → waits q m ≡ false → m < sz.n → (view st sz c m).before ≡ 0
  quiet q m a f h =
      let z : c - 1 + 2 ≡ c + 1 = omega (arith, y.good.inv.clock-lo) in
      let off : is_waiting tr (c - 1) m ≡ false = refuted _ (λ e. never _ (and_both (le-leb q m a) e) f) in
      rw (view_in st sz c m h, ← z, waiting-again tr (c - 1) m) (flag_off off)

  -- the contents of the next slot that waits, or the clock
  pub flush-good : (q : ℕ) → Reached sz start st p (flushed_to sz.n q) → Owed sz start p (flush_from sz st c q)
  unfolding flush_from waiting_from contents_flushed
  flush-good q i = go (waiting_from sz tr c q) refl
    where
      go : (f : Option ℕ) → waiting_from sz tr c q ≡ f → Owed sz start p (where_found f (contents_flushed sz st) (ticking sz st c))
      go (Some s) e =
          let f = found_first (waits q) sz.n e in
          let k = f.below in
          let z = noted-place sz tr s header_next s in
          let passed = passes-inv s i (record { quiet = λ m a b. quiet q m a (f.before m b) (omega arith) }) in
          went-good y tr header_next s y.good.working (line-image y.good k) z y.good.index (progress-header sz.n s)
          (half-inv (line-inv passed (record { put = line-put y.good k _ z })) (line_same y.good k _ z))
      go None e = tick-good y (passes-inv sz.n i (record { quiet = λ m a b. quiet q m a (found_nothing (waits q) sz.n e m b) b }))

  -- the header of the slot whose contents are written
  pub head-good : (s : ℕ) → s < sz.n → Reached sz start st p (half_at sz.n s)
      → Owed sz start p (header_flushed sz st s)
  unfolding header_flushed
  head-good s k i =
      let to = passing sz.n s contents_next clock_next in
      let z = noted-place sz tr s to.phase to.slot in
      went-good y tr to.phase to.slot y.good.working (head-image y.good k) z y.good.index (passing-flushed sz.n s k)
      (whole-inv (head-inv i (record { put = head-put y.good k _ z })) refl (head-same y.good k _ z))
