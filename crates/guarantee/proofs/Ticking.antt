-- The last step of an advance: the clock goes on in both images, and the waiting list of c − 1 is emptied.
use Rattle.std.specs.Prelude.{◌≤◌, ℕ, suc, ◌+◌, ◌-◌, ◌<◌, ◌≡◌, false, List, Ok}
use Rattle.std.proofs.Common.{sym, ap, ◌∙◌, arith}
use Rattle.std.proofs.Math.Decide.{dec_lt}
use Rattle.image.specs.Layout.{is_filled}
use Rattle.image.specs.Line.{clock_line, store_line}
use Rattle.image.specs.Requires.{sized-after}
use Rattle.image.specs.Laws.{length-store, clock-same, word-past-clock, header-past-clock, contents-past-clock, name-contents}
use Rattle.transient.specs.declared.sizes.Sizes.{Sizes}
use Rattle.transient.specs.Layout.{note, next_uid_at, next_order_at, open_epoch, retired_in, is_waiting, set_place, emptied}
use Rattle.transient.specs.Store.{Store, store}
use Rattle.transient.specs.Requires.{Notes, notes-after}
use Rattle.index.specs.Indexed.{Indexed, indexed-same}
use Rattle.transient.specs.Laws.{SlotKept, place-long, place-opens, place-slots, place-index, place-uid, place-order, index-then, emptied-front, emptied-index, emptied-none, emptied-next, emptied-retired, phase-set, slot-set}
use Rattle.transient.specs.Lists.{waiting-again}
use Rattle.step.specs.Step.{Stepped, idle, ticking}
use Rattle.advance.specs.Advance.{noted}
use Rattle.advance.specs.Stages.{underway}
use Rattle.crash.specs.Reference.{Jobs}
use Rattle.crash.specs.Slots.{Swept, Flushed}
use Rattle.crash.specs.Steps.{ticked}
use Rattle.crash.proofs.Tick.{tick-inv}
use Rattle.guarantee.specs.Trace.{Plain, told_advance}
use Rattle.guarantee.specs.View.{view, view_in, view_out}
use Rattle.guarantee.proofs.Good.{Image, Good}
use Rattle.guarantee.proofs.Stepping.{flushed_to, progress-idle, Reached, Ready}

-- what a step owes: its store is good beside what the reference map makes of its reply
abbrev pub Owed : Sizes → Jobs → Plain → Stepped → Type 0
Owed sz start p z = Good sz start (noted z).store (told_advance (Ok z.reply) p)

-- the image at the next clock
clock-image : {sz : Sizes} {c : ℕ} {l : List ℕ} → Image sz c l → Image sz (suc c) (store_line l (clock_line (c + 1)))
clock-image {sz} {c} {l} i =
    let z : c + 1 ≡ suc c = omega arith in
    record {
      sized = sized-after (length-store l (clock_line (c + 1))) i.sized;
      slots-is = word-past-clock l (c + 1) 0 (λ q. omega arith) ∙ i.slots-is;
      width_is = word-past-clock l (c + 1) 1 (λ q. omega arith) ∙ i.width_is;
      clock-is = clock-same l (c + 1) (omega (arith, i.sized.long)) ∙ z;
    }

-- then no advance is underway
rest : {tr : List ℕ} {sz : Sizes} → Notes tr sz → underway (set_place tr idle 0) ≡ false
unfolding underway
rest z = rw (phase-set z idle 0)

module _ {sz : Sizes} {start : Jobs} {st : Store} {p : Plain} (y : Ready sz start st p) where
  abbrev c : ℕ
  c = p.clock

  abbrev list : List ℕ
  list = emptied st.transient (c - 1)

  abbrev notes' : List ℕ
  notes' = set_place list idle 0

  abbrev st' : Store
  st' = store (store_line st.working (clock_line (c + 1))) (store_line st.persistent (clock_line (c + 1))) notes'

  -- the place is no slot's
  placed : (m : ℕ) → SlotKept sz list notes' m
  placed = place-slots list sz idle 0

  -- the list of the next clock is empty
  now-empty : (s : ℕ) → s < sz.n → is_waiting notes' (suc c) s ≡ false
  now-empty s h =
      let z : c - 1 + 2 ≡ suc c = omega (arith, y.good.inv.clock-lo) in
      rw (← z) (waiting-again notes' (c - 1) s ∙ (placed s).waiting (c - 1) ∙ emptied-none y.good.notes (c - 1) s h)

  -- the list of c stays
  before-kept : (s : ℕ) → s < sz.n → is_waiting notes' (suc c + 1) s ≡ is_waiting st.transient c s
  before-kept s h =
      let z : suc c + 1 ≡ c + 2 = omega arith in
      let d : c - 1 + 1 ≡ c = omega (arith, y.good.inv.clock-lo) in
      rw z (waiting-again notes' c s ∙ (placed s).waiting c ∙ rw d at (emptied-next y.good.notes (c - 1) s h))

  retired-kept : (s : ℕ) → s < sz.n → retired_in sz notes' s ≡ retired_in sz st.transient s
  retired-kept s h = (placed s).retired ∙ emptied-retired y.good.notes (c - 1) s h

  open_kept : (thread : ℕ) → thread < sz.t → open_epoch notes' thread ≡ open_epoch st.transient thread
  open_kept u h = place-opens list sz idle 0 u ∙ (emptied-front st.transient sz (c - 1)).head.opens u h

  uid-same : note next_uid_at notes' ≡ note next_uid_at st.transient
  uid-same = place-uid list sz idle 0 ∙ (emptied-front st.transient sz (c - 1)).uid

  order_same : note next_order_at notes' ≡ note next_order_at st.transient
  order_same = place-order list sz idle 0 ∙ (emptied-front st.transient sz (c - 1)).order

  -- no slot's name is in the clock, nor in the list
  index_same : Indexed sz (store_line st.working (clock_line (c + 1))) notes'
  index_same =
      let wk = st.working in
      let wide : 1 ≤ sz.w = omega (arith, y.good.working.sized.sizes.width-lo) in
      indexed-same (index-then (emptied-index st.transient sz (c - 1)) (place-index list sz idle 0))
      (λ m h. ap is_filled (header-past-clock wk (c + 1) m))
      (λ m h. name-contents (store_line wk (clock_line (c + 1))) sz.n sz.w m wide
      ∙ (rw (header-past-clock wk (c + 1) m, contents-past-clock wk sz.n sz.w m (c + 1)) (sym (name-contents wk sz.n sz.w m wide))))
      y.good.index

  -- the table: the lists move on
  all : (s : ℕ) → view st' sz (suc c) s ≡ ticked (view st sz c s)
  all s = elim (dec_lt s sz.n) [
    | yes h ↦ rw (
      view_in st' sz (suc c) s h,
      view_in st sz c s h,
      header-past-clock st.working (c + 1) s,
      header-past-clock st.persistent (c + 1) s,
      contents-past-clock st.working sz.n sz.w s (c + 1),
      contents-past-clock st.persistent sz.n sz.w s (c + 1),
      retired-kept s h,
      now-empty s h,
      before-kept s h,
    )
    | no h ↦ rw (view_out st' sz (suc c) s (omega arith), view_out st sz c s (omega arith))
  ]

  module _ (i : Reached sz start st p (flushed_to sz.n sz.n)) where
    -- all is reclaimed and written back: below n by the place, from n on there is nothing
    swept : (s : ℕ) → Swept c (view st sz c s)
    swept s = elim (dec_lt s sz.n) [
      | yes h ↦ (i.underway s).swept h
      | no h ↦ rw (view_out st sz c s (omega arith)) (record { retired = λ q. absurd (omega arith); anti = λ q. absurd (omega arith) })
    ]

    flushed : (s : ℕ) → Flushed c (view st sz c s)
    flushed s = elim (dec_lt s sz.n) [
      | yes h ↦ (i.underway s).flushed h
      | no h ↦ rw (view_out st sz c s (omega arith)) (record { head = λ q. search; line = λ q. search; stray = λ q. search })
    ]

    pub tick-good : Owed sz start p (ticking sz st c)
    unfolding ticking
    tick-good =
        let g = y.good in
        let o = g.opens in
        let v : Notes list sz = notes-after (emptied-front st.transient sz (c - 1)).head.long g.notes in
        record {
          clock-hi = omega (arith, y.clock-top);
          working = clock-image g.working;
          persistent = clock-image g.persistent;
          notes = notes-after (place-long list sz idle 0) v;
          opens = record {
            same = λ u h. open_kept u h ∙ o.same u h;
            least = λ u h. rw (open_kept u h) (o.least u h);
            low = λ u h. rw (open_kept u h) (λ q. let d = y.quiet u h in omega (arith, o.low u h q));
            high = λ u h. rw (open_kept u h) (omega (arith, o.high u h));
            quiet = λ u h q. rest v;
          };
          past = record { ended-hi = λ e m. omega (arith, g.past.ended-hi e m); durable-hi = λ e m. omega (arith, g.past.durable-hi e m) };
          index = index_same;
          inv = rw (phase-set v idle 0, slot-set v idle 0, progress-idle sz.n 0, uid-same, order_same)
              (tick-inv i (record { swept = swept; flushed = flushed; all = all }));
          fifo = g.fifo;
        }
