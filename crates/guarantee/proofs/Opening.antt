-- Begin and end keep the invariant: they change one thread's open epoch, which no slot sees.
use Rattle.std.specs.Prelude.{ℕ, ◌+◌, ◌≤◌, ◌<◌, not, cond, ◌≢◌, leb, eqb, ◌≡◌}
use Rattle.std.proofs.Math.Bool.{false}
use Rattle.std.proofs.Math.Logic.{⊎_elim}
use mathlib.Core.List.Memᴰ
use mathlib.Core.List.{List, ◌∷◌, Memᴰ}
use Rattle.std.proofs.Common.{leb-false, eq-eqb, ne_eqb, arith}
use Rattle.std.proofs.Math.Decide.{ℕ_discrete}
use Rattle.std.proofs.Math.Path.{refl, fun_ext}
use Rattle.reply.specs.declared.Refusal.TheVariants.{NoThread, AlreadyOpen}
use Rattle.transient.specs.declared.sizes.Sizes.{Sizes}
use Rattle.transient.specs.Layout.{open_epoch, set_open}
use Rattle.transient.specs.Store.{Store, store, table_of}
use Rattle.transient.specs.Calls.{Changed}
use Rattle.transient.specs.Requires.{notes-after}
use Rattle.transient.specs.Laws.{open-same, open-other, open-slots, open-index, open-phase, open-slot, open-uid, open_order, open-long}
use Rattle.begin_end.specs.Operation.{begin, end}
use Rattle.begin_end.specs.Stages.{begin_sized, end_sized}
use Rattle.jobs.specs.Laws.{declines-way}
use Rattle.advance.specs.Stages.{underway}
use Rattle.crash.specs.Reference.{Jobs}
use Rattle.guarantee.specs.Trace.{Plain, plain, told_begin, told_end}
use Rattle.guarantee.specs.View.{view, same_view}
use Rattle.guarantee.proofs.Indexing.{kept-indexed}
use Rattle.guarantee.proofs.Good.{Opens, Good}
use Rattle.guarantee.proofs.Changing.{way-way, call-way, sizes-is}
use Rattle.reply.specs.Refusals.{Check}

-- ---- an open epoch set
module _ {sz : Sizes} {start : Jobs} {wk l tr : List ℕ} {p : Plain} (thread e : ℕ) (ended' : List ℕ) (g : Good sz start (store wk l tr) p) (within : thread < sz.t)
    (least : 1 ≤ e → 2 ≤ e) (low : 1 ≤ e → p.clock ≤ e) (high : e ≤ p.clock)
    (bounds : (d : ℕ) → Memᴰ d ended' → d ≤ p.clock) where
  abbrev tr' : List ℕ
  tr' = set_open tr thread e

  abbrev p' : Plain
  p' = plain p.clock (λ u. cond (eqb u thread) e (p.operation u)) p.row ended' p.durable

  view-is : view (store wk l tr') sz p.clock ≡ view (store wk l tr) sz p.clock
  view-is =
      fun_ext (λ m. same_view (store wk l tr) (store wk l tr') sz p.clock m
      (λ h. let o = open-slots tr sz thread e within m (omega (arith, g.notes.slots-hi)) in rw (o.retired, o.waiting p.clock, o.waiting (p.clock + 1))))

  -- what holds of this thread and of the others holds of all
  each : (P : ℕ → ℕ → ℕ → Type 0) → P thread e e → ((u : ℕ) → u < sz.t → u ≢ thread → P u (open_epoch tr u) (p.operation u))
      → (u : ℕ) → u < sz.t → P u (open_epoch tr' u) (p'.operation u)
  each P here there u h = elim (ℕ_discrete u thread) [
    | yes q ↦ rw (q, open-same g.notes thread e within, eq-eqb thread thread refl) here
    | no q ↦ rw (open-other g.notes thread e u q, ne_eqb u thread q) (there u h q)
  ]

  opens-set : Opens sz tr' p'
  unfolding underway
  opens-set =
      let o = g.opens in
      record {
        same = each (λ u a b. a ≡ b) refl (λ u h q. o.same u h);
        least = each (λ u a b. 1 ≤ a → 2 ≤ a) least (λ u h q. o.least u h);
        low = each (λ u a b. 1 ≤ a → p.clock ≤ a + 1) (λ h. omega (arith, low h)) (λ u h q. o.low u h);
        high = each (λ u a b. a ≤ p.clock) high (λ u h q. o.high u h);
        quiet = rw (open-phase tr sz thread e) (each (λ u a b. a + 1 ≡ p.clock → underway tr ≡ false) (λ q. never-below q) (λ u h q. o.quiet u h));
      }
    where
      never-below : e + 1 ≡ p.clock → underway tr ≡ false
      never-below q = elim (ℕ_discrete e 0) [
        | yes z ↦ absurd (omega (arith, g.inv.clock-lo))
        | no z ↦ absurd (omega (arith, low (omega arith)))
      ]

  pub open-good : Good sz start (store wk l tr') p'
  open-good =
      record {
        clock-hi = g.clock-hi;
        working = g.working;
        persistent = g.persistent;
        notes = notes-after (open-long tr sz thread e) g.notes;
        opens = opens-set;
        past = record { ended-hi = bounds; durable-hi = g.past.durable-hi };
        index = kept-indexed (open-index tr sz thread e within) g.index;
        inv = rw (view-is, open-phase tr sz thread e, open-slot tr sz thread e, open-uid tr sz thread e, open_order tr sz thread e) g.inv;
        fifo = g.fifo;
      }

-- ---- the calls
module _ {sz : Sizes} {start : Jobs} {st : Store} {p : Plain} (thread : ℕ) (g : Good sz start st p) where
  -- what a call's part leaves is good, the reference map being told so
  abbrev Told : (Check → Plain → Plain) → Changed → Type 0
  Told tell ch = Good sz start (store ch.table.working st.persistent ch.table.transient) (tell ch.reply p)

  begun-fine : Told (told_begin thread) (begin_sized thread sz (table_of st))
  unfolding begin_sized
  begun-fine =
      declines-way (Told (told_begin thread)) (table_of st) (leb sz.t thread) NoThread _ g
      (λ a. declines-way (Told (told_begin thread)) (table_of st) (not (eqb (open_epoch st.transient thread) 0)) AlreadyOpen _ g
      (λ b. rw g.working.clock-is (open-good thread p.clock p.ended g (leb-false sz.t thread a)
      (λ h. g.inv.clock-lo) (λ h. omega arith) (omega arith) g.past.ended-hi)))

  ended-fine : Told (told_end thread) (end_sized thread sz (table_of st))
  unfolding end_sized
  ended-fine =
      way-way (Told (told_end thread)) sz (table_of st) thread false _ (λ r. g)
      (λ a b c. open-good thread 0 (p.operation thread ∷ p.ended) g a (λ h. absurd (omega arith)) (λ h. absurd (omega arith)) (omega arith) (bound a))
    where
      bound : thread < sz.t → (d : ℕ) → Memᴰ d (p.operation thread ∷ p.ended) → d ≤ p.clock
      bound h d m = ⊎_elim (λ q. omega (arith, q, g.opens.same thread h, g.opens.high thread h)) (λ q. g.past.ended-hi d q) (Memᴰ.cases_cons m)

  pub begin-good : Good sz start (begin st thread).store (told_begin thread (begin st thread).reply p)
  unfolding begin begin_sized
  begin-good =
      call-way (λ a. Good sz start a.store (told_begin thread a.reply p)) st (begin_sized thread) (λ r. g)
      (λ e. rw (sizes-is g) begun-fine)

  pub end-good : Good sz start (end st thread).store (told_end thread (end st thread).reply p)
  unfolding end end_sized
  end-good =
      call-way (λ a. Good sz start a.store (told_end thread a.reply p)) st (end_sized thread) (λ r. g)
      (λ e. rw (sizes-is g) ended-fine)
