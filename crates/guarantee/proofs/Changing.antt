-- What a call on jobs leaves is good, beside what the reference map makes of its reply: by the shapes that definitions are made of.
use Rattle.std.specs.Prelude.{ℕ, ◌≤◌, ◌<◌, ◌≡◌, refl, Bool, false, cond, ◌≢◌, List, length, Option, Result, Ok, Err}
use Rattle.std.proofs.Common.{arith}
use Rattle.reply.specs.declared.Refusal.{Refusal}
use Rattle.image.specs.Layout.{slots_of}
use Rattle.image.specs.declared.name.Name.{Name}
use Rattle.transient.specs.declared.sizes.Sizes.{Sizes}
use Rattle.transient.specs.Layout.{threads_of, note, last_at, next_order_at, open_epoch}
use Rattle.transient.specs.Store.{Store, Table, store, table, table_of, sizes_of, Outcome, after_check}
use Rattle.transient.specs.Entry.{entry_check}
use Rattle.transient.specs.Calls.{Changed, refused, on_store}
use Rattle.transient.specs.Passed.{in_store, entry-with}
use Rattle.jobs.specs.Way.{way_in, by_way}
use Rattle.jobs.specs.Laws.{declines-way, way-operating}
use Rattle.crash.specs.Reference.{Jobs}
use Rattle.crash.specs.Slots.{Value}
use Rattle.guarantee.specs.Trace.{Plain, told_change}
use Rattle.guarantee.proofs.Good.{Good}
use Rattle.reply.specs.Refusals.{Check}

-- ---- the shapes
-- the way in: 5, 7 and 8, or the open epoch
module _ (P : Changed → Type 0) (sz : Sizes) (tb : Table) (thread : ℕ) (bad : Bool) (next : ℕ → Changed) where
  abbrev e : ℕ
  e = open_epoch tb.transient thread

  pub way-way : ((r : Refusal) → P (refused r tb)) → (thread < sz.t → e ≢ 0 → bad ≡ false → P (next e)) → P (by_way (way_in sz tb.transient thread bad) tb next)
  way-way declined goes = go (way_in sz tb.transient thread bad) refl
    where
      go : (k : Result ℕ Refusal) → way_in sz tb.transient thread bad ≡ k → P (by_way k tb next)
      go (Err r) q = declined r
      go (Ok d) q =
          let o = way-operating sz tb.transient thread bad q in
          rw (← o.epoch) (goes o.within (rw (← o.epoch) at o.some) o.fine)

-- refusals 1 and 2, or the call's own part
pub call-way : (P : Outcome Check → Type 0) (st : Store) (call : Sizes → Table → Changed) → ((r : Refusal) → P (record { reply = Err r; store = st }))
    → (entry_check st ≡ Ok tt → P (in_store st (call (sizes_of (table_of st)) (table_of st)))) → P (on_store st call)
call-way P st call a b = go (entry_check st) refl
  where
    go : (k : Check) → entry_check st ≡ k → P (after_check k Err st (in_store st (call (sizes_of (table_of st)) (table_of st))))
    go (Err r) e = a r
    go (Ok _) e = b e

-- ---- a good store has the sizes of the invariant
module _ {sz : Sizes} {start : Jobs} {st : Store} {p : Plain} (g : Good sz start st p) where
  pub sizes-is : sizes_of (table_of st) ≡ sz
  unfolding sizes_of
  sizes-is =
      let t : threads_of (length st.transient) (slots_of st.working) ≡ sz.t = rw (g.notes.long, g.working.slots-is) (omega arith) in
      λ i. record { n = g.working.slots-is i; w = g.working.width_is i; t = t i }

  -- the notes name slots of the table
  pub last-below : entry_check st ≡ Ok tt → note last_at st.transient < sz.n
  last-below a = rw sizes-is at (entry-with st.working st.persistent st.transient a).entered.last

  -- the next order number is one
  pub order-low : entry_check st ≡ Ok tt → 1 ≤ note next_order_at st.transient
  order-low a = (entry-with st.working st.persistent st.transient a).entered.order-lo

-- ---- what a call's part leaves is good
pub record Fine (sz : Sizes) (start : Jobs) (l : List ℕ) (p : Plain) (thread : ℕ) (name : Name) (v : Option Value) (ch : Changed) : Type 0 where
  pub good : Good sz start (store ch.table.working l ch.table.transient) (told_change thread name v ch.reply p)

module _ {sz : Sizes} {start : Jobs} {wk l tr : List ℕ} {p : Plain} {thread : ℕ} {name : Name} {v : Option Value} (g : Good sz start (store wk l tr) p) where
  pub fine-refused : (r : Refusal) → Fine sz start l p thread name v (refused r (table wk tr))
  fine-refused r = record { good = g }

  pub fine-declines : (b : Bool) (r : Refusal) (next : Changed) → (b ≡ false → Fine sz start l p thread name v next)
      → Fine sz start l p thread name v (cond b (refused r (table wk tr)) next)
  fine-declines b r next h = declines-way (Fine sz start l p thread name v) (table wk tr) b r next (fine-refused r) h

  pub fine-way : (bad : Bool) (next : ℕ → Changed)
      → (thread < sz.t → open_epoch tr thread ≢ 0 → bad ≡ false → Fine sz start l p thread name v (next (open_epoch tr thread)))
      → Fine sz start l p thread name v (by_way (way_in sz tr thread bad) (table wk tr) next)
  fine-way bad next h = way-way (Fine sz start l p thread name v) sz (table wk tr) thread bad next (λ r. fine-refused r) h

-- a whole call, from its part after refusals 1 and 2
pub fine-call : {sz : Sizes} {start : Jobs} {st : Store} {p : Plain} {thread : ℕ} {name : Name} {v : Option Value} (call : Sizes → Table → Changed)
    → Good sz start st p
    → (entry_check st ≡ Ok tt → Fine sz start st.persistent p thread name v (call sz (table_of st)))
    → Good sz start (on_store st call).store (told_change thread name v (on_store st call).reply p)
fine-call {sz} {start} {st} {p} {thread} {name} {v} call g h =
    call-way (λ a. Good sz start a.store (told_change thread name v a.reply p)) st call (λ r. g)
    (λ e. rw (sizes-is g) (h e).good)
