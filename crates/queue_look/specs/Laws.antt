-- A slot that look shows is one of the table.
use Rattle.std.specs.Prelude.{ℕ, ◌<◌, Bool, List, leb, Result, Ok, Err, Option, Some, None}
use Rattle.std.proofs.Math.Path.{◌≡◌, refl}
use Rattle.std.proofs.Common.{sym, ◌∙◌, arith}
use Rattle.std.proofs.Math.Bool.{true, false, cond}
use Rattle.reply.specs.declared.Refusal.TheVariants.{NoThread}
use Rattle.reply.specs.Refusals.{Check, by_check}
use Rattle.image.specs.Layout.{slots_of, width_of}
use Rattle.image.specs.Requires.{Slot, slot}
use Rattle.transient.specs.declared.sizes.Sizes.{Sizes}
use Rattle.transient.specs.Layout.{open_epoch}
use Rattle.transient.specs.Store.{Table, store, table, sizes_of}
use Rattle.transient.specs.Entry.{entry_check}
use Rattle.transient.specs.Passed.{entry-with}
use Rattle.job_read.specs.Requires.{Readable}
use Rattle.queue.specs.Front.{front_lookup}
use Rattle.queue.specs.Laws.{front-lookup-below}
use Rattle.queue_look.specs.Look.{look_sized, look_entry}
use Rattle.queue_look.specs.Stages.{look_looked}
use Rattle.reply.specs.declared.Refusal.{Refusal}

module _ (z : Sizes) (tb : Table) (s : ℕ) where
  looked-below : (e : ℕ) (k : Result (Option ℕ) Refusal) → front_lookup z tb e ≡ k → look_looked k ≡ Ok s → s < z.n
  looked-below e (Err d) q r = let x : ◌≡◌ {A = ℕ} 0 1 = cc in absurd (omega arith)
  looked-below e (Ok (Some u)) q r = let x : u ≡ s = cc in let b : u < z.n = front-lookup-below z tb e u q in omega arith
  looked-below e (Ok None) q r = let x : ◌≡◌ {A = ℕ} 0 1 = cc in absurd (omega arith)

  sized-below : (thread : ℕ) → look_sized thread z tb ≡ Ok s → s < z.n
  unfolding look_sized
  sized-below thread h = go (leb z.t thread) h
    where
      go : (a : Bool) → cond a (Err NoThread) (look_looked (front_lookup z tb (open_epoch tb.transient thread))) ≡ Ok s → s < z.n
      go true q = let x : ◌≡◌ {A = ℕ} 0 1 = cc in absurd (omega arith)
      go false q = looked-below (open_epoch tb.transient thread) (front_lookup z tb (open_epoch tb.transient thread)) refl q

pub look-slot : (wk l tr : List ℕ) (thread : ℕ) {s : ℕ} → look_entry (store wk l tr) thread ≡ Ok s → Slot wk (slots_of wk) (width_of wk) s
unfolding look_entry sizes_of
look-slot wk l tr thread {s} e = go (entry_check (store wk l tr)) refl e
  where
    go : (k : Check) → entry_check (store wk l tr) ≡ k → by_check k Err (look_sized thread (sizes_of (table wk tr)) (table wk tr)) ≡ Ok s → Slot wk (slots_of wk) (width_of wk) s
    go (Err r) c q = let x : ◌≡◌ {A = ℕ} 0 1 = cc in absurd (omega arith)
    go (Ok _) c q = slot (entry-with wk l tr c).entered.shaped.working (sized-below (sizes_of (table wk tr)) (table wk tr) s thread q)

pub look-readable : (wk l tr : List ℕ) (thread : ℕ) {k : Result ℕ Refusal} → k ≡ look_entry (store wk l tr) thread → Readable wk k
look-readable wk l tr thread c = record { slot = λ s a. look-slot wk l tr thread (sym c ∙ a) }
