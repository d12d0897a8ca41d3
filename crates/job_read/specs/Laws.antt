-- A slot that is read is one of the table; and the answers of a reading.
use Rattle.std.specs.Prelude.{ℕ, ◌<◌, Bool, List, leb, eqb, Option, Some, None, Result, Ok, Err}
use Rattle.std.proofs.Math.Path.{◌≡◌, refl}
use Rattle.std.proofs.Common.{sym, ◌∙◌, arith}
use Rattle.std.proofs.Math.Bool.{true, false, cond}
use Rattle.reply.specs.declared.Refusal.TheVariants.{NoThread, BadArgument}
use Rattle.reply.specs.Refusals.{Check, by_check}
use Rattle.image.specs.Layout.{slots_of, width_of}
use Rattle.image.specs.Name.{job_name}
use Rattle.image.specs.Requires.{Slot, slot}
use Rattle.transient.specs.declared.sizes.Sizes.{Sizes}
use Rattle.transient.specs.Layout.{open_epoch}
use Rattle.transient.specs.Store.{Table, store, table, sizes_of}
use Rattle.transient.specs.Entry.{entry_check}
use Rattle.transient.specs.Passed.{entry-with}
use Rattle.table.specs.Find.{live_slot, lookup}
use Rattle.table.specs.Requires.{looked_up}
use Rattle.table.specs.Laws.{live_below, lookup-below}
use Rattle.job_read.specs.Read.{read_sized, read_job, shown_value, read_number, read_position}
use Rattle.job_read.specs.Stages.{read_looked}
use Rattle.job_read.specs.Requires.{Readable}
use Rattle.reply.specs.declared.Refusal.{Refusal}

module _ (z : Sizes) (tb : Table) (key s : ℕ) where
  found_below : (f : Option ℕ) → live_slot z tb (job_name key) ≡ f → read_looked (looked_up f) ≡ Ok s → s < z.n
  found_below (Some u) q r = let x : u ≡ s = cc in let b : u < z.n = live_below z tb (job_name key) u q in omega arith
  found_below None q r = let x : ◌≡◌ {A = ℕ} 0 1 = cc in absurd (omega arith)

  looked-below : (e : ℕ) (k : Result (Option ℕ) Refusal) → lookup z tb (job_name key) e ≡ k → read_looked k ≡ Ok s → s < z.n
  looked-below e (Err d) q r = let x : ◌≡◌ {A = ℕ} 0 1 = cc in absurd (omega arith)
  looked-below e (Ok (Some u)) q r = let x : u ≡ s = cc in let b : u < z.n = lookup-below z tb (job_name key) e u q in omega arith
  looked-below e (Ok None) q r = let x : ◌≡◌ {A = ℕ} 0 1 = cc in absurd (omega arith)

  sized-below : (thread : ℕ) → read_sized thread key z tb ≡ Ok s → s < z.n
  unfolding read_sized
  sized-below thread h = go (leb z.t thread) (eqb key 0) (eqb (open_epoch tb.transient thread) 0) h
    where
      go : (a b c : Bool)
          → cond a (Err NoThread) (cond b (Err BadArgument) (read_looked (cond c (looked_up (live_slot z tb (job_name key))) (lookup z tb (job_name key) (open_epoch tb.transient thread))))) ≡ Ok s → s < z.n
      go true b c q = let x : ◌≡◌ {A = ℕ} 0 1 = cc in absurd (omega arith)
      go false true c q = let x : ◌≡◌ {A = ℕ} 0 1 = cc in absurd (omega arith)
      go false false true q = found_below (live_slot z tb (job_name key)) refl q
      go false false false q = looked-below (open_epoch tb.transient thread) (lookup z tb (job_name key) (open_epoch tb.transient thread)) refl q

pub read-slot : (wk l tr : List ℕ) (thread key : ℕ) {s : ℕ} → read_job (store wk l tr) thread key ≡ Ok s → Slot wk (slots_of wk) (width_of wk) s
unfolding read_job sizes_of
read-slot wk l tr thread key {s} e = go (entry_check (store wk l tr)) refl e
  where
    go : (k : Check) → entry_check (store wk l tr) ≡ k → by_check k Err (read_sized thread key (sizes_of (table wk tr)) (table wk tr)) ≡ Ok s → Slot wk (slots_of wk) (width_of wk) s
    go (Err r) c q = let x : ◌≡◌ {A = ℕ} 0 1 = cc in absurd (omega arith)
    go (Ok _) c q = slot (entry-with wk l tr c).entered.shaped.working (sized-below (sizes_of (table wk tr)) (table wk tr) key s thread q)

-- ---- the answers of a reading k, of the call that gave it
pub reads-readable : (wk l tr : List ℕ) (thread key : ℕ) {k : Result ℕ Refusal} → k ≡ read_job (store wk l tr) thread key → Readable wk k
reads-readable wk l tr thread key c = record { slot = λ s a. read-slot wk l tr thread key (sym c ∙ a) }

module _ (j : Result ℕ Refusal) {k : Result ℕ Refusal} (c : k ≡ j) where
  pub answer-value : (wk : List ℕ) {v : List ℕ} → v ≡ shown_value k wk → v ≡ shown_value j wk
  answer-value wk h = rw c at h

  pub answer-number : {v : ℕ} → v ≡ read_number k → v ≡ read_number j
  answer-number h = rw c at h

  pub answer-position : (wk : List ℕ) {v : ℕ} → v ≡ read_position k wk → v ≡ read_position j wk
  answer-position wk h = rw c at h

pub ruleset answers = (answer-value, answer-number, answer-position)
