-- A sync in a run is the sync that the contract cites: with no words written back it leaves the same store, and where the call
-- reports done, the reference map has heard of it.
use Rattle.std.specs.Prelude.{ℕ, zero, suc, ◌*◌, ◌≡◌, refl, [], Result, Ok, Err}
use Rattle.std.proofs.Common.{arith}
use Rattle.reply.specs.Refusals.{Check, by_check}
use Rattle.image.specs.Layout.{slots_of}
use Rattle.transient.specs.Store.{Outcome, after_check}
use Rattle.step.specs.declared.Advance.{Advance}
use Rattle.step.specs.declared.Advance.TheVariants.{WentOn, Ticked}
use Rattle.advance.specs.Advance.{advance}
use Rattle.advance.specs.Stages.{most_lines}
use Rattle.sync.specs.Sync.{sync_check, by_reply, sync_from, sync}
use Rattle.guarantee.specs.Trace.{Moment, Trace, stay, one, followed, after_advance, after_words, told_advance, syncing, syncs, through}
use Rattle.reply.specs.declared.Refusal.{Refusal}

-- the trace tr is that of a sync with the answer a
pub record Same (a : Outcome (Result ℕ Refusal)) (tr : Trace) : Type 0 where
  pub store : tr.last.store ≡ a.store
  pub done : (k : ℕ) → a.reply ≡ Ok k → tr.last.plain.durable ≡ tr.last.plain.ended

-- a reply that is not "done"
not_done : {A : Type 0} {r : Refusal} {k : ℕ} → ◌≡◌ {A = Result ℕ Refusal} (Err r) (Ok k) → A
not_done e = let z : ◌≡◌ {A = ℕ} 0 1 = cc in absurd (omega arith)

same-syncing : (more ticks k lines : ℕ) (m : Moment) → Same (sync_from more ticks lines m.store) (syncing more ticks k (λ _. []) m)
unfolding sync_from syncing after_words after_advance
same-syncing more zero k lines m = record { store = refl; done = λ k e. refl }
same-syncing zero (suc ticks) k lines m = record { store = refl; done = λ k e. not_done e }
same-syncing (suc more) (suc ticks) k lines m =
    go (advance m.store).reply (same-syncing more (suc ticks) (suc k) (suc lines)) (same-syncing more ticks (suc k) (suc lines))
  where
    go : (r : Result Advance Refusal)
        → ((x : Moment) → Same (sync_from more (suc ticks) (suc lines) x.store) (syncing more (suc ticks) (suc k) (λ _. []) x))
        → ((x : Moment) → Same (sync_from more ticks (suc lines) x.store) (syncing more ticks (suc k) (λ _. []) x))
        → Same (by_reply r (sync_from more (suc ticks) (suc lines)) (sync_from more ticks (suc lines)) (λ r s. record { reply = Err r; store = s }) (advance m.store).store)
        (followed (one (record { store = (advance m.store).store; plain = told_advance r m.plain })) (by_reply r (syncing more (suc ticks) (suc k) (λ _. [])) (syncing more ticks (suc k) (λ _. [])) (λ _. stay)))
    go (Ok WentOn) a b = let x = a (record { store = (advance m.store).store; plain = m.plain }) in record { store = x.store; done = x.done }
    go (Ok Ticked) a b = let x = b (record { store = (advance m.store).store; plain = told_advance (Ok Ticked) m.plain }) in record { store = x.store; done = x.done }
    go (Err r) a b = record { store = refl; done = λ k e. not_done e }

pub sync-is : (m : Moment) → Same (sync m.store) (through (syncs (λ _. [])) m)
unfolding sync through
sync-is m = go (sync_check m.store)
  where
    go : (k : Check) → Same (after_check k Err m.store (sync_from (2 * most_lines (slots_of m.store.working)) 2 0 m.store)) (by_check k (λ _. stay m) (syncing (2 * most_lines (slots_of m.store.working)) 2 0 (λ _. []) m))
    go (Err r) = record { store = refl; done = λ k e. not_done e }
    go (Ok _) = let x = same-syncing (2 * most_lines (slots_of m.store.working)) 2 0 0 m in record { store = x.store; done = x.done }
