-- 01: "Every refusal leaves both images and the notes unchanged". A sync that is accepted never declines in the middle: each of its
-- advance calls is accepted (`Quiet`), and the bound on their number is never used up, so it reports done.
use Rattle.std.specs.Prelude.{ℕ, zero, suc, ◌*◌, ◌≤◌, ◌≡◌, refl, Result, Ok, Err}
use Rattle.std.proofs.Common.{arith}
use Rattle.reply.specs.declared.Refusal.{Refusal}
use Rattle.image.specs.Layout.{slots_of}
use Rattle.transient.specs.Store.{Store, table_of, Outcome, after_check}
use Rattle.advance.specs.Advance.{advance}
use Rattle.advance.specs.Stages.{most_lines}
use Rattle.advance.specs.Left.{advance-moves}
use Rattle.sync.specs.Sync.{sync_check, by_reply, sync_from, sync}
use Rattle.sync.specs.Budget.{budget, budget-top, budget-low, budget-on, budget-tick}
use Rattle.sync.specs.Quiet.{Quiet, Onward, went, ticked, advance-quiet, quiet-place, check-quiet}
use Rattle.reply.specs.Refusals.{Check}

pub record Done (a : Outcome (Result ℕ Refusal)) : Type 0 where
  pub lines : ℕ
  pub is : a.reply ≡ Ok lines

advances-done : (more ticks lines : ℕ) (st : Store) → Quiet ticks st → budget (table_of st) ticks ≤ more → Done (sync_from more ticks lines st)
unfolding sync_from
advances-done zero zero lines st q e = record { lines = lines; is = refl }
advances-done (suc more) zero lines st q e = record { lines = lines; is = refl }
advances-done zero (suc k) lines st q e = absurd (omega (arith, budget-low (table_of st) k (quiet-place q)))
advances-done (suc more) (suc k) lines st q e =
    go (advance-quiet k st q) (advances-done more (suc k) (suc lines) (advance st).store) (advances-done more k (suc lines) (advance st).store)
  where
    go : Onward k st
        → (Quiet (suc k) (advance st).store → budget (table_of (advance st).store) (suc k) ≤ more → Done (sync_from more (suc k) (suc lines) (advance st).store))
        → (Quiet k (advance st).store → budget (table_of (advance st).store) k ≤ more → Done (sync_from more k (suc lines) (advance st).store))
        → Done (by_reply (advance st).reply (sync_from more (suc k) (suc lines)) (sync_from more k (suc lines)) (λ r s. record { reply = Err r; store = s }) (advance st).store)
    go (went r x) a b = rw r (a x (omega (arith, budget-on (advance-moves st) k r)))
    go (ticked r x) a b = rw r (b x (omega (arith, budget-tick (advance-moves st) k r)))

-- an accepted sync reports done
pub sync-done : (st : Store) → sync_check st ≡ Ok tt → Done (sync st)
unfolding sync
sync-done st a = rw a (advances-done (2 * most_lines (slots_of st.working)) 2 0 st (check-quiet st a) (budget-top (table_of st)))

-- .. so a sync that declines has changed nothing
pub sync-keeps : (st : Store) (r : Refusal) → (sync st).reply ≡ Err r → (sync st).store ≡ st
unfolding sync
sync-keeps st r d = go (sync_check st) refl
  where
    go : (k : Check) → sync_check st ≡ k → (after_check k Err st (sync_from (2 * most_lines (slots_of st.working)) 2 0 st)).store ≡ st
    go (Err q) e = refl
    go (Ok _) e = let f = (sync-done st e).is in let z : ◌≡◌ {A = ℕ} 0 1 = cc in absurd (omega arith)
