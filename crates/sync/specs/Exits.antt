-- The ways out of a sync: refusals 14 and 15, then advance calls until two ticks have happened.
use Prim.Native.Nat.{ℕ, zero, suc, ◌+◌, ◌*◌, ◌-◌, ◌≤◌, ◌<◌}
use Rattle.std.specs.Prelude.{◌≡◌, Bool, true, false, List, length, Result, Ok, Err}
use Rattle.std.proofs.Math.Path.{refl, sym}
use Rattle.std.proofs.Common.{◌∙◌, Fits}
use Rattle.std.specs.Int.{w64}
use borrow.Author.Tests.{lt-ltb, le-ltb}
use native.Mathlib.Omega.{arith}
use Rattle.std.proofs.Math.Numerals.{add-one}
use Rattle.search.specs.Bools.{tests}
use Rattle.reply.specs.declared.Refusal.{Refusal}
use Rattle.reply.specs.declared.Refusal.TheVariants.{StillOpen, LastEpoch}
use Rattle.image.specs.Layout.{most_slots, most_number, slots_of, clock_of}
use Rattle.transient.specs.declared.sizes.Sizes.{Sizes}
use Rattle.transient.specs.Store.{Store, store, table, sizes_of, Outcome, outcome}
use Rattle.transient.specs.Entry.{entry_check}
use Rattle.transient.specs.Requires.{Sizable, EnteredWith, entered-notes, entered-front}
use Rattle.transient.specs.Passed.{entry-with, entered-sizable}
use Rattle.step.specs.declared.Advance.{Advance}
use Rattle.step.specs.declared.Advance.TheVariants.{WentOn, Ticked}
use Rattle.advance.specs.Advance.{advance}
use Rattle.advance.specs.Stages.{any_open, most_lines, advance_sized}
use Rattle.advance.specs.Left.{Moves, advance-moves}
use Rattle.sync.specs.Sync.{sync_check, sync_from, sync}
use Rattle.sync.specs.Stages.{ready_check}
use Rattle.sync.specs.Budget.{budget, budget-top, budget-low, budget-on, budget-tick}
use Rattle.sync.specs.Quiet.{Ready, quiet-place, check-quiet, ready-entered, ready-advance, ready_on, ready-tick}
use Rattle.reply.specs.Refusals.{Check}

-- ---- refusals 14 and 15
module _ (wk tr : List ℕ) (t : ℕ) {o : Bool} (oe : o ≡ any_open tr t) where
  pub ready-open : o ≡ true → Err StillOpen ≡ ready_check wk tr t
  unfolding ready_check
  ready-open e = rw (← oe, e)

  module _ {k : ℕ} (e : o ≡ false) (ke : k ≡ clock_of wk) where
    pub ready-last : most_number - 2 < k → Err LastEpoch ≡ ready_check wk tr t
    unfolding ready_check
    ready-last h = rw (← oe, e, ← ke, lt-ltb (most_number - 2) k h)

    pub ready-fine : k ≤ most_number - 2 → Ok tt ≡ ready_check wk tr t
    unfolding ready_check
    ready-fine h = rw (← oe, e, ← ke, le-ltb (most_number - 2) k h)

module _ (wk l tr : List ℕ) {k : Check} (ce : k ≡ entry_check (store wk l tr)) where
  pub check-refused : {r : Refusal} → k ≡ Err r → Err r ≡ sync_check (store wk l tr)
  unfolding sync_check
  check-refused a = rw (← ce, a)

  pub check-ready : {z : Sizes} {q : Check} → k ≡ Ok tt → z ≡ sizes_of (table wk tr) → q ≡ ready_check wk tr z.t → q ≡ sync_check (store wk l tr)
  unfolding sync_check ready_check any_open
  check-ready a e h = rw (← ce, a) (rw e at h)

-- ---- the calls so far
-- lists of the lengths that they had
pub record Longs (wk₀ l₀ tr₀ wk l tr : List ℕ) : Type 0 where
  pub working : length wk ≡ length wk₀
  pub persistent : length l ≡ length l₀
  pub transient : length tr ≡ length tr₀

-- `more` calls are left, and they are enough
pub record Syncing (z : Sizes) (wk₀ l₀ tr₀ : List ℕ) (ticks lines : ℕ) (wk l tr : List ℕ) : Type 0 where
  pub more : ℕ
  pub longs : Longs wk₀ l₀ tr₀ wk l tr
  pub ready : Ready ticks wk l tr z
  pub enough : budget (table wk tr) ticks ≤ more
  pub few : lines + more ≤ 2 * most_lines most_slots
  pub same : sync_from (2 * most_lines (slots_of wk₀)) 2 0 (store wk₀ l₀ tr₀) ≡ sync_from more ticks lines (store wk l tr)

pub sync-start : {z : Sizes} {wk l tr : List ℕ} → Ready 2 wk l tr z → Syncing z wk l tr 2 0 wk l tr
unfolding sizes_of
sync-start {wk = wk} {l} {tr} y =
    record {
      more = 2 * most_lines (slots_of wk);
      longs = record { working = refl; persistent = refl; transient = refl };
      ready = y;
      enough = budget-top (table wk tr);
      few = omega (arith, (entry-with wk l tr y.quiet.entry).entered.shaped.notes.slots-hi);
      same = refl;
    }

module _ {z : Sizes} {wk₀ l₀ tr₀ : List ℕ} {ticks lines : ℕ} {wk l tr : List ℕ} (y : Syncing z wk₀ l₀ tr₀ ticks lines wk l tr) where
  pub sync-entered : EnteredWith wk l tr z
  sync-entered = ready-entered y.ready

  pub long-working : (wk' : List ℕ) → length wk' ≡ length wk → length wk' ≡ length wk₀
  long-working wk' e = e ∙ y.longs.working

  pub long-persistent : (l' : List ℕ) → length l' ≡ length l → length l' ≡ length l₀
  long-persistent l' e = e ∙ y.longs.persistent

  pub long-transient : (tr' : List ℕ) → length tr' ≡ length tr → length tr' ≡ length tr₀
  long-transient tr' e = e ∙ y.longs.transient

  pub sync-fits : Fits w64 (lines + 1)
  sync-fits = omega (arith, y.few)

  pub sync-reports : ticks ≤ 0 → outcome (Ok lines) wk l tr ≡ sync_from (2 * most_lines (slots_of wk₀)) 2 0 (store wk₀ l₀ tr₀)
  unfolding sync_from
  sync-reports h = let e : ticks ≡ 0 = omega arith in sym (rw e at y.same ∙ none_left y.more)
    where
      none_left : (more : ℕ) → sync_from more 0 lines (store wk l tr) ≡ outcome (Ok lines) wk l tr
      none_left zero = refl
      none_left (suc more) = refl

-- one call more, by its reply
module _ (more ticks lines : ℕ) (st st' : Store) where
  next-on : record { reply = Ok WentOn; store = st' } ≡ advance st → sync_from (suc more) (suc ticks) lines st ≡ sync_from more (suc ticks) (lines + 1) st'
  unfolding sync_from
  next-on e = rw (← e, add-one lines)

  next-tick : record { reply = Ok Ticked; store = st' } ≡ advance st → sync_from (suc more) (suc ticks) lines st ≡ sync_from more ticks (lines + 1) st'
  unfolding sync_from
  next-tick e = rw (← e, add-one lines)

  next-declined : (r : Refusal) → record { reply = Err r; store = st' } ≡ advance st → sync_from (suc more) (suc ticks) lines st ≡ record { reply = Err r; store = st' }
  unfolding sync_from
  next-declined r e = rw (← e)

module _ {z : Sizes} {wk₀ l₀ tr₀ : List ℕ} {ticks lines : ℕ} {wk l tr wk' l' tr' : List ℕ} {r : Result Advance Refusal}
    (y : Syncing z wk₀ l₀ tr₀ ticks lines wk l tr) (h : 0 < ticks) (e : outcome r wk' l' tr' ≡ advance_sized z (store wk l tr)) where
  is : outcome r wk' l' tr' ≡ advance (store wk l tr)
  is = e ∙ ready-advance y.ready

  moves : Moves (store wk l tr) (outcome r wk' l' tr')
  moves = rw (← is) at (advance-moves (store wk l tr))

  some : suc (ticks - 1) ≡ ticks
  some = omega arith

  -- a call is left
  again : suc (y.more - 1) ≡ y.more
  again = omega (arith, y.enough, rw some at (budget-low (table wk tr) (ticks - 1) (quiet-place y.ready.quiet)))

  so_far : sync_from (2 * most_lines (slots_of wk₀)) 2 0 (store wk₀ l₀ tr₀) ≡ sync_from (suc (y.more - 1)) ticks lines (store wk l tr)
  so_far = rw again y.same

  lengths : Longs wk l tr wk' l' tr' → Longs wk₀ l₀ tr₀ wk' l' tr'
  lengths x = record { working = x.working ∙ y.longs.working; persistent = x.persistent ∙ y.longs.persistent; transient = x.transient ∙ y.longs.transient }

  -- where the budget is lower and the rest is the same, the loop goes on
  next : {ticks' : ℕ} → Longs wk l tr wk' l' tr' → Ready ticks' wk' l' tr' z → budget (table wk' tr') ticks' < budget (table wk tr) ticks
      → sync_from (suc (y.more - 1)) ticks lines (store wk l tr) ≡ sync_from (y.more - 1) ticks' (lines + 1) (store wk' l' tr') → Syncing z wk₀ l₀ tr₀ ticks' (lines + 1) wk' l' tr'
  next x ready less same =
      record {
        more = y.more - 1;
        longs = lengths x;
        ready = ready;
        enough = omega (arith, y.enough);
        few = omega (arith, y.few, again);
        same = so_far ∙ same;
      }

  pub lowers-on : {ticks' : ℕ} → r ≡ Ok WentOn → ticks' ≡ ticks → budget (table wk' tr') ticks' < budget (table wk tr) ticks
  lowers-on q i = rw i (rw some at (budget-on moves (ticks - 1) q))

  pub lowers-tick : {ticks' : ℕ} → r ≡ Ok Ticked → ticks' ≡ ticks - 1 → budget (table wk' tr') ticks' < budget (table wk tr) ticks
  lowers-tick q i = rw i (rw some at (budget-tick moves (ticks - 1) q))

  pub sync-on : {ticks' : ℕ} → Longs wk l tr wk' l' tr' → r ≡ Ok WentOn → ticks' ≡ ticks → Syncing z wk₀ l₀ tr₀ ticks' (lines + 1) wk' l' tr'
  sync-on x q i = next x (rw i (ready_on y.ready h is q)) (lowers-on q i) (rw i (rw some at (next-on (y.more - 1) (ticks - 1) lines (store wk l tr) (store wk' l' tr') (rw q at is))))

  pub sync-tick : {ticks' : ℕ} → Longs wk l tr wk' l' tr' → r ≡ Ok Ticked → ticks' ≡ ticks - 1 → Syncing z wk₀ l₀ tr₀ ticks' (lines + 1) wk' l' tr'
  sync-tick x q i = next x (rw i (ready-tick y.ready h is q)) (lowers-tick q i) (rw i (rw some at (next-tick (y.more - 1) (ticks - 1) lines (store wk l tr) (store wk' l' tr') (rw q at is))))

  pub sync-declined : {d : Refusal} → r ≡ Err d → outcome (Err d) wk' l' tr' ≡ sync_from (2 * most_lines (slots_of wk₀)) 2 0 (store wk₀ l₀ tr₀)
  sync-declined {d} q = sym (so_far ∙ rw some at (next-declined (y.more - 1) (ticks - 1) lines (store wk l tr) (store wk' l' tr') d (rw q at is)))

-- ---- the call
module _ (wk l tr : List ℕ) {k : Check} (ce : k ≡ sync_check (store wk l tr)) where
  pub sync-refused : {r : Refusal} → k ≡ Err r → outcome (Err r) wk l tr ≡ sync (store wk l tr)
  unfolding sync
  sync-refused a = rw (← ce, a)

  module _ (a : k ≡ Ok tt) where
    pub sync-goes : {x : Outcome (Result ℕ Refusal)} → x ≡ sync_from (2 * most_lines (slots_of wk)) 2 0 (store wk l tr) → x ≡ sync (store wk l tr)
    unfolding sync
    sync-goes e = rw (← ce, a) e

    pub sync-sizable : Sizable wk tr
    sync-sizable = entered-sizable (entry-with wk l tr (check-quiet (store wk l tr) (sym ce ∙ a)).entry).entered

    pub sync-ready : {z : Sizes} → z ≡ sizes_of (table wk tr) → Ready 2 wk l tr z
    sync-ready e = record { quiet = check-quiet (store wk l tr) (sym ce ∙ a); sizes = e }

pub ruleset checks = (tests, entered-notes, entered-front, ready-open, ready-last, ready-fine, check-refused, check-ready)

pub ruleset syncs = (sync-start, sync-entered, sync-on, sync-tick, sync-declined, sync-reports, sync-fits, lowers-on, lowers-tick, sync-refused, sync-goes, sync-sizable, sync-ready, long-working, long-persistent, long-transient)
