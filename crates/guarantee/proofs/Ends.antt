-- A sync in a run that passes its check reports done, whatever words the memory writes back before its advance calls.
use Rattle.std.specs.Prelude.{ℕ, zero, suc, ◌*◌, ◌≤◌, ◌<◌, ◌≡◌, refl, List, [], ◌∷◌, get_or, set, Ok}
use Rattle.std.proofs.Common.{◌∙◌, arith, length-set, get_or-set_other}
use Rattle.image.specs.Layout.{slots_of, clock_of}
use Rattle.image.specs.Alike.{Alike, unchanged}
use Rattle.transient.specs.Store.{Store, store, table_of}
use Rattle.transient.specs.Entry.{entry_check}
use Rattle.transient.specs.Again.{images-same}
use Rattle.advance.specs.Advance.{advance}
use Rattle.advance.specs.Stages.{most_lines}
use Rattle.advance.specs.Left.{advance-moves}
use Rattle.sync.specs.Sync.{sync_check, by_reply}
use Rattle.sync.specs.Budget.{budget, budget-top, budget-low, budget-on, budget-tick}
use Rattle.sync.specs.Quiet.{Quiet, check-quiet, quiet-place, Onward, went, ticked, advance-quiet}
use Rattle.write_back.specs.WriteBack.{write_back}
use Rattle.write_back.specs.Ways.{back-way, back-same}
use Rattle.guarantee.specs.Trace.{Moment, stay, after_words, after_word, told_advance, after_advance, syncing, syncs, through}

-- words that the memory writes back in the middle of a sync do not disturb it: working and notes stay
back-entry : (wk l l' tr : List ℕ) → Alike l l' → clock_of l' ≡ clock_of l → entry_check (store wk l' tr) ≡ entry_check (store wk l tr)
unfolding entry_check
back-entry wk l l' tr a c = rw (images-same (unchanged wk) a, c)

quiet-back : (ticks : ℕ) (st : Store) (i : ℕ) → Quiet ticks st → Quiet ticks (write_back st i).store
quiet-back ticks st i q =
    back-way (λ x. Quiet ticks x.store) st i (λ r. q)
    (λ h. record {
      entry = back-entry st.working st.persistent _ st.transient (record { long = length-set st.persistent i _; slots = front 0 h (omega arith); width = front 1 h (omega arith) }) (front 2 h (omega arith)) ∙ q.entry;
      none_open = q.none_open;
      room = q.room;
    })
  where
    front : (j : ℕ) → 3 ≤ i → j < 3 → get_or (set st.persistent i (get_or st.working i 0)) j 0 ≡ get_or st.persistent j 0
    front j h u = get_or-set_other st.persistent i j _ 0 (λ e. omega arith)

-- the reference map has heard of it
pub record Ended (m : Moment) : Type 0 where
  pub done : m.plain.durable ≡ m.plain.ended

-- a store on which a sync is underway, with calls enough for so many ticks
record Underway (more ticks : ℕ) (st : Store) : Type 0 where
  quiet : Quiet ticks st
  enough : budget (table_of st) ticks ≤ more

words-underway : (more ticks : ℕ) (ks : List ℕ) (m : Moment) → Underway more ticks m.store → Underway more ticks (after_words ks m).last.store
unfolding after_words after_word
words-underway more ticks [] m u = u
words-underway more ticks (k ∷ ks) m u =
    words-underway more ticks ks (after_word k m)
    (record { quiet = quiet-back ticks m.store k u.quiet; enough = rw (back-same m.store k) u.enough })

syncing-ends : (more ticks k : ℕ) (words : ℕ → List ℕ) (m : Moment) → Underway more ticks m.store → Ended (syncing more ticks k words m).last
unfolding syncing after_advance
syncing-ends more zero k words m u = record { done = refl }
syncing-ends zero (suc ticks) k words m u = absurd (omega (arith, u.enough, budget-low (table_of m.store) ticks (quiet-place u.quiet)))
syncing-ends (suc more) (suc ticks) k words m u =
    go (advance-quiet ticks x.store v.quiet) (syncing-ends more (suc ticks) (suc k) words) (syncing-ends more ticks (suc k) words)
  where
    x : Moment
    x = (after_words (words k) m).last

    v : Underway (suc more) (suc ticks) x.store
    v = words-underway (suc more) (suc ticks) (words k) m u

    go : Onward ticks x.store → ((y : Moment) → Underway more (suc ticks) y.store → Ended (syncing more (suc ticks) (suc k) words y).last)
        → ((y : Moment) → Underway more ticks y.store → Ended (syncing more ticks (suc k) words y).last)
        → Ended (by_reply (advance x.store).reply (syncing more (suc ticks) (suc k) words) (syncing more ticks (suc k) words) (λ _. stay) (record { store = (advance x.store).store; plain = told_advance (advance x.store).reply x.plain })).last
    go (went r q) a b = rw r (a _ (record { quiet = q; enough = omega (arith, v.enough, budget-on (advance-moves x.store) ticks r) }))
    go (ticked r q) a b = rw r (b _ (record { quiet = q; enough = omega (arith, v.enough, budget-tick (advance-moves x.store) ticks r) }))

pub sync-ends : (words : ℕ → List ℕ) (m : Moment) → sync_check m.store ≡ Ok tt → Ended (through (syncs words) m).last
unfolding through
sync-ends words m a =
    rw a (syncing-ends (2 * most_lines (slots_of m.store.working)) 2 0 words m (record { quiet = check-quiet m.store a; enough = budget-top (table_of m.store) }))
