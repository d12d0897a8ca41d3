-- A store on which a sync is underway: with no operation open each of its advance calls is accepted, and leaves such a store.
use Rattle.std.specs.Prelude.{ℕ, suc, ◌+◌, ◌-◌, ◌≤◌, ◌<◌, ◌≡◌, refl, Bool, true, false, not, ◌&&◌, List, ltb, eqb, Result, Ok}
use Rattle.std.proofs.Common.{sym, ap, ◌∙◌, le-leb, eq-eqb, ne_eqb, eqb-true, ltb-false, arith}
use Rattle.std.proofs.lemmas.Bool.{not-false}
use Rattle.search.specs.Some.{any_of, some-none, none-some, at_every}
use Rattle.reply.specs.declared.Refusal.TheVariants.{StillOpen, LastEpoch}
use Rattle.reply.specs.Refusals.{refuse, not-refused, both-accepted}
use Rattle.image.specs.Layout.{most_number, slots_of, clock_of, clock_ok}
use Rattle.transient.specs.declared.sizes.Sizes.{Sizes}
use Rattle.transient.specs.Layout.{note, place_at, open_epoch}
use Rattle.transient.specs.Laws.{place-long}
use Rattle.transient.specs.Store.{Store, store, table, table_of, sizes_of, outcome}
use Rattle.transient.specs.Entry.{opens_ok, entry_check}
use Rattle.transient.specs.Requires.{open_ok, clocks_fit, EnteredWith}
use Rattle.transient.specs.Passed.{entry-with, sized-with}
use Rattle.transient.specs.Again.{NotesKept, entry-passes, passes-entry, clocks-agree, sizes-again, notes-kept, kept-front, kept-place}
use Rattle.step.specs.declared.Advance.{Advance}
use Rattle.step.specs.declared.Advance.TheVariants.{WentOn, Ticked}
use Rattle.step.specs.Step.{Stepped}
use Rattle.step.specs.Kept.{Steady, Clocked, on, tick}
use Rattle.advance.specs.Advance.{noted, advance}
use Rattle.advance.specs.Stages.{underway, open_below, held_check, advance_sized, advance-is, noted_place}
use Rattle.advance.specs.Ways.{next_step}
use Rattle.advance.specs.Left.{step-goes}
use Rattle.advance.specs.Keeps.{next-kept}
use Rattle.sync.specs.Sync.{sync_check}
use Rattle.reply.specs.declared.Refusal.{Refusal}

-- a store on which a sync is underway: it passes refusals 1 and 2, nothing is open, and the clock has room for so many ticks
pub record Quiet (ticks : ℕ) (st : Store) : Type 0 where
  pub entry : entry_check st ≡ Ok tt
  pub none_open : (u : ℕ) → u < (sizes_of (table_of st)).t → open_epoch st.transient u ≡ 0
  pub room : clock_of st.working + ticks ≤ most_number

-- .. of these sizes: what the loop of a sync requires, and keeps
pub record Ready (ticks : ℕ) (wk l tr : List ℕ) (z : Sizes) : Type 0 where
  pub quiet : Quiet ticks (store wk l tr)
  pub sizes : z ≡ sizes_of (table wk tr)

-- clocks that agree, in range, with nothing open
clocks-fit : (wk l tr : List ℕ) (t c : ℕ) → clock_of wk ≡ c → clock_of l ≡ c → 2 ≤ c → c ≤ most_number → ((u : ℕ) → u < t → open_epoch tr u ≡ 0) → clocks_fit wk l tr t ≡ true
unfolding clocks_fit clock_ok opens_ok open_ok
clocks-fit wk l tr t c a b lo hi none =
    rw (a, b, le-leb 2 c lo, le-leb c most_number hi, eq-eqb c c refl)
    (at_every (λ u. open_ok c (open_epoch tr u)) t (λ u h. rw (none u h)))

-- a step noted leaves the sizes
noted-sizes : (st : Store) (x : Stepped) → Steady (sizes_of (table_of st)) st x → sizes_of (table_of (noted x).store) ≡ sizes_of (table_of st)
unfolding sizes_of
noted-sizes st x s = rw (place-long x.store.transient (sizes_of (table_of st)) x.place.phase x.place.slot, s.notes.head.long, s.working.slots, s.working.width)

-- .. and refusals 1 and 2 pass again
module _ (st : Store) (x : Stepped) (ok : entry_check st ≡ Ok tt) (s : Steady (sizes_of (table_of st)) st x) (within : x.place.slot < slots_of st.working) (c : ℕ)
    (clock-w : clock_of x.store.working ≡ c) (clock-l : clock_of x.store.persistent ≡ c) (lo : 2 ≤ c) (none : (u : ℕ) → u < (sizes_of (table_of st)).t → open_epoch st.transient u ≡ 0) where
  abbrev z : Sizes
  z = sizes_of (table_of st)

  abbrev tr : List ℕ
  tr = (noted x).store.transient

  -- the place alone was written
  notes-after-step : NotesKept z st.transient tr
  unfolding sizes_of
  notes-after-step =
      let y = (entry-with st.working st.persistent st.transient ok).entered in
      kept-place (kept-front (notes-kept y) s.notes) y.shaped.notes x.place.phase x.place.slot within

  none_after : (u : ℕ) → u < (sizes_of (table_of (noted x).store)).t → open_epoch tr u ≡ 0
  none_after u h =
      let k : u < z.t = rw (noted-sizes st x s) at h in
      notes-after-step.opens u k ∙ none u k

  noted-quiet : (ticks : ℕ) → c + ticks ≤ most_number → Quiet ticks (noted x).store
  noted-quiet ticks h =
      record {
        entry = passes-entry (record { sizes = sizes-again (entry-passes st ok).sizes s.working s.persistent notes-after-step; clocks = clocks-fit x.store.working x.store.persistent tr _ c clock-w clock-l lo (omega arith) none_after });
        none_open = none_after;
        room = omega (arith, clock-w);
      }

-- ---- an advance call of a sync
pub data Onward (k : ℕ) (st : Store) : Type 0 where
  went : (advance st).reply ≡ Ok WentOn → Quiet (suc k) (advance st).store → Onward k st
  ticked : (advance st).reply ≡ Ok Ticked → Quiet k (advance st).store → Onward k st

-- 14 and 15 pass
quiet_check : (z : Sizes) (tr : List ℕ) (c : ℕ) → 2 ≤ c → c < most_number → ((u : ℕ) → u < z.t → open_epoch tr u ≡ 0) → held_check z tr c ≡ Ok tt
unfolding held_check open_below
quiet_check z tr c lo hi none =
    let below = none-some (λ u. eqb (open_epoch tr u + 1) c) z.t (λ u h. ne_eqb _ c (λ q. omega (arith, none u h))) in
    rw (below, ne_eqb c most_number (λ q. omega arith)) (never-held (underway tr))
  where
    never-held : (b : Bool) → refuse (not b && false) StillOpen (Ok tt) ≡ Ok tt
    never-held true = refl
    never-held false = refl

module _ (k : ℕ) (st : Store) (q : Quiet (suc k) st) where
  abbrev before : EnteredWith st.working st.persistent st.transient (sizes_of (table_of st))
  before = entry-with st.working st.persistent st.transient q.entry

  next-is : advance st ≡ noted (next_step st)
  unfolding advance_sized next_step
  next-is = rw (advance-is st, q.entry, quiet_check (sizes_of (table_of st)) st.transient (clock_of st.working) before.entered.clock-lo (omega (arith, q.room)) q.none_open)

  same : clock_of st.persistent ≡ clock_of st.working
  same = clocks-agree st.working st.persistent st.transient _ (entry-passes st q.entry).clocks

  within : (next_step st).place.slot < slots_of st.working
  unfolding next_step sizes_of
  within = (step-goes (sizes_of (table_of st)) st _ (noted_place st.transient) before.entered.place).within

  after : (d ticks : ℕ) → clock_of (next_step st).store.working ≡ d → clock_of (next_step st).store.persistent ≡ d → 2 ≤ d → d + ticks ≤ most_number → Quiet ticks (advance st).store
  after d ticks a b lo hi = rw next-is (noted-quiet st (next_step st) q.entry (next-kept st q.entry).steady within d a b lo q.none_open ticks hi)

  onward-from : Clocked st (clock_of st.working) (next_step st) → Onward k st
  onward-from (on e a b) = went (rw next-is (ap Ok e)) (after (clock_of st.working) (suc k) a (b ∙ same) before.entered.clock-lo q.room)
  onward-from (tick e a b) = ticked (rw next-is (ap Ok e)) (after (clock_of st.working + 1) k a b (omega (arith, before.entered.clock-lo)) (omega (arith, q.room)))

  pub advance-quiet : Onward k st
  advance-quiet = onward-from (next-kept st q.entry).clocked

  quiet-on : (advance st).reply ≡ Ok WentOn → Quiet (suc k) (advance st).store
  quiet-on e = go advance-quiet
    where
      go : Onward k st → Quiet (suc k) (advance st).store
      go (went a x) = x
      go (ticked a x) = let y : ◌≡◌ {A = ℕ} 0 1 = cc in absurd (omega arith)

  quiet-tick : (advance st).reply ≡ Ok Ticked → Quiet k (advance st).store
  quiet-tick e = go advance-quiet
    where
      go : Onward k st → Quiet k (advance st).store
      go (went a x) = let y : ◌≡◌ {A = ℕ} 0 1 = cc in absurd (omega arith)
      go (ticked a x) = x

  sizes-kept : sizes_of (table_of (advance st).store) ≡ sizes_of (table_of st)
  sizes-kept = rw next-is (noted-sizes st (next_step st) (next-kept st q.entry).steady)

-- ---- the same of the sizes that the call has read once
module _ {ticks : ℕ} {wk l tr : List ℕ} {z : Sizes} (y : Ready ticks wk l tr z) where
  pub ready-entered : EnteredWith wk l tr z
  ready-entered = sized-with (entry-with wk l tr y.quiet.entry) y.sizes

  pub ready-advance : advance_sized z (store wk l tr) ≡ advance (store wk l tr)
  ready-advance = rw (advance-is (store wk l tr), y.quiet.entry, y.sizes)

module _ {ticks : ℕ} {wk l tr : List ℕ} {z : Sizes} (y : Ready ticks wk l tr z) (h : 0 < ticks) where
  some : suc (ticks - 1) ≡ ticks
  some = omega arith

  quiet : Quiet (suc (ticks - 1)) (store wk l tr)
  quiet = rw some y.quiet

  module _ {r : Result Advance Refusal} {wk' l' tr' : List ℕ} (e : outcome r wk' l' tr' ≡ advance (store wk l tr)) where
    ready-sizes : z ≡ sizes_of (table wk' tr')
    ready-sizes = y.sizes ∙ sym (rw (← e) at (sizes-kept (ticks - 1) (store wk l tr) quiet))

    pub ready_on : r ≡ Ok WentOn → Ready ticks wk' l' tr' z
    ready_on q =
        let on : Quiet (suc (ticks - 1)) (store wk' l' tr') = rw (← e) at (quiet-on (ticks - 1) (store wk l tr) quiet) q in
        record { quiet = rw some at on; sizes = ready-sizes }

    pub ready-tick : r ≡ Ok Ticked → Ready (ticks - 1) wk' l' tr' z
    ready-tick q = record { quiet = rw (← e) at (quiet-tick (ticks - 1) (store wk l tr) quiet) q; sizes = ready-sizes }

-- the place is one of the table
pub quiet-place : {ticks : ℕ} {st : Store} → Quiet ticks st → note place_at st.transient < slots_of st.working
unfolding sizes_of
quiet-place {st = st} q = (entry-with st.working st.persistent st.transient q.entry).entered.place

-- refusals 1, 2, 14 and 15 passed
pub check-quiet : (st : Store) → sync_check st ≡ Ok tt → Quiet 2 st
unfolding sync_check
check-quiet st a =
    let both = both-accepted (entry_check st) _ a in
    let open_in : ℕ → Bool = λ u. not (eqb (open_epoch st.transient u) 0) in
    let high = ltb (most_number - 2) (clock_of st.working) in
    let first = not-refused (any_of open_in (sizes_of (table_of st)).t) StillOpen (refuse high LastEpoch (Ok tt)) both.1 in
    let top = ltb-false (most_number - 2) (clock_of st.working) (not-refused high LastEpoch (Ok tt) first.1).0 in
    record {
      entry = both.0;
      none_open = λ u h. eqb-true _ 0 (not-false _ (some-none open_in (sizes_of (table_of st)).t first.0 u h));
      room = omega arith;
    }
