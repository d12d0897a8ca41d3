-- How many lines an advance can still store, from a place on: a step that goes on has less left, so an advance ticks after at
-- most `most_lines n` calls. Sync rests on it.
use Rattle.std.specs.Prelude.{ℕ, zero, suc, ◌+◌, ◌*◌, ◌-◌, ◌≤◌, ◌<◌, ◌≡◌, true, false, cond, length, ltb, eqb, Option, Some, None, Result, Ok, Err}
use Rattle.std.proofs.Math.Path.{refl}
use Rattle.std.proofs.Common.{sym, ◌∙◌, ⊎_elim, ne_eqb, ltb-true, arith}
use Rattle.search.specs.Bools.{cases}
use Rattle.search.specs.First.{where_found}
use Rattle.search.specs.From.{Between}
use Rattle.reply.specs.declared.Refusal.{Refusal}
use Rattle.image.specs.Layout.{slots_of, clock_of, free_header}
use Rattle.image.specs.Laws.{front-past-header, word-past-clock}
use Rattle.transient.specs.declared.sizes.Sizes.{Sizes}
use Rattle.transient.specs.Layout.{note, phase_at, place_at}
use Rattle.transient.specs.Laws.{retired-front, emptied-front, phase-set, slot-set}
use Rattle.transient.specs.Store.{Store, Table, table_of, sizes_of, Outcome}
use Rattle.transient.specs.Requires.{Notes, notes-after}
use Rattle.transient.specs.Passed.{entry-with}
use Rattle.index.specs.Laws.{removed-long}
use Rattle.step.specs.declared.Place.{Place}
use Rattle.step.specs.declared.Advance.{Advance}
use Rattle.step.specs.declared.Advance.TheVariants.{WentOn, Ticked}
use Rattle.step.specs.Step.{idle, reclaim_next, contents_next, header_next, clock_next, Stepped, place, passing, reclaimed, contents_flushed, header_flushed, ticking, flush_from, reclaim_from, step}
use Rattle.step.specs.Stages.{due_from, waiting_from}
use Rattle.step.specs.From.{due-between, waiting-between}
use Rattle.advance.specs.Advance.{noted, advance}
use Rattle.advance.specs.Stages.{most_lines, noted_place}
use Rattle.advance.specs.Ways.{next_step, advance-way}

-- the slots to look at while reclaiming, two lines a slot while flushing, and the clock
unfoldable pub left : ℕ → Place → ℕ
left n p =
    cond (eqb p.phase reclaim_next) (n - p.slot + 2 * n + 1)
    (cond (eqb p.phase contents_next) (2 * (n - p.slot) + 1)
    (cond (eqb p.phase header_next) (2 * (n - p.slot))
    (cond (eqb p.phase clock_next) 1 (most_lines n))))

abbrev pub lines_left : Table → ℕ
lines_left tb = left (slots_of tb.working) (noted_place tb.transient)

-- a phase is one of the four or none
phases : (P : ℕ → Type 0) → P reclaim_next → P contents_next → P header_next → P clock_next
    → ((k : ℕ) → eqb k reclaim_next ≡ false → eqb k contents_next ≡ false → eqb k header_next ≡ false → eqb k clock_next ≡ false → P k) → (k : ℕ) → P k
phases P a b c d e zero = e 0 refl refl refl refl
phases P a b c d e (suc zero) = a
phases P a b c d e (suc (suc zero)) = b
phases P a b c d e (suc (suc (suc zero))) = c
phases P a b c d e (suc (suc (suc (suc zero)))) = d
phases P a b c d e (suc (suc (suc (suc (suc k))))) =
    let j = suc (suc (suc (suc (suc k)))) in
    e j (ne_eqb j 1 (λ (q : j ≡ 1). omega arith)) (ne_eqb j 2 (λ (q : j ≡ 2). omega arith)) (ne_eqb j 3 (λ (q : j ≡ 3). omega arith)) (ne_eqb j 4 (λ (q : j ≡ 4). omega arith))

pub left-top : (n : ℕ) (p : Place) → left n p ≤ most_lines n
unfolding left
left-top n p =
    phases (λ k. left n (place k p.slot) ≤ most_lines n) (omega arith) (omega arith) (omega arith) (omega arith)
    (λ k a b c d. rw (a, b, c, d) (omega arith)) p.phase

pub left-low : (n : ℕ) (p : Place) → p.slot < n → 1 ≤ left n p
unfolding left
left-low n p h =
    phases (λ k. 1 ≤ left n (place k p.slot)) (omega arith) (omega arith) (omega arith) (omega arith)
    (λ k a b c d. rw (a, b, c, d) (omega arith)) p.phase

-- ---- what a step leaves, from a place with `most` lines left
pub record Goes (st : Store) (n most : ℕ) (x : Stepped) : Type 0 where
  pub slots : slots_of x.store.working ≡ slots_of st.working
  pub long : length x.store.transient ≡ length st.transient
  pub within : x.place.slot < n
  pub on : x.reply ≡ WentOn → left n x.place < most
  pub tick : x.reply ≡ Ticked → x.place.phase ≡ idle

different : {A : Type 0} → WentOn ≡ Ticked → A
different e = let z : ◌≡◌ {A = ℕ} 0 1 = cc in absurd (omega arith)

record Passing (n most : ℕ) (p : Place) : Type 0 where
  within : p.slot < n
  less : left n p < most

passed : (n s phase next most : ℕ) → s < n → (s + 1 < n → left n (place phase (s + 1)) < most) → left n (place next 0) < most → Passing n most (passing n s phase next)
unfolding passing
passed n s phase next most h a b =
    ⊎_elim
    (λ (t : ltb (s + 1) n ≡ true). rw t (record { within = ltb-true (s + 1) n t; less = a (ltb-true (s + 1) n t) }))
    (λ (f : ltb (s + 1) n ≡ false). rw f (record { within = omega arith; less = b }))
    (cases (ltb (s + 1) n))

module _ (z : Sizes) (st : Store) (c most : ℕ) where
  goes-reclaimed : (p s : ℕ) → Between z.n p s → z.n - p + 2 * z.n + 1 ≤ most → Goes st z.n most (reclaimed z st s)
  unfolding reclaimed left
  goes-reclaimed p s b m =
      let lo = b.from in
      let y = passed z.n s reclaim_next contents_next most b.below (λ u. omega arith) (omega arith) in
      record {
        slots = front-past-header st.working s 0 free_header (omega arith);
        long = removed-long z _ _ s ∙ (retired-front st.transient z s 0).head.long;
        within = y.within;
        on = λ _. y.less;
        tick = λ e. different e;
      }

  goes-header : (s : ℕ) → s < z.n → 2 * (z.n - s) ≤ most → Goes st z.n most (header_flushed z st s)
  unfolding header_flushed left
  goes-header s h m =
      let y = passed z.n s contents_next clock_next most h (λ u. omega arith) (omega arith) in
      record { slots = refl; long = refl; within = y.within; on = λ _. y.less; tick = λ e. different e }

  goes-ticking : 0 < z.n → Goes st z.n most (ticking z st c)
  unfolding ticking
  goes-ticking h =
      record {
        slots = word-past-clock st.working (c + 1) 0 (λ e. omega arith);
        long = (emptied-front st.transient z (c - 1)).head.long;
        within = h;
        on = λ e. different (sym e);
        tick = λ _. refl;
      }

  goes-flush : (p : ℕ) → p < z.n → 2 * (z.n - p) + 1 ≤ most → Goes st z.n most (flush_from z st c p)
  unfolding flush_from waiting_from contents_flushed left
  goes-flush p h m = go (waiting_from z st.transient c p) refl
    where
      go : (f : Option ℕ) → waiting_from z st.transient c p ≡ f → Goes st z.n most (where_found f (contents_flushed z st) (ticking z st c))
      go (Some s) e =
          let b = waiting-between z st.transient c p e in
          let lo = b.from in
          let hi = b.below in
          record { slots = refl; long = refl; within = hi; on = λ _. omega arith; tick = λ q. different q }
      go None e = goes-ticking (omega arith)

  goes-reclaim : (p : ℕ) → p < z.n → z.n - p + 2 * z.n + 1 ≤ most → Goes st z.n most (reclaim_from z st c p)
  unfolding reclaim_from due_from
  goes-reclaim p h m = go (due_from z (table_of st) c p) refl
    where
      go : (f : Option ℕ) → due_from z (table_of st) c p ≡ f → Goes st z.n most (where_found f (reclaimed z st) (flush_from z st c 0))
      go (Some s) e = goes-reclaimed p s (due-between z (table_of st) c p e) m
      go None e = goes-flush 0 (omega arith) (omega arith)

-- a step that goes on lowers what is left
pub step-goes : (z : Sizes) (st : Store) (c : ℕ) (p : Place) → p.slot < z.n → Goes st z.n (left z.n p) (step z st c p)
unfolding step left
step-goes z st c p h =
    phases
    (λ k. Goes st z.n (left z.n (place k p.slot)) (step z st c (place k p.slot)))
    (goes-reclaim z st c _ p.slot h (omega arith))
    (goes-flush z st c _ p.slot h (omega arith))
    (goes-header z st c _ p.slot h (omega arith))
    (goes-ticking z st c _ (omega arith))
    (λ k a b d e. rw (a, b, d, e) (goes-reclaim z st c (most_lines z.n) 0 (omega arith) (omega arith)))
    p.phase

-- ---- the same of an advance call
pub record Moves (st : Store) (x : Outcome (Result Advance Refusal)) : Type 0 where
  pub slots : slots_of x.store.working ≡ slots_of st.working
  pub on : x.reply ≡ Ok WentOn → lines_left (table_of x.store) < lines_left (table_of st)
  pub tick : x.reply ≡ Ok Ticked → (note phase_at x.store.transient ≡ idle) × (1 ≤ lines_left (table_of st))

-- a step from the notes' place, noted
noted-moves : (z : Sizes) (st : Store) (x : Stepped) → slots_of st.working ≡ z.n → Notes st.transient z → note place_at st.transient < z.n
    → Goes st z.n (left z.n (noted_place st.transient)) x → Moves st (noted x)
noted-moves z st x e m h g =
    let y : Notes x.store.transient z = notes-after g.long m in
    let a = phase-set y x.place.phase x.place.slot in
    let b = slot-set y x.place.phase x.place.slot in
    record {
      slots = g.slots;
      on = λ q. rw (g.slots, e, a, b) (g.on (given q));
      tick = λ q. (a ∙ g.tick (given q), rw e (left-low z.n (noted_place st.transient) h));
    }
  where
    given : {q : Advance} → ◌≡◌ {A = Result Advance Refusal} (Ok x.reply) (Ok q) → x.reply ≡ q
    given q = cc

declined-on : {A : Type 0} {r : Refusal} → ◌≡◌ {A = Result Advance Refusal} (Err r) (Ok WentOn) → A
declined-on e = let z : ◌≡◌ {A = ℕ} 0 1 = cc in absurd (omega arith)

declined-tick : {A : Type 0} {r : Refusal} → ◌≡◌ {A = Result Advance Refusal} (Err r) (Ok Ticked) → A
declined-tick e = let z : ◌≡◌ {A = ℕ} 0 1 = cc in absurd (omega arith)

slots-is : (st : Store) → slots_of st.working ≡ (sizes_of (table_of st)).n
unfolding sizes_of
slots-is st = refl

pub advance-moves : (st : Store) → Moves st (advance st)
unfolding next_step
advance-moves st =
    advance-way (Moves st) st
    (λ r. record { slots = refl; on = λ e. declined-on e; tick = λ e. declined-tick e })
    (λ a b.
    let y = (entry-with st.working st.persistent st.transient a).entered in
    noted-moves (sizes_of (table_of st)) st (next_step st) (slots-is st) y.shaped.notes y.place (step-goes _ st (clock_of st.working) (noted_place st.transient) y.place))
