-- The ways out of this crate's functions, and the invariants of its walks.
use Rattle.reply.specs.declared.Refusal.TheVariants.{Newer}
use Rattle.std.specs.Prelude.{ℕ, ◌+◌, ◌-◌, ◌≤◌, ◌<◌, ◌≡◌, Bool, true, false, List, eqb, Option, Some, None, Ok, Err}
use Rattle.std.proofs.Math.Path.{refl, sym}
use Rattle.std.proofs.Common.{◌∙◌, arith}
use Rattle.std.proofs.Math.Bool.{and-true, and-false}
use borrow.Author.Tests.{lt-ltb, le-ltb, eq-eqb, ne_eqb}
use Rattle.search.specs.Bools.{or_left, or_right}
use Rattle.search.specs.First.{Sought, sought-start, sought-next, sought-pass}
use Rattle.search.specs.From.{From, Hit, found_hit, found_past, from_start, froms}
use Rattle.search.specs.Some.{some-hit, some_end}
use Rattle.search.specs.Least.{nearer, Lowering, lowering-start, lowering-hit, lowering-pass, lowering-end}
use Rattle.image.specs.declared.header.Header.{Header}
use Rattle.image.specs.Layout.{queue_board, is_filled, is_payload, header, key_at}
use Rattle.image.specs.Requires.{board_at, Slot, HeaderFits, slot, header-fits}
use Rattle.transient.specs.declared.sizes.Sizes.{Sizes}
use Rattle.transient.specs.Layout.{retired_in}
use Rattle.transient.specs.Store.{Table}
use Rattle.transient.specs.Requires.{Shaped, ShapedSlot, shaped-slot, slot-note, slot-working, slot-head}
use Rattle.queue.specs.declared.Best.{Best}
use Rattle.queue.specs.Front.{entry_newer_at, entry_at, front_slot, front_lookup}
use Rattle.queue.specs.Requires.{nearer_at, stops_at, next_stop, best_at, slot_of, Walks}

-- ---- what the calls require
pub shaped-header : {wk tr : List ℕ} {z : Sizes} {s : ℕ} → Shaped wk tr z → s < z.n → HeaderFits wk z.n s
shaped-header y h = header-fits y.working h

-- ---- one slot: the tests in the order in which the code makes them
module _ (wk : List ℕ) (e s : ℕ) {h : Header} (at : h ≡ header wk s) where
  pub newer-other : (h.board ≡ queue_board → ⊥) → false ≡ entry_newer_at wk e s
  unfolding entry_newer_at
  newer-other d = rw (← at, ne_eqb h.board queue_board d) (sym (and-false (is_filled h)))

  module _ (d : h.board ≡ queue_board) where
    pub newer-older : h.epoch ≤ e → false ≡ entry_newer_at wk e s
    unfolding entry_newer_at
    newer-older l = rw (← at, eq-eqb h.board queue_board d, le-ltb e h.epoch l) (sym (and-false (is_filled h)))

    pub newer-none : e < h.epoch → e ≡ 0 → false ≡ entry_newer_at wk e s
    unfolding entry_newer_at
    newer-none l q = rw (← at, eq-eqb h.board queue_board d, lt-ltb e h.epoch l, eq-eqb e 0 q) (sym (and-false (is_filled h)))

    pub newer-filled : {f : Bool} → e < h.epoch → (e ≡ 0 → ⊥) → f ≡ is_filled h → f ≡ entry_newer_at wk e s
    unfolding entry_newer_at
    newer-filled l o q = rw (← at, eq-eqb h.board queue_board d, lt-ltb e h.epoch l, ne_eqb e 0 o) (q ∙ sym (and-true (is_filled h)))

module _ (z : Sizes) (tb : Table) (s : ℕ) {h : Header} (at : h ≡ header tb.working s) where
  pub entry_other : (h.board ≡ queue_board → ⊥) → false ≡ entry_at z tb s
  unfolding entry_at
  entry_other d =
      rw (← at, ne_eqb h.board queue_board d, and-false (eqb (retired_in z tb.transient s) 0))
      (sym (and-false (is_payload h)))

  module _ {p : Bool} (d : h.board ≡ queue_board) (pl : p ≡ is_payload h) where
    pub entry-not : p ≡ false → false ≡ entry_at z tb s
    unfolding entry_at
    entry-not e = rw (← at, ← pl, e)

    pub entry-retired : {r : ℕ} → p ≡ true → r ≡ retired_in z tb.transient s → eqb r 0 ≡ entry_at z tb s
    unfolding entry_at
    entry-retired {r} e re = rw (← at, ← pl, e, ← re, eq-eqb h.board queue_board d) (sym (and-true (eqb r 0)))

-- ---- a slot in front of the best so far
module _ (z : Sizes) (tb : Table) {best : Option Best} (s : ℕ) where
  pub nearer-back : {b : Best} {k : ℕ} → best ≡ Some b → k ≡ key_at tb.working z.n z.w s → b.order ≤ k → false ≡ nearer_at z tb best s
  unfolding nearer_at nearer
  nearer-back {b} {k} h e l = rw (h, ← e, le-ltb k b.order l) (sym (and-false (entry_at z tb s)))

  module _ {a : Bool} (q : a ≡ entry_at z tb s) where
    pub nearer-front : {b : Best} {k : ℕ} → best ≡ Some b → k ≡ key_at tb.working z.n z.w s → k < b.order → a ≡ nearer_at z tb best s
    unfolding nearer_at nearer
    nearer-front {b} {k} h e l = rw (h, ← e, lt-ltb k b.order l) (q ∙ sym (and-true (entry_at z tb s)))

    pub nearer-first : best ≡ None → a ≡ nearer_at z tb best s
    unfolding nearer_at nearer
    nearer-first h = rw h (q ∙ sym (and-true (entry_at z tb s)))

-- ---- where a walk stops
module _ (z : Sizes) (tb : Table) (e : ℕ) (best : Option Best) (s : ℕ) where
  pub stops-other : {b : ℕ} → b ≡ board_at tb.working s → (b ≡ queue_board → ⊥) → false ≡ stops_at z tb e best s
  unfolding stops_at nearer_at nearer header
  stops-other q d = rw (← newer-other tb.working e s refl (λ r. d (q ∙ r)), ← entry_other z tb s refl (λ r. d (q ∙ r)))

  module _ {a : Bool} (q : a ≡ entry_newer_at tb.working e s) where
    pub stops-newer : a ≡ true → true ≡ stops_at z tb e best s
    unfolding stops_at
    stops-newer t = rw (← q, t)

    pub stops-nearer : {r : Bool} → a ≡ false → r ≡ nearer_at z tb best s → r ≡ stops_at z tb e best s
    unfolding stops_at
    stops-nearer t h = rw (← q, t) h

-- the loop of such a walk
pub looking-start : (z : Sizes) (tb : Table) (e : ℕ) (best : Option Best) {wk tr : List ℕ} {from : ℕ} → Walks wk tr z from → From (stops_at z tb e best) z.n from from
looking-start z tb e best {from = from} y = from_start (stops_at z tb e best) z.n from y.top

pub walks-slot : {wk tr : List ℕ} {z : Sizes} {from s : ℕ} → Walks wk tr z from → s < z.n → ShapedSlot wk tr z s
walks-slot y h = shaped-slot y.shaped h

-- ---- the walk as a whole: below s there is no newer entry, and `best` is the front of those
pub record Fronting (z : Sizes) (tb : Table) (e s : ℕ) (best : Option Best) : Type 0 where
  pub older : Sought (entry_newer_at tb.working e) z.n s
  pub facing : Lowering (λ (b : Best). b.slot) (λ (b : Best). b.order) (entry_at z tb) (key_at tb.working z.n z.w) z.n s best

pub fronting-start : (z : Sizes) (tb : Table) (e : ℕ) → Fronting z tb e 0 None
fronting-start z tb e = record { older = sought-start _ z.n; facing = lowering-start _ _ _ _ z.n }

module _ (z : Sizes) (tb : Table) (e : ℕ) {from : ℕ} {best : Option Best} (y : Fronting z tb e from best) where
  -- past slots that do not stop it
  passed : (s : ℕ) → from ≤ s → s ≤ z.n → ((j : ℕ) → from ≤ j → j < s → stops_at z tb e best j ≡ false) → Fronting z tb e s best
  unfolding stops_at nearer_at
  passed s above top before =
      let d : from + (s - from) ≡ s = omega arith in
      let newer = entry_newer_at tb.working e in
      record {
        older = rw d at (sought-pass (s - from) y.older (omega arith) (λ j a b. or_left (newer j) _ (before j a (omega arith))));
        facing = rw d at (lowering-pass _ _ (s - from) y.facing (omega arith) (λ j a b. or_right (newer j) _ (before j a (omega arith))));
      }

  pub fronting-walks : {wk tr : List ℕ} → Shaped wk tr z → Walks wk tr z from
  fronting-walks u = record { shaped = u; top = y.older.low }

  module _ {k : Option ℕ} (c : k ≡ next_stop z tb e best from) where
    -- there is no stop: the front of all is known
    pub walked_all : {r : Option ℕ} → k ≡ None → r ≡ slot_of best → Ok r ≡ front_lookup z tb e
    unfolding front_lookup front_slot
    walked_all a p =
        let w = passed z.n y.older.low (omega arith) (λ j l h. found_past (stops_at z tb e best) z.n from (sym c ∙ a) j l h) in
        rw (p, ← some_end w.older (omega arith), ← lowering-end _ _ w.facing (omega arith))

    module _ {s : ℕ} (a : k ≡ Some s) where
      hit : Hit (stops_at z tb e best) z.n from s
      hit = found_hit (stops_at z tb e best) z.n from (sym c ∙ a)

      walked : Fronting z tb e s best
      walked = passed s hit.between.from (omega (arith, hit.between.below)) hit.before

      pub stop-below : s < z.n
      stop-below = hit.between.below

      -- it goes up
      pub walked-less : z.n - (s + 1) < z.n - from
      walked-less = omega (arith, hit.between.from, hit.between.below)

      module _ {b : Bool} (n : b ≡ entry_newer_at tb.working e s) where
        pub lookup-later : b ≡ true → Err Newer ≡ front_lookup z tb e
        unfolding front_lookup
        lookup-later t = rw (← some-hit walked.older hit.between.below n t)

        -- an entry that is not newer is in front of the best
        pub fronting-next : {r : Best} → b ≡ false → r ≡ best_at z tb.working s → Fronting z tb e (s + 1) (Some r)
        unfolding stops_at nearer_at
        fronting-next f p =
            let near = rw (← n, f) at hit.passes in
            rw p (record { older = sought-next walked.older hit.between.below n f; facing = lowering-hit _ _ walked.facing (best_at z tb.working s) refl refl hit.between.below near })

pub slot-some : {best : Option Best} {b : Best} → best ≡ Some b → Some b.slot ≡ slot_of best
slot-some e = rw e

pub slot-none : {best : Option Best} → best ≡ None → None ≡ slot_of best
slot-none e = rw e

pub best-made : (z : Sizes) (wk : List ℕ) (s : ℕ) {k : ℕ} → k ≡ key_at wk z.n z.w s → record { slot = s; order = k } ≡ best_at z wk s
best-made z wk s e = rw e

-- what the calls require
pub shaped-at : {wk tr : List ℕ} {z : Sizes} {s : ℕ} → Shaped wk tr z → s < z.n → Slot wk z.n z.w s
shaped-at y h = slot y.working h

pub ruleset laws = (shaped-slot, slot-note, slot-working, slot-head, shaped-header, newer-other, newer-older, newer-none, newer-filled, entry_other, entry-not, entry-retired, nearer-back, nearer-front, nearer-first, stops-other, stops-newer, stops-nearer, looking-start, froms, walks-slot, best-made, sought-start, sought-next, some-hit, some_end)

pub ruleset walks = (shaped-header, shaped-at, fronting-start, fronting-walks, walked_all, stop-below, walked-less, lookup-later, fronting-next, slot-some, slot-none)
