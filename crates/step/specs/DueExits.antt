-- The ways out of the search for what is due.
use Rattle.std.specs.Prelude.{ℕ, ◌+◌, ◌-◌, ◌≤◌, ◌<◌, ◌≡◌, Bool, true, false, not, List, leb, eqb, Option, Some, None, min}
use Rattle.std.proofs.Math.Path.{refl, sym}
use Rattle.std.proofs.Common.{◌∙◌}
use Rattle.std.proofs.Math.Bool.{and-true, and-false}
use borrow.Author.Tests.{le-leb, lt-leb, leb-true, eq-eqb, ne_eqb, eqb-false, not-true}
use native.Mathlib.Omega.{arith}
use Rattle.search.specs.Bools.{and_left, and_right}
use Rattle.search.specs.First.{Sought, sought-start, sought-next}
use Rattle.search.specs.From.{first_from, From, from_start, from_end, from-pass, within-hit, within_none, froms}
use Rattle.search.specs.Rounds.{Onward, onward, onward-less}
use Rattle.search.specs.Some.{Seen, some-none, some-hit, some_end, seen_start, seen-hit, seen-miss, seen_end}
use Rattle.image.specs.declared.header.Header.{Header}
use Rattle.image.specs.Layout.{has_zero, is_payload, header}
use Rattle.image.specs.Requires.{HeaderFits, slot, header-fits}
use Rattle.transient.specs.declared.sizes.Sizes.{Sizes}
use Rattle.transient.specs.Layout.{retired_in}
use Rattle.transient.specs.Store.{table}
use Rattle.transient.specs.Requires.{NoteOf, ShapedSlot, note-of, shaped-slot, slot-note, slot-head}
use Rattle.step.specs.Step.{due}
use Rattle.step.specs.Requires.{Looking, Among, NoteGroup, HeaderGroup, retired_due, payload_due, anti_due, is_retired, any_retired, is_delete, any_delete, group_stays}
use Rattle.step.specs.From.{due-is}

-- ---- one slot
pub retired-none : (r c : ℕ) → r ≡ 0 → false ≡ retired_due r c
unfolding retired_due
retired-none r c h = rw (eq-eqb r 0 h)

pub retired-due : (r c : ℕ) {a b : ℕ} → (r ≡ 0 → ⊥) → a ≡ r → b ≡ c → eqb (a + 2) b ≡ retired_due r c
unfolding retired_due
retired-due r c h p q = rw (ne_eqb r 0 h, p, q)

module _ (z : Sizes) (wk tr : List ℕ) (c s : ℕ) where
  module _ {r : ℕ} {d : Bool} (re : r ≡ retired_in z tr s) (de : d ≡ retired_due r c) where
    pub payload-young : d ≡ false → false ≡ payload_due z (table wk tr) c s
    unfolding payload_due
    payload-young e = rw (← re, ← de, e) (sym (and-false (is_payload (header wk s))))

    pub payload-old : {h : Header} {p : Bool} → d ≡ true → h ≡ header wk s → p ≡ is_payload h → p ≡ payload_due z (table wk tr) c s
    unfolding payload_due
    payload-old {h} e at pe = rw (← re, ← de, e, ← at, and-true (is_payload h)) pe

  module _ {q : Bool} (qe : q ≡ payload_due z (table wk tr) c s) where
    pub due-payload : q ≡ true → true ≡ due z (table wk tr) c s
    unfolding due payload_due retired_due
    due-payload e = rw (← qe, e)

    pub due-anti : {a : Bool} → q ≡ false → a ≡ anti_due wk c s → a ≡ due z (table wk tr) c s
    unfolding due payload_due retired_due anti_due
    due-anti e a = rw (← qe, e) a

  module _ {h : Header} (at : h ≡ header wk s) where
    pub anti-other : (h.kind ≡ 3 → ⊥) → false ≡ anti_due wk c s
    unfolding anti_due
    anti-other k = rw (← at, ne_eqb h.kind 3 k) (sym (and-false (not (has_zero h))))

    module _ {o : Bool} (k : h.kind ≡ 3) (oe : o ≡ has_zero h) where
      pub anti-zero : o ≡ true → false ≡ anti_due wk c s
      unfolding anti_due
      anti-zero e = rw (← at, ← oe, e)

      pub anti-old : {a b : ℕ} → o ≡ false → a ≡ h.epoch → b ≡ c → eqb (a + 3) b ≡ anti_due wk c s
      unfolding anti_due
      anti-old e x y = rw (← at, ← oe, e, k, x, y)

-- ---- one by one
pub among-start : (c : ℕ) {wk tr : List ℕ} {z : Sizes} {p to : ℕ} → Among wk tr z p to → From (due z (table wk tr) c) to p p
among-start c {wk} {tr} {z} {p} {to} y = from_start (due z (table wk tr) c) to p (omega (arith, y.some))

pub among-slot : {wk tr : List ℕ} {z : Sizes} {p to s : ℕ} → Among wk tr z p to → s < to → ShapedSlot wk tr z s
among-slot y h = shaped-slot y.shaped (omega (arith, y.top))

-- ---- sixteen at once
-- a loop over their notes
module _ (tr : List ℕ) (z : Sizes) (e s : ℕ) where
  pub retired-start : Seen (is_retired z tr e s) 16 0 false
  retired-start = seen_start (is_retired z tr e s) 16

  module _ {j r : ℕ} {b : Bool} (y : Seen (is_retired z tr e s) 16 j b) (h : j < 16) (re : r ≡ retired_in z tr (s + j)) where
    pub retired-hit : r ≡ e → Seen (is_retired z tr e s) 16 (j + 1) true
    unfolding is_retired
    retired-hit q = seen-hit y h (eq-eqb (retired_in z tr (s + j)) e (sym re ∙ q))

    pub retired-miss : (r ≡ e → ⊥) → Seen (is_retired z tr e s) 16 (j + 1) b
    unfolding is_retired
    retired-miss q = seen-miss y h (ne_eqb (retired_in z tr (s + j)) e (λ k. q (re ∙ k)))

  pub retired-end : {j : ℕ} {b : Bool} → Seen (is_retired z tr e s) 16 j b → 16 ≤ j → b ≡ any_retired z tr e s
  unfolding any_retired
  retired-end y h = seen_end y h

pub group-note : {tr : List ℕ} {z : Sizes} {s j : ℕ} → NoteGroup tr z s → j < 16 → NoteOf tr z (s + j)
group-note y h = note-of y.notes (omega (arith, y.top))

-- .. and over their headers
module _ (wk : List ℕ) (s : ℕ) where
  pub delete-start : Sought (is_delete wk s) 16 0
  delete-start = sought-start (is_delete wk s) 16

  module _ {j : ℕ} {h : Header} (y : Sought (is_delete wk s) 16 j) (l : j < 16) (he : h ≡ header wk (s + j)) where
    pub delete-hit : h.kind ≡ 3 → true ≡ any_delete wk s
    unfolding any_delete is_delete
    delete-hit q = some-hit y l refl (rw (← he) (eq-eqb h.kind 3 q))

    pub delete-miss : (h.kind ≡ 3 → ⊥) → Sought (is_delete wk s) 16 (j + 1)
    unfolding is_delete
    delete-miss q = sought-next y l refl (rw (← he) (ne_eqb h.kind 3 q))

  pub delete-end : {j : ℕ} → Sought (is_delete wk s) 16 j → 16 ≤ j → false ≡ any_delete wk s
  unfolding any_delete
  delete-end y h = some_end y h

pub group-header : {wk : List ℕ} {z : Sizes} {s j : ℕ} → HeaderGroup wk z s → j < 16 → HeaderFits wk z.n (s + j)
group-header y h = header-fits y.sized (omega (arith, y.top))

-- both
module _ {wk tr : List ℕ} {z : Sizes} {c s : ℕ} (y : Looking wk tr z c s) where
  pub looking-notes : s + 16 ≤ z.n → NoteGroup tr z s
  looking-notes h = record { notes = y.slot.notes; top = h }

  pub looking-headers : s + 16 ≤ z.n → HeaderGroup wk z s
  looking-headers h = record { sized = y.slot.slot.sized; top = h }

  pub looking-at : {m : ℕ} → m < z.n → Looking wk tr z c m
  looking-at h = record { slot = record { slot = slot y.slot.slot.sized h; notes = y.slot.notes }; clock = y.clock }

module _ (wk tr : List ℕ) (z : Sizes) (c s : ℕ) where
  pub stays-few : z.n < s + 16 → false ≡ group_stays z (table wk tr) c s
  unfolding group_stays
  stays-few h = rw (lt-leb (s + 16) z.n h)

  module _ {a : Bool} (h : s + 16 ≤ z.n) (ae : a ≡ any_retired z tr (c - 2) s) where
    pub stays-retired : a ≡ true → false ≡ group_stays z (table wk tr) c s
    unfolding group_stays
    stays-retired q = rw (le-leb (s + 16) z.n h, ← ae, q)

    module _ {d : Bool} (q : a ≡ false) (de : d ≡ any_delete wk s) where
      pub stays-delete : d ≡ true → false ≡ group_stays z (table wk tr) c s
      unfolding group_stays
      stays-delete r = rw (le-leb (s + 16) z.n h, ← ae, q, ← de, r)

      pub stays_all : d ≡ false → true ≡ group_stays z (table wk tr) c s
      unfolding group_stays
      stays_all r = rw (le-leb (s + 16) z.n h, ← ae, q, ← de, r)

-- what is neither retired two epochs ago nor a DELETE is not due
not-due : (z : Sizes) (wk tr : List ℕ) (c m : ℕ) → 2 ≤ c → eqb (retired_in z tr m) (c - 2) ≡ false → eqb (header wk m).kind 3 ≡ false → due z (table wk tr) c m ≡ false
unfolding due
not-due z wk tr c m h r k =
    let q = eqb-false (retired_in z tr m) (c - 2) r in
    rw (ne_eqb (retired_in z tr m + 2) c (λ e. q (omega arith)), k, and-false (not (eqb (retired_in z tr m) 0)), and-false (is_payload (header wk m)), and-false (not (has_zero (header wk m))))

-- ---- the walk, sixteen a round
pub looking-start : {wk tr : List ℕ} {z : Sizes} {c p : ℕ} → Looking wk tr z c p → From (due z (table wk tr) c) z.n p p
looking-start {wk} {tr} {z} {c} {p} y = from_start (due z (table wk tr) c) z.n p (omega (arith, y.slot.slot.within))

module _ {wk tr : List ℕ} {z : Sizes} {c p s : ℕ} (y : Looking wk tr z c p) (f : From (due z (table wk tr) c) z.n p s) where
  -- past sixteen
  pub group-over : {w : Bool} → w ≡ group_stays z (table wk tr) c s → w ≡ true → From (due z (table wk tr) c) z.n p (s + 16)
  unfolding group_stays any_retired any_delete is_retired is_delete
  group-over we q =
      let all = sym we ∙ q in
      let top = leb-true (s + 16) z.n (and_left (leb (s + 16) z.n) _ all) in
      let rest = and_right (leb (s + 16) z.n) _ all in
      let r = not-true _ (and_left (not (any_retired z tr (c - 2) s)) _ rest) in
      let d = not-true _ (and_right (not (any_retired z tr (c - 2) s)) _ rest) in
      from-pass f (omega arith) top
      (λ m a b.
      let i : s + (m - s) ≡ m = omega arith in
      let few : m - s < 16 = omega arith in
      not-due z wk tr c m y.clock (rw i at (some-none (is_retired z tr (c - 2) s) 16 r (m - s) few)) (rw i at (some-none (is_delete wk s) 16 d (m - s) few)))

  -- or to where these end, one by one
  module _ {to : ℕ} (h : s < z.n) (t : to ≡ min (s + 16) z.n) where
    on : Onward (s + 16) z.n s to
    on = onward (omega arith) h t

    pub group-less : z.n - to < z.n - s
    group-less = onward-less on

    pub group-among : Among wk tr z s to
    group-among = record { shaped = record { working = y.slot.slot.sized; notes = y.slot.notes }; some = on.past; top = on.top }

    module _ {g : Option ℕ} (ge : g ≡ first_from (due z (table wk tr) c) to s) where
      pub group-hit : {m : ℕ} → g ≡ Some m → Some m ≡ first_from (due z (table wk tr) c) z.n p
      group-hit a = within-hit f (omega (arith, on.past)) on.top (λ j l b. refl) ge a

      pub group-none : g ≡ None → From (due z (table wk tr) c) z.n p to
      group-none a = within_none f (omega (arith, on.past)) on.top (λ j l b. refl) ge a

pub ruleset dues = (froms, slot-note, slot-head, retired-none, retired-due, payload-young, payload-old, due-payload, due-anti, anti-other, anti-zero, anti-old, among-start, among-slot)

pub ruleset groups = (retired-start, retired-hit, retired-miss, retired-end, group-note, delete-start, delete-hit, delete-miss, delete-end, group-header, looking-notes, looking-headers, stays-few, stays-retired, stays-delete, stays_all)

pub ruleset walks = (from_end, looking-at, looking-start, group-among, group-less, group-over, group-hit, group-none, due-is)
