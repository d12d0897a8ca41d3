-- The ways out of the functions on the waiting lists.
use Rattle.std.specs.Prelude.{◌≡◌, ℕ, ◌+◌, ◌-◌, ◌*◌, ◌/◌, ◌%◌, ◌^◌, ◌<◌, List, replicate, ◌≢◌, slice_index, slice_index_or, slice_set, Some, min}
use Rattle.std.proofs.Math.Path.{refl}
use borrow.Author.Tests.{ne_eqb}
use Rattle.std.proofs.Common.{Fits, mod-eq_of_lt, arith}
use Rattle.std.specs.Int.{w32}
use Rattle.std.proofs.Math.Pow.{pow-lt}
use Rattle.search.specs.From.{first_from, From, from_start, from_next, from-hit, from_end, from-pass}
use Rattle.search.specs.Rounds.{Onward, onward, onward-less}
use Rattle.image.specs.Line.{stored}
use Rattle.transient.specs.declared.sizes.Sizes.{Sizes}
use Rattle.transient.specs.Layout.{lists_at, waiting_at, has_bit, is_waiting, with_bit, set_waiting, emptied}
use Rattle.transient.specs.Requires.{InIndex, NoteOf, Listed, Worded, note-of, requires-laws}
use Rattle.transient.specs.Bits.{bit_past, with-fits}

-- ---- where words stand
pub list_at : (e : ℕ) {d : ℕ} → d ≡ e % 2 → Listed e (lists_at + 32 * d)
list_at e h = record { same = omega arith; top = omega arith }

pub word_at : (e s : ℕ) {b : ℕ} {z : Sizes} → InIndex z s → Listed e b → Worded e s (b + s / 32)
word_at e s i y = record { same = omega (arith, y.same); top = omega (arith, y.top, i.within, i.sizes.slots-hi) }

-- ---- a slot joins, a list is emptied
module _ (x j : ℕ) where
  pub bit-there : x / 2 ^ j % 2 ≡ 1 → x ≡ with_bit x j
  unfolding with_bit has_bit
  bit-there h = rw h

  -- the machine's 1 << j
  one_up : j < 32 → 1 * 2 ^ j % 2 ^ 32 ≡ 2 ^ j
  one_up h = let e : 1 * 2 ^ j ≡ 2 ^ j = omega arith in rw e (mod-eq_of_lt (pow-lt h))

  pub bit-made : j < 32 → (x / 2 ^ j % 2 ≢ 1) → x + 1 * 2 ^ j % 2 ^ 32 ≡ with_bit x j
  unfolding with_bit has_bit
  bit-made k h = rw (one_up k, ne_eqb (x / 2 ^ j % 2) 1 h)

  pub bit-fits : x < 2 ^ 32 → j < 32 → (x / 2 ^ j % 2 ≢ 1) → Fits w32 (x + 1 * 2 ^ j % 2 ^ 32)
  bit-fits l k h = rw (bit-made k h) (omega (arith, with-fits 32 j x k l))

pub bit-stored : (tr : List ℕ) (e s : ℕ) {b x : ℕ} → Worded e s b → x ≡ with_bit (slice_index tr b) (s % 32) → slice_set tr b x ≡ set_waiting tr e s
unfolding set_waiting
bit-stored tr e s y q = rw (q, y.same)

pub list-emptied : (tr : List ℕ) (e : ℕ) {b : ℕ} {tr' : List ℕ} → Listed e b → tr' ≡ stored tr b (replicate 32 0) 32 → tr' ≡ emptied tr e
unfolding emptied
list-emptied tr e y h = rw (← y.same) h

-- ---- the walk along a list
pub walk_start : (e : ℕ) {tr : List ℕ} {z : Sizes} {p : ℕ} → NoteOf tr z p → From (is_waiting tr e) z.n p p
walk_start e {tr} {z} {p} y = from_start (is_waiting tr e) z.n p (omega (arith, y.within))

pub walk-slot : {tr : List ℕ} {z : Sizes} {p s : ℕ} → NoteOf tr z p → s < z.n → NoteOf tr z s
walk-slot y h = note-of y.notes h

module _ (e : ℕ) (tr : List ℕ) {n p s b : ℕ} (f : From (is_waiting tr e) n p s) (h : s < n) (y : Worded e s b) where
  module _ {to : ℕ} (t : to ≡ min (s - s % 32 + 32) n) where
    -- to where the slots of its word end
    on : Onward (s - s % 32 + 32) n s to
    on = onward (omega arith) h t

    pub walk-less : n - to < n - s
    walk-less = onward-less on

    -- none of the rest of the word waits
    pub walk-over : slice_index_or tr b 0 / 2 ^ (s % 32) ≡ 0 → From (is_waiting tr e) n p to
    unfolding is_waiting
    walk-over q =
        from-pass f (omega (arith, on.past)) on.top
        (λ j l i.
        let w : waiting_at e j ≡ b = omega (arith, y.same, on.few) in
        rw w (bit_past (s % 32) (j % 32) (slice_index tr b) (omega (arith, on.few)) q))

  -- it waits, or goes on
  pub walk-hit : slice_index_or tr b 0 / 2 ^ (s % 32) % 2 ≡ 1 → Some s ≡ first_from (is_waiting tr e) n p
  unfolding is_waiting has_bit
  walk-hit q = from-hit f refl h (rw (← y.same, q))

  pub walk-next : (slice_index tr b / 2 ^ (s % 32) % 2 ≢ 1) → From (is_waiting tr e) n p (s + 1)
  unfolding is_waiting has_bit
  walk-next q = from_next f refl h (rw (← y.same, ne_eqb (slice_index tr b / 2 ^ (s % 32) % 2) 1 q))

pub ruleset lists = (requires-laws, list_at, word_at, bit-there, bit-made, bit-fits, bit-stored, list-emptied)

pub ruleset walks = (from_end, requires-laws, walk_start, walk-slot, walk-over, walk-less, walk-hit, walk-next)
