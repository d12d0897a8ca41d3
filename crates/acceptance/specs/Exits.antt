-- The ways out of this crate's functions: a law for each, and for each call.
use Rattle.std.specs.Prelude.{◌≡◌, ℕ, ◌<◌, Bool, true, false, List, length, Ok, Err}
use Rattle.std.proofs.Common.{sym, ◌∙◌, arith}
use Rattle.search.specs.Bools.{tests}
use Rattle.reply.specs.declared.Refusal.{Refusal}
use Rattle.reply.specs.declared.Refusal.TheVariants.{BadSizes, BadClock}
use Rattle.image.specs.Layout.{slots_of, width_of, clock_of, shape_ok, clock_ok}
use Rattle.image.specs.Requires.{Sized}
use Rattle.image.specs.Laws.{shaped}
use Rattle.acceptance.specs.Requires.{head_check}
use Rattle.acceptance.specs.Laws.{image-is, head-sized}
use Rattle.acceptance.specs.Checking.{Checked, Accepted, declines}
use Rattle.reply.specs.Refusals.{Check}

-- ---- the checks
module _ (l : List ℕ) {s : Bool} (sh : s ≡ shape_ok l) where
  pub head-shape : s ≡ false → Err BadSizes ≡ head_check l
  unfolding head_check
  head-shape e = rw (← sh, e)

  module _ {c : ℕ} {k : Bool} (st : s ≡ true) (at : c ≡ clock_of l) (ck : k ≡ clock_ok c) where
    pub head-clock : k ≡ false → Err BadClock ≡ head_check l
    unfolding head_check
    head-clock e = rw (← sh, st, ← at, ← ck, e)

    pub head-fine : k ≡ true → Ok tt ≡ head_check l
    unfolding head_check
    head-fine e = rw (← sh, st, ← at, ← ck, e)

pub shape-room : (l : List ℕ) {s : Bool} → s ≡ shape_ok l → s ≡ true → 2 < length l
shape-room l e t = let z = shaped l (sym e ∙ t) in omega arith

module _ (l : List ℕ) {k : Check} (c : k ≡ head_check l) where
  pub check-declines : {r : Refusal} {flags : List Bool} → k ≡ Err r → Accepted l (Err r) flags
  check-declines a = record { same = rw (image-is l, ← c, a); marked = declines }

  pub check-goes : {n w : ℕ} {r : Check} {flags : List Bool} → k ≡ Ok tt → n ≡ slots_of l → w ≡ width_of l → Checked l n w r flags → Accepted l r flags
  check-goes a p q h = record { same = rw (image-is l, ← c, a, ← p, ← q) h.same; marked = λ e. rw (← p) (h.marked e) }

  pub check-long : (j : ℕ) → k ≡ Ok tt → j < 3 → j < length l
  check-long j a h = let z = head-sized l (sym c ∙ a) in omega arith

  pub check-sized : {n w : ℕ} → k ≡ Ok tt → n ≡ slots_of l → w ≡ width_of l → Sized l n w
  check-sized a p q = rw (p, q) (head-sized l (sym c ∙ a))

pub ruleset heads = (tests, head-shape, head-clock, head-fine, shape-room)

pub ruleset whole = (check-declines, check-goes, check-long, check-sized)
