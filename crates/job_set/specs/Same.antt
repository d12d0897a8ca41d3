-- The test whether a slot holds a value; and that a value that passes is the one held.
use Rattle.std.specs.Prelude.{ℕ, ◌+◌, ◌-◌, ◌≤◌, ◌≡◌, Bool, true, false, List, length, get_or, take, drop, eqb, nat_eq}
use Rattle.std.proofs.Math.Path.{refl, sym}
use Rattle.std.proofs.Common.{◌∙◌, length-take, length-drop, take_all}
use Rattle.std.proofs.Math.Seq.{ext_get_or}
use Rattle.std.specs.Cmp.Lexicographic.{pointwise, same_text, other_text}
use borrow.Author.Tests.{eq-eqb, eqb-true}
use native.Mathlib.Omega.{arith}
use Rattle.search.specs.Some.{every-at, at_every}
use Rattle.image.specs.Layout.{contents_at, value_at}
use Rattle.transient.specs.declared.sizes.Sizes.{Sizes}
use Rattle.table.specs.Requires.{SlotValue, value-slot}
use Rattle.job_set.specs.Set.{same_value}

-- a word of a value is the one that the slot has
abbrev same_word : Sizes → List ℕ → ℕ → List ℕ → ℕ → Bool
same_word z wk s value i = eqb (get_or value i 0) (get_or (value_at wk z.n z.w s) i 0)

-- ---- what passes
module _ {z : Sizes} {wk : List ℕ} {s : ℕ} {value : List ℕ} (k : SlotValue wk z s value) where
  value-long : length (value_at wk z.n z.w s) ≡ z.w - 1
  unfolding value_at
  value-long = simp (length-take, length-drop) (omega (arith, k.slot.room, k.slot.sized.long))

  pub same-says : same_value z wk s value ≡ true → value ≡ value_at wk z.n z.w s
  unfolding same_value
  same-says e =
      ext_get_or 0 value (value_at wk z.n z.w s) (k.words ∙ sym value-long)
      (λ i h. eqb-true _ _ (every-at (same_word z wk s value) (z.w - 1) e i (omega (arith, k.words))))

  same-held : value ≡ value_at wk z.n z.w s → same_value z wk s value ≡ true
  unfolding same_value
  same-held e = at_every (same_word z wk s value) (z.w - 1) (λ i h. rw (← e) (eq-eqb _ _ refl))

  same-told : (r : Bool) → r ≡ pointwise nat_eq value (value_at wk z.n z.w s) → r ≡ same_value z wk s value
  same-told true e = sym (same-held (same_text value _ e))
  same-told false e = go (same_value z wk s value) refl
    where
      go : (b : Bool) → same_value z wk s value ≡ b → false ≡ b
      go true q = elim (other_text value _ e (same-says q)) [ ]
      go false q = refl

  -- all j words of the value, and those of the slot's, which stand from c + 1 on
  module _ {c j : ℕ} (at : c ≡ contents_at z.n z.w s) (all : j ≡ z.w - 1) where
    pub same-is : {r : Bool} → r ≡ pointwise nat_eq (take j value) (take (c + 1 + j - (c + 1)) (drop (c + 1) wk)) → r ≡ same_value z wk s value
    unfolding value_at
    same-is {r} e =
        let w : c + 1 + j - (c + 1) ≡ z.w - 1 = omega arith in
        let t : take j value ≡ value = take_all j value (omega (arith, k.words)) in
        same-told r (rw (w, t, at) at e)

    -- .. both from word i on, where i is 0: a test that passes over words fails here
    pub same-from : {i : ℕ} {r : Bool} → i ≡ 0 → r ≡ pointwise nat_eq (take (j - i) (drop i value)) (take (c + 1 + j - (c + 1 + i)) (drop (c + 1 + i) wk)) → r ≡ same_value z wk s value
    same-from {i} {r} none e =
        let u : j - i ≡ j = omega arith in
        let v : c + 1 + i ≡ c + 1 = omega arith in
        same-is (rw (u, v, none) at e)

-- the parts
module _ (z : Sizes) (wk : List ℕ) (s : ℕ) (value : List ℕ) (k : SlotValue wk z s value) where
  pub value-to : {j : ℕ} → j ≤ z.w - 1 → j ≤ length value
  value-to h = omega (arith, k.words)

  pub part-to : {c j : ℕ} → c ≡ contents_at z.n z.w s → j ≤ z.w - 1 → c + 1 + j ≤ length wk
  part-to at h = omega (arith, at, k.slot.room, k.slot.sized.sizes.width-lo)

pub ruleset comparing = (value-slot, same-is, same-from, value-to, part-to)
