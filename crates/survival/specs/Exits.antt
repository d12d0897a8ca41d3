-- The ways out of this crate's functions: a law for each, and for each call.
use Rattle.std.specs.Prelude.{ℕ, ◌+◌, ◌<◌, ◌≡◌, refl, Bool, true, false, List, get_or, leb}
use Rattle.std.proofs.Math.Path.{sym}
use Rattle.std.proofs.Common.{◌∙◌}
use Rattle.std.proofs.Math.Bool.{and-true, and-false}
use borrow.Author.Tests.{eq-eqb, ne_eqb}
use Rattle.search.specs.Bools.{tests}
use Rattle.search.specs.Count.{count, Counted, counted_start, counted-hit, counted-miss, counted-end}
use Rattle.image.specs.declared.header.Header.{Header}
use Rattle.image.specs.Layout.{is_filled, header}
use Rattle.survival.specs.Survivors.{kept, survivor, survivor_count}
use Rattle.survival.specs.Requires.{kept_anti, Marked}
use Rattle.survival.specs.Laws.{flag_is}

-- ---- kept, beats, survives
module _ (c : ℕ) (h : Header) {f : Bool} (fl : f ≡ is_filled h) where
  pub kept-yes : {e d : ℕ} → f ≡ true → e ≡ h.epoch → d ≡ c → leb (e + 2) d ≡ kept c h
  unfolding kept
  kept-yes t p q = rw (← fl, t, p, q)

  pub kept-no : f ≡ false → false ≡ kept c h
  unfolding kept
  kept-no t = rw (← fl, t)

module _ (c : ℕ) (l : List ℕ) (t : ℕ) {g : Header} (at : g ≡ header l t) where
  pub anti-yes : {k : Bool} → g.kind ≡ 3 → k ≡ kept c g → k ≡ kept_anti c (header l t)
  unfolding kept_anti
  anti-yes d e = rw (← at, eq-eqb g.kind 3 d) (e ∙ sym (and-true (kept c g)))

  pub anti-no : (g.kind ≡ 3 → ⊥) → false ≡ kept_anti c (header l t)
  unfolding kept_anti
  anti-no d = rw (← at, ne_eqb g.kind 3 d) (sym (and-false (kept c g)))

-- ---- how many flags are set
module _ (l : List ℕ) (flags : List Bool) {n s k k' : ℕ} (m : Marked l n flags) (z : Counted (survivor l n) n s k) (h : s < n) where
  pub flag-hit : get_or flags s false ≡ true → k' ≡ k + 1 → Counted (survivor l n) n (s + 1) k'
  flag-hit t e = counted-hit z h refl (flag_is m.flagged h t) e

  pub flag-miss : get_or flags s false ≡ false → k' ≡ k → Counted (survivor l n) n (s + 1) k'
  flag-miss t e = counted-miss z h refl (flag_is m.flagged h t) e

pub count-is : (l : List ℕ) (n : ℕ) {r : ℕ} → r ≡ count (survivor l n) n → r ≡ survivor_count l n
unfolding survivor_count
count-is l n e = e

pub ruleset laws = (tests, kept-yes, kept-no, anti-yes, anti-no, counted_start, counted-end, flag-hit, flag-miss, count-is)
