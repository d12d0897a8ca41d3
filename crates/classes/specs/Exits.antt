-- The ways out of this crate's functions: a law for each.
use Rattle.std.specs.Prelude.{ℕ, ◌+◌, ◌<◌, ◌≡◌, Bool, true, false, not, ◌&&◌, List, get_or, ltb}
use Rattle.std.proofs.Common.{◌∙◌, Fits, arith}
use Rattle.std.specs.Int.{w32}
use Rattle.search.specs.Bools.{tests}
use Rattle.search.specs.Count.{count, Counted, counted_start, counted-hit, counted-miss, counted-end}
use Rattle.image.specs.declared.header.Header.{Header}
use Rattle.image.specs.Layout.{has_zero, is_filled, header, clock_of}
use Rattle.survival.specs.Survivors.{kept}
use Rattle.survival.specs.Requires.{Marked, FlagAt, flag_at, flag-header, flag-of}
use Rattle.classes.specs.declared.Class.{Class}
use Rattle.classes.specs.declared.Class.TheVariants.{Free, Surviving, Kept, New}
use Rattle.classes.specs.declared.HeadCount.{HeadCount}
use Rattle.classes.specs.Classes.{in_class, head_count}
use Rattle.classes.specs.Requires.{too_new}

-- ---- kept and not surviving; too new
module _ (c : ℕ) (h : Header) (s : Bool) {k : Bool} (kp : k ≡ kept c h) where
  pub only-survives : k ≡ true → s ≡ true → false ≡ (kept c h && not s)
  only-survives t u = rw (← kp, t, u)

  pub only_yes : k ≡ true → s ≡ false → true ≡ (kept c h && not s)
  only_yes t u = rw (← kp, t, u)

  pub only_no : k ≡ false → false ≡ (kept c h && not s)
  only_no t = rw (← kp, t)

module _ (c : ℕ) (h : Header) {f : Bool} (fl : f ≡ is_filled h) where
  pub new-filled : {d e : ℕ} → f ≡ true → d ≡ c → e ≡ h.epoch → ltb d (e + 2) ≡ too_new c h
  unfolding too_new
  new-filled t p q = rw (← fl, t, p, q)

  pub new-free : f ≡ false → false ≡ too_new c h
  unfolding too_new
  new-free t = rw (← fl, t)

-- ---- a slot's class
module _ (l : List ℕ) (n s : ℕ) (flags : List Bool) {h : Header} {c : ℕ} {k : Class} (z : FlagAt l n s flags) (at : h ≡ header l s) (cl : c ≡ clock_of l) where
  pub class-free : {r : Bool} → k ≡ Free → r ≡ has_zero h → r ≡ in_class k l n s
  unfolding in_class
  class-free e q = rw (e, ← at) q

  pub class-survives : {r : Bool} → k ≡ Surviving → r ≡ get_or flags s false → r ≡ in_class k l n s
  unfolding in_class
  class-survives e q = rw e (q ∙ z.marked.flagged.same s z.within)

  pub class-kept : {r f : Bool} → k ≡ Kept → f ≡ get_or flags s false → r ≡ (kept c h && not f) → r ≡ in_class k l n s
  unfolding in_class
  class-kept e g q = rw (e, ← at, ← cl, ← z.marked.flagged.same s z.within, ← g) q

  pub class-new : {r : Bool} → k ≡ New → r ≡ too_new c h → r ≡ in_class k l n s
  unfolding in_class too_new
  class-new e q = rw (e, ← at, ← cl) q

-- ---- the loop that counts, and the four figures
pub count_fits : {l : List ℕ} {n i c : ℕ} {p : ℕ → Bool} {flags : List Bool} → Marked l n flags → Counted p n i c → i < n → Fits w32 (c + 1)
count_fits m z h = omega (arith, m.headers.slots-hi, z.few)

pub counts : (l : List ℕ) (n : ℕ) {a b c d : ℕ} → a ≡ count (in_class Free l n) n → b ≡ count (in_class Surviving l n) n → c ≡ count (in_class Kept l n) n
    → d ≡ count (in_class New l n) n → ◌≡◌ {A = HeadCount} (record { free = a; surviving = b; kept = c; new = d }) (head_count l n)
unfolding head_count
counts l n p q r t = λ i. record { free = p i; surviving = q i; kept = r i; new = t i }

pub ruleset laws = (tests, flag_at, flag-header, flag-of, only-survives, only_yes, only_no, new-filled, new-free, class-free, class-survives, class-kept, class-new, counted_start, counted-hit, counted-miss, counted-end, count_fits, counts)
