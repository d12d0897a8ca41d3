-- 02, No. 1: the sum "is to be proved equal to N for every image that recovery accepts, with each slot in exactly one class".
use Rattle.std.specs.Prelude.{ℕ, zero, suc, ◌+◌, ◌<◌, ◌≡◌, refl, Bool, List, Ok}
use Rattle.std.proofs.Common.{◌∙◌, arith}
use Rattle.std.proofs.Math.Bool.{true, false, and-false}
use Rattle.std.proofs.Math.Logic.{⊎_elim}
use Rattle.std.proofs.Math.Dec.{leb, ltb}
use borrow.Author.Tests.{lt-ltb, le-ltb, leb-true, leb-false}
use Rattle.search.specs.Bools.{cases, never, flag}
use Rattle.search.specs.Count.{count, count-more}
use Rattle.image.specs.declared.header.Header.{Header}
use Rattle.image.specs.Layout.{has_zero, is_filled, is_payload, header, slots_of, clock_of}
use Rattle.image.specs.Whole.{says-whole, filled-says, zero-unfilled}
use Rattle.survival.specs.Survivors.{kept, survivor}
use Rattle.acceptance.specs.Accept.{image_check}
use Rattle.acceptance.specs.Sound.{FilledOk, proper-cases, accepted-says}
use Rattle.classes.specs.declared.Class.{Class}
use Rattle.classes.specs.declared.Class.TheVariants.{Free, Surviving, Kept, New}
use Rattle.classes.specs.Classes.{in_class, head_count, total}

-- slot s is in one class and in no other
pub record OneClass (l : List ℕ) (n s : ℕ) : Type 0 where
  pub class : Class
  pub is : in_class class l n s ≡ true
  pub only : (other : Class) → in_class other l n s ≡ true → other ≡ class

-- ---- what the four tests answer of a slot
record Tests (l : List ℕ) (n s : ℕ) (a b c d : Bool) : Type 0 where
  free : in_class Free l n s ≡ a
  surviving : in_class Surviving l n s ≡ b
  kept : in_class Kept l n s ≡ c
  new : in_class New l n s ≡ d

data Sorted (l : List ℕ) (n s : ℕ) : Type 0 where
  in-free : Tests l n s true false false false → Sorted l n s
  in-surviving : Tests l n s false true false false → Sorted l n s
  in_kept : Tests l n s false false true false → Sorted l n s
  in-new : Tests l n s false false false true → Sorted l n s

one_of : {l : List ℕ} {n s : ℕ} → Sorted l n s → OneClass l n s
one_of {l} {n} {s} (in-free t) = record { class = Free; is = t.free; only = only }
  where
    only : (other : Class) → in_class other l n s ≡ true → other ≡ Free
    only Free e = refl
    only Surviving e = never _ e t.surviving
    only Kept e = never _ e t.kept
    only New e = never _ e t.new
one_of {l} {n} {s} (in-surviving t) = record { class = Surviving; is = t.surviving; only = only }
  where
    only : (other : Class) → in_class other l n s ≡ true → other ≡ Surviving
    only Free e = never _ e t.free
    only Surviving e = refl
    only Kept e = never _ e t.kept
    only New e = never _ e t.new
one_of {l} {n} {s} (in_kept t) = record { class = Kept; is = t.kept; only = only }
  where
    only : (other : Class) → in_class other l n s ≡ true → other ≡ Kept
    only Free e = never _ e t.free
    only Surviving e = never _ e t.surviving
    only Kept e = refl
    only New e = never _ e t.new
one_of {l} {n} {s} (in-new t) = record { class = New; is = t.new; only = only }
  where
    only : (other : Class) → in_class other l n s ≡ true → other ≡ New
    only Free e = never _ e t.free
    only Surviving e = never _ e t.surviving
    only Kept e = never _ e t.kept
    only New e = refl

-- ---- a slot of an accepted image: its header counts as free, or is filled within its bounds
unkept : (c : ℕ) (h : Header) → is_filled h ≡ false → kept c h ≡ false
unfolding kept
unkept c h e = rw e

kept-is : (c : ℕ) (h : Header) → is_filled h ≡ true → kept c h ≡ leb (h.epoch + 2) c
unfolding kept
kept-is c h e = rw e

filled-whole : (h : Header) → is_filled h ≡ true → has_zero h ≡ false
filled-whole h f = says-whole h (filled-says h f).whole

module _ (l : List ℕ) (n s : ℕ) where
  -- only a kept slot survives
  unkept-dies : kept (clock_of l) (header l s) ≡ false → survivor l n s ≡ false
  unfolding survivor
  unkept-dies e = rw (e, and-false (is_payload (header l s)))

  sorted-free : has_zero (header l s) ≡ true → Sorted l n s
  unfolding in_class
  sorted-free z =
      let none = zero-unfilled (header l s) z in
      let k = unkept (clock_of l) (header l s) none in
      in-free (record { free = z; surviving = unkept-dies k; kept = rw k; new = rw none })

  sorted-filled : FilledOk (clock_of l) (header l s) → Sorted l n s
  unfolding in_class
  sorted-filled f =
      let c = clock_of l in
      let h = header l s in
      let whole = filled-whole h f.filled in
      ⊎_elim
      (λ (o : leb (h.epoch + 2) c ≡ true).
      let k : kept c h ≡ true = kept-is c h f.filled ∙ o in
      let old : ltb c (h.epoch + 2) ≡ false = le-ltb c (h.epoch + 2) (leb-true (h.epoch + 2) c o) in
      ⊎_elim
      (λ (v : survivor l n s ≡ true). in-surviving (record { free = whole; surviving = v; kept = rw (k, v); new = rw (f.filled, old) }))
      (λ (v : survivor l n s ≡ false). in_kept (record { free = whole; surviving = v; kept = rw (k, v); new = rw (f.filled, old) }))
      (cases (survivor l n s)))
      (λ (o : leb (h.epoch + 2) c ≡ false).
      let k : kept c h ≡ false = kept-is c h f.filled ∙ o in
      let young : ltb c (h.epoch + 2) ≡ true = lt-ltb c (h.epoch + 2) (leb-false (h.epoch + 2) c o) in
      in-new (record { free = whole; surviving = unkept-dies k; kept = rw k; new = rw (f.filled, young) }))
      (cases (leb (h.epoch + 2) c))

sorted : (l : List ℕ) → image_check l ≡ Ok tt → (s : ℕ) → s < slots_of l → Sorted l (slots_of l) s
sorted l e s h =
    ⊎_elim (sorted-free l (slots_of l) s) (sorted-filled l (slots_of l) s) (proper-cases (clock_of l) (header l s) ((accepted-says l e).sound.all-proper s h))

-- ---- the theorem
pub one_class : (l : List ℕ) → image_check l ≡ Ok tt → (s : ℕ) → s < slots_of l → OneClass l (slots_of l) s
one_class l e s h = one_of (sorted l e s h)

-- the four flags of a slot make 1
one-flag : {l : List ℕ} {n s : ℕ} → Sorted l n s
    → flag (in_class Free l n s) + flag (in_class Surviving l n s) + flag (in_class Kept l n s) + flag (in_class New l n s) ≡ 1
one-flag (in-free t) = rw (t.free, t.surviving, t.kept, t.new)
one-flag (in-surviving t) = rw (t.free, t.surviving, t.kept, t.new)
one-flag (in_kept t) = rw (t.free, t.surviving, t.kept, t.new)
one-flag (in-new t) = rw (t.free, t.surviving, t.kept, t.new)

sum-up : (l : List ℕ) (n k : ℕ) → ((s : ℕ) → s < k → Sorted l n s)
    → count (in_class Free l n) k + count (in_class Surviving l n) k + count (in_class Kept l n) k + count (in_class New l n) k ≡ k
unfolding count
sum-up l n zero h = refl
sum-up l n (suc k) h =
    let ih = sum-up l n k (λ s g. h s (omega arith)) in
    rw (count-more (in_class Free l n) k, count-more (in_class Surviving l n) k, count-more (in_class Kept l n) k, count-more (in_class New l n) k)
    (omega (arith, one-flag (h k (omega arith))))

pub total-slots : (l : List ℕ) → image_check l ≡ Ok tt → total (head_count l (slots_of l)) ≡ slots_of l
unfolding head_count
total-slots l e = sum-up l (slots_of l) (slots_of l) (sorted l e)
