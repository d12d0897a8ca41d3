-- A step of recovery keeps acceptance and the survivors and lowers the number of headers that are not zeros; at "done" just survivors are left.
-- The slot it frees is covered (`Freed`): a stale one by what beat it, a kept DELETE because no payload of its uid is left.
use Rattle.std.specs.Prelude.{ℕ, ◌+◌, ◌<◌, ◌≡◌, refl, Bool, true, false, not, ◌≢◌, List, length, Option, Some, None, Ok}
use Rattle.std.proofs.Common.{sym, ◌∙◌, arith}
use Rattle.std.proofs.lemmas.Bool.{not-true, not-false}
use Rattle.std.proofs.Math.Decide.{dec_lt}
use Rattle.search.specs.Bools.{never, upheld, refuted, same_test, not-is-true, and_left, and_right, and_both, and_same}
use Rattle.search.specs.First.{first_of, First, found_first, found_nothing}
use Rattle.search.specs.Some.{some_at, some_same}
use Rattle.search.specs.Count.{count, count_down}
use Rattle.image.specs.Layout.{is_blank, has_zero, is_filled, header, contents, value_at, slots_of, width_of, clock_of, free_header}
use Rattle.image.specs.Line.{header_line, store_line}
use Rattle.image.specs.declared.header.Header.{Header}
use Rattle.image.specs.declared.name.Name.{Name}
use Rattle.image.specs.Name.{Named, name_at, name-same, misnamed-false}
use Rattle.image.specs.Whole.{filled-not-blank}
use Rattle.image.specs.Requires.{HeaderFits, header-fits, sized-after}
use Rattle.image.specs.Laws.{length-store, front-past-header, header-same, header-other, contents-past-header, name-past-header, value-past-header}
use Rattle.survival.specs.Survivors.{survivor}
use Rattle.survival.specs.Requires.{wins, survives, kept_anti}
use Rattle.acceptance.specs.Accept.{survives_as, name_below, image_check}
use Rattle.acceptance.specs.Requires.{nameless}
use Rattle.recovery.specs.Recover.{anti_at, stale, next_freed}
use Rattle.acceptance.specs.Sound.{accepted-says, says-accepted}
use Rattle.recovery.specs.Freed.{Freed, Covered, anti-says, survives-filled, kept-filled, freed-survives, freed-proper, freed-versions, zero-dies, zero-covered, stale-covered, anti-dies, anti-covered}

-- a header that is not four zeros: filled, or remains of one
unfoldable pub nonzero_at : List ℕ → ℕ → Bool
nonzero_at l s = not (is_blank (header l s))

filled-nonzero : (l : List ℕ) (s : ℕ) → is_filled (header l s) ≡ true → nonzero_at l s ≡ true
unfolding nonzero_at
filled-nonzero l s f = not-is-true (filled-not-blank (header l s) f)

-- l' has the sizes, the clock, the survivors with their names and the contents of l
pub record SameSurvivors (l l' : List ℕ) : Type 0 where
  pub long : length l' ≡ length l
  pub slots : slots_of l' ≡ slots_of l
  pub width : width_of l' ≡ width_of l
  pub clock : clock_of l' ≡ clock_of l
  pub survivors : (s : ℕ) → s < slots_of l → survivor l' (slots_of l) s ≡ survivor l (slots_of l) s
  pub lines : (s : ℕ) → contents l' (slots_of l) (width_of l) s ≡ contents l (slots_of l) (width_of l) s
  pub names : (s : ℕ) → s < slots_of l → survivor l (slots_of l) s ≡ true → name_at l' (slots_of l) (width_of l) s ≡ name_at l (slots_of l) (width_of l) s
  pub values : (s : ℕ) → value_at l' (slots_of l) (width_of l) s ≡ value_at l (slots_of l) (width_of l) s

-- ---- the slot freed next: no survivor, covered
pub record Spent (l : List ℕ) (n s : ℕ) : Type 0 where
  pub below : s < n
  pub dies : survivor l n s ≡ false
  pub covered : Covered (clock_of l) (header l) n s

pub zero-spent : (l : List ℕ) (n s : ℕ) → s < n → has_zero (header l s) ≡ true → Spent l n s
unfolding survivor survives wins
zero-spent l n s h z = record { below = h; dies = zero-dies (clock_of l) (header l) n s z; covered = zero-covered (clock_of l) (header l) n s z }

-- .. and not zeros yet
record Left (l : List ℕ) (n s : ℕ) : Type 0 where
  spent : Spent l n s
  nonzero : nonzero_at l s ≡ true

stale-left : (l : List ℕ) (n s : ℕ) → First (stale l n) n s → Left l n s
unfolding stale nonzero_at survivor survives wins anti_at kept_anti
stale-left l n s f =
    let full = not (is_blank (header l s)) in
    let out = not (survivor l n s) in
    let rest = and_right full _ f.passes in
    let dies = not-true (survivor l n s) (and_left out _ rest) in
    record {
      spent = record { below = f.below; dies = dies; covered = stale-covered (clock_of l) (header l) n s dies (not-true (anti_at l s) (and_right out _ rest)) };
      nonzero = and_left full _ f.passes;
    }

-- past the first pass every slot that is not zeros and does not survive is a kept DELETE
none-stale : (l : List ℕ) (n s : ℕ) → stale l n s ≡ false → nonzero_at l s ≡ true → survivor l n s ≡ false → anti_at l s ≡ true
unfolding stale nonzero_at
none-stale l n s u f d = not-false (anti_at l s) (rw (f, d) at u)

anti-left : (l : List ℕ) (n s : ℕ) → ((t : ℕ) → t < n → stale l n t ≡ false) → First (anti_at l) n s → Left l n s
unfolding survivor survives wins anti_at kept_anti
anti-left l n s none f =
    let a = anti-says (clock_of l) (header l s) f.passes in
    record {
      spent = record {
        below = f.below;
        dies = anti-dies (clock_of l) (header l) n s f.passes;
        covered = anti-covered (clock_of l) (header l) n s f.below (λ t h f. none-stale l n t (none t h) (filled-nonzero l t f));
      };
      nonzero = filled-nonzero l s (kept-filled (clock_of l) (header l s) a.is-kept);
    }

next-left : (l : List ℕ) (n s : ℕ) → next_freed l n ≡ Some s → Left l n s
unfolding next_freed
next-left l n s e = go (first_of (stale l n) n) refl
  where
    go : (f : Option ℕ) → first_of (stale l n) n ≡ f → Left l n s
    go (Some t) q = stale-left l n s (found_first (stale l n) n (q ∙ (rw q at e)))
    go None q = anti-left l n s (found_nothing (stale l n) n q) (found_first (anti_at l) n (rw q at e))

pub next-spent : (l : List ℕ) (n s : ℕ) → next_freed l n ≡ Some s → Spent l n s
next-spent l n s e = (next-left l n s e).spent

-- ---- a spent slot's header becomes one that counts as free: four zeros, or what a cut leaves of that store
module _ (l : List ℕ) (s : ℕ) (g : Header) (z : has_zero g ≡ true) (ok : image_check l ≡ Ok tt) (p : Spent l (slots_of l) s) where
  fits : HeaderFits l (slots_of l) s
  fits = header-fits (accepted-says l ok).sized p.below

  freed : Freed (header l) (header (store_line l (header_line s g))) s
  freed = record { here = rw (header-same g fits) z; there = λ t d. header-other l s t g d }

  pub free-keeps : SameSurvivors l (store_line l (header_line s g))
  unfolding survivor survives wins
  free-keeps =
      let n = slots_of l in
      let clock : clock_of (store_line l (header_line s g)) ≡ clock_of l = front-past-header l s 2 g (omega arith) in
      record {
        long = length-store l (header_line s g);
        slots = front-past-header l s 0 g (omega arith);
        width = front-past-header l s 1 g (omega arith);
        clock = clock;
        survivors = λ t h. rw clock (freed-survives (clock_of l) freed n p.dies p.covered t h);
        lines = λ t. contents-past-header l n (width_of l) s t g p.below;
        names = λ t h v.
            let d : t ≢ s = λ e. never _ (rw e at v) p.dies in
            name-past-header l n (width_of l) s t g p.below d;
        values = λ t. value-past-header l n (width_of l) s t g p.below;
      }

-- ---- one step
pub step-lowers : (l : List ℕ) (s : ℕ) → image_check l ≡ Ok tt → next_freed l (slots_of l) ≡ Some s
    → count (nonzero_at l) (slots_of l) ≡ count (nonzero_at (store_line l (header_line s free_header))) (slots_of l) + 1
unfolding nonzero_at is_blank
step-lowers l s ok next =
    let p = next-left l (slots_of l) s next in
    let h = header-fits (accepted-says l ok).sized p.spent.below in
    count_down (nonzero_at l) (nonzero_at (store_line l (header_line s free_header))) (slots_of l) s p.spent.below p.nonzero
    (rw (header-same free_header h))
    (λ t u d. rw (header-other l s t free_header d))

-- ---- acceptance goes by the survivors, but for properness and versions
module _ {l l' : List ℕ} (same : SameSurvivors l l') where
  named-same : (s : ℕ) → s < slots_of l → nameless l' (slots_of l) (width_of l) s ≡ nameless l (slots_of l) (width_of l) s
  unfolding nameless
  named-same s h = rw (same.survivors s h) (and_same _ (λ v. rw (same.names s h v)))

  pub survives-same : (name : Name) (t : ℕ) → t < slots_of l → survives_as l' (slots_of l) (width_of l) name t ≡ survives_as l (slots_of l) (width_of l) name t
  unfolding survives_as
  survives-same name t h = rw (same.survivors t h) (and_same _ (λ v. rw (same.names t h v)))

  names_same : (s : ℕ) → s < slots_of l → name_below l' (slots_of l) (width_of l) s ≡ name_below l (slots_of l) (width_of l) s
  unfolding name_below
  names_same s h =
      let n = slots_of l in
      let w = width_of l in
      let k = name_at l n w s in
      let below = some_same (survives_as l' n w k) (survives_as l n w k) s (λ t u. survives-same k t (omega arith)) in
      rw (same.survivors s h) (and_same _ (λ v. rw (same.names s h v, below)))

pub free-accepted : (l : List ℕ) (s : ℕ) (g : Header) → has_zero g ≡ true → image_check l ≡ Ok tt → Spent l (slots_of l) s
    → image_check (store_line l (header_line s g)) ≡ Ok tt
free-accepted l s g z ok p =
    let same = free-keeps l s g z ok p in
    let f = freed l s g z ok p in
    let was = accepted-says l ok in
    let before = was.sound in
    says-accepted (store_line l (header_line s g))
    record {
      sized = rw (same.slots, same.width) (sized-after same.long was.sized);
      clock-lo = rw same.clock was.clock-lo;
      clock-hi = rw same.clock was.clock-hi;
      sound =
          rw (same.slots, same.width)
          record {
            all-proper = λ t h. rw same.clock (freed-proper (clock_of l) f t (before.all-proper t h));
            named = λ t h. named-same same t h ∙ before.named t h;
            versions = λ t h. rw same.clock (freed-versions (clock_of l) f t (before.versions t h));
            names = λ t h. names_same same t h ∙ before.names t h;
          };
    }

-- ---- where nothing is left to free
none-next : (l : List ℕ) (n : ℕ) → next_freed l n ≡ None → (s : ℕ) → s < n → (stale l n s ≡ false) × (anti_at l s ≡ false)
unfolding next_freed
none-next l n e s h = go (first_of (stale l n) n) refl
  where
    go : (f : Option ℕ) → first_of (stale l n) n ≡ f → (stale l n s ≡ false) × (anti_at l s ≡ false)
    go (Some t) q = let y : Some t ≡ None = rw q at e in let z : ◌≡◌ {A = ℕ} 0 1 = cc in absurd (omega arith)
    go None q = (found_nothing (stale l n) n q s h, found_nothing (anti_at l) n (rw q at e) s h)

pub done-survivors : (l : List ℕ) → next_freed l (slots_of l) ≡ None → (s : ℕ) → s < slots_of l → survivor l (slots_of l) s ≡ nonzero_at l s
unfolding survivor survives wins
done-survivors l e s h =
    let n = slots_of l in
    let none = none-next l n e s h in
    same_test (survivor l n s) (nonzero_at l s)
    (λ v. filled-nonzero l s (survives-filled (clock_of l) (header l) n s v))
    (λ f. upheld (survivor l n s) (λ d. never _ (none-stale l n s none.0 f d) none.1))

-- ---- survivors have names, and different ones
pub survivor-named : (l : List ℕ) → image_check l ≡ Ok tt → (s : ℕ) → s < slots_of l → survivor l (slots_of l) s ≡ true → Named (name_at l (slots_of l) (width_of l) s)
unfolding nameless
survivor-named l ok s h v =
    misnamed-false (name_at l (slots_of l) (width_of l) s) (refuted _ (λ e. never (nameless l (slots_of l) (width_of l) s) (and_both v e) ((accepted-says l ok).sound.named s h)))

name-once : (l : List ℕ) → image_check l ≡ Ok tt → (s t : ℕ) → s < slots_of l → t < s → survivor l (slots_of l) s ≡ true → survivor l (slots_of l) t ≡ true
    → name_at l (slots_of l) (width_of l) t ≢ name_at l (slots_of l) (width_of l) s
unfolding name_below survives_as
name-once l ok s t h u v x e =
    let n = slots_of l in
    let w = width_of l in
    let below = some_at (survives_as l n w (name_at l n w s)) s t u (and_both x (name-same _ _ e)) in
    never (name_below l n w s) (and_both v below) ((accepted-says l ok).sound.names s h)

pub survivors-apart : (l : List ℕ) → image_check l ≡ Ok tt → (s t : ℕ) → s < slots_of l → t < slots_of l → s ≢ t → survivor l (slots_of l) s ≡ true
    → survivor l (slots_of l) t ≡ true → name_at l (slots_of l) (width_of l) s ≢ name_at l (slots_of l) (width_of l) t
survivors-apart l ok s t h k d v x e =
    elim (dec_lt s t) [
      | yes u ↦ name-once l ok t s k u x v e
      | no u ↦ name-once l ok s t h (omega arith) v x (sym e)
    ]
