-- The ways out of this crate's functions: a law for each, and for each call.
use Prim.Native.Nat.{ℕ, zero, suc, ◌+◌, ◌*◌, ◌-◌, ◌%◌, ◌≤◌, ◌<◌}
use Rattle.std.specs.Prelude.{◌≡◌, refl, Bool, true, false, List, length, get_or, set}
use Rattle.std.proofs.Common.{sym, ◌∙◌, ⊎_elim}
use borrow.Author.Tests.{lt-ltb, le-ltb, le-leb, lt-leb}
use native.Mathlib.Omega.{arith}
use Rattle.search.specs.Bools.{cases}
use Rattle.image.specs.Layout.{is_filled, header}
use Rattle.image.specs.declared.header.Header.{Header}
use Rattle.image.specs.declared.name.Name.{Name}
use Rattle.image.specs.Name.{name_at}
use Rattle.image.specs.Requires.{slot}
use Rattle.chains.specs.Chains.{spot}
use Rattle.transient.specs.declared.sizes.Sizes.{Sizes}
use Rattle.transient.specs.Layout.{head_words, bucket_at, link_at}
use Rattle.transient.specs.Requires.{NoteOf, InIndex, Shaped, ShapedSlot, notes-after}
use Rattle.index.specs.Index.{bucket_of, place_of, on_chain, inserted, removed, rebuilt}
use Rattle.index.specs.Requires.{leads_to, onward, spliced, entered_at, Leading, Chained, Bucket, Splicing}
use Rattle.index.specs.Walk.{place-first, place-on, place-off, leads-place, leads-next}
use Rattle.index.specs.Laws.{bucket-low, inserted-long}

-- ---- the bucket of a name
pub bucket-is : (n : ℕ) (name : Name) {a c k r : ℕ} → a ≡ name.key → c ≡ name.board → k ≡ (a * 23208431 + c * 2246822519) % 4294967296
    → r ≡ spot n k → r ≡ bucket_of n name
unfolding bucket_of
bucket-is n name p q x y = rw (x, p, q) at y

-- ---- where a link leads
module _ (tr : List ℕ) (at least end : ℕ) {x : ℕ} (q : x ≡ get_or tr at 0) where
  pub leads-back : x ≤ least → end ≡ leads_to tr at least end
  unfolding leads_to
  leads-back h = rw (← q, le-ltb least x h)

  module _ (h : least < x) where
    pub leads-far : end < x → end ≡ leads_to tr at least end
    unfolding leads_to
    leads-far f = rw (← q, lt-ltb least x h, lt-leb x end f)

    pub leads-there : x ≤ end → x - 1 ≡ leads_to tr at least end
    unfolding leads_to
    leads-there f = rw (← q, lt-ltb least x h, le-leb x end f)

module _ (s x : ℕ) {y : ℕ} (q : y ≡ x) where
  pub onward-on : s + 1 < y → x ≡ onward s x
  unfolding onward
  onward-on h = rw (lt-ltb (suc s) x (omega arith))

  pub onward-none : y ≤ s + 1 → 0 ≡ onward s x
  unfolding onward
  onward-none h = rw (le-ltb (suc s) x (omega arith))

-- ---- a bucket's link and a slot's, in the notes
pub link-leading : {tr : List ℕ} {z : Sizes} {s at : ℕ} → NoteOf tr z s → at ≡ link_at z s → Leading tr at
link-leading y e = record { within = omega (arith, y.notes.long, y.within, e) }

pub next-is : (tr : List ℕ) (z : Sizes) (s : ℕ) {at r : ℕ} → at ≡ link_at z s → r ≡ leads_to tr at (s + 1) z.n → r ≡ leads_to tr (link_at z s) (s + 1) z.n
next-is tr z s e q = rw (← e) q

module _ {tr : List ℕ} {z : Sizes} (name : Name) {b : ℕ} (q : b ≡ bucket_of z.n name) (y : Chained tr z) where
  first-low : b < z.n
  first-low = rw q (bucket-low z.n name y.some)

  pub first-in : InIndex z b
  first-in = record { sizes = record { slots-hi = y.notes.slots-hi; threads-hi = y.notes.threads-hi }; within = first-low }

  pub first-leading : {at : ℕ} → at ≡ bucket_at z b → Leading tr at
  first-leading e = record { within = omega (arith, y.notes.long, first-low, e) }

pub first-is : (tr : List ℕ) (z : Sizes) (name : Name) {b at r : ℕ} → b ≡ bucket_of z.n name → at ≡ bucket_at z b → r ≡ leads_to tr at 0 z.n
    → r ≡ leads_to tr (bucket_at z (bucket_of z.n name)) 0 z.n
first-is tr z name q e h = rw (← q, ← e) h

pub ruleset leaves = (bucket-is, leads-back, leads-far, leads-there, onward-on, onward-none, link-leading, next-is, first-in, first-leading, first-is)

-- ---- the place on a chain: `at` leads past the slots below t, and to t where that is below s
pub record Placing (z : Sizes) (tr : List ℕ) (b s at t : ℕ) : Type 0 where
  pub low : t ≤ s
  pub here : place_of z tr b t ≡ at
  pub on : t < s → on_chain z tr b t ≡ true

-- by way of any link whose place is known
placing : (z : Sizes) (tr : List ℕ) (b s from : ℕ) {at t : ℕ} → from ≤ s → place_of z tr b from ≡ at → t ≡ leads_to tr at from s → Placing z tr b s at t
placing z tr b s from h p q =
    let f = leads-next z tr b s p h q in
    record { low = f.top; here = leads-place z tr b s p h q; on = f.passes }

module _ {tr : List ℕ} {z : Sizes} {b s at : ℕ} (y : Bucket tr z b s) (e : at ≡ bucket_at z b) where
  pub placing-leading : Leading tr at
  placing-leading = record { within = omega (arith, y.below, y.note.notes.long, e) }

  pub placing-start : {t : ℕ} → t ≡ leads_to tr at 0 s → Placing z tr b s at t
  placing-start q = placing z tr b s 0 (omega arith) (place-first z tr b ∙ sym e) q

module _ {tr : List ℕ} {z : Sizes} {b s at t : ℕ} (y : Placing z tr b s at t) where
  pub placing-end : s ≤ t → at ≡ place_of z tr b s
  placing-end h = let e : t ≡ s = omega (arith, y.low) in rw e at (sym y.here)

  module _ {at' t' : ℕ} (h : t < s) (e : at' ≡ link_at z t) (q : t' ≡ leads_to tr at' (t + 1) s) where
    link-place : place_of z tr b (t + 1) ≡ at'
    link-place = let o : t + 1 ≡ suc t = omega arith in rw o (place-on z tr b t (y.on h) ∙ sym e)

    pub placing-next : Placing z tr b s at' t'
    placing-next = placing z tr b s (t + 1) (omega arith) link-place q

    pub placing-less : s - t' < s - t
    placing-less = omega (arith, (leads-next z tr b s link-place (omega arith) q).above)

pub ruleset places = (placing-leading, placing-start, placing-end, placing-next, placing-less)

-- .. of a bucket, and of a name
pub bucket-of : {tr : List ℕ} {z : Sizes} {s : ℕ} (name : Name) {b : ℕ} → b ≡ bucket_of z.n name → NoteOf tr z s → Bucket tr z b s
bucket-of {z = z} name q y = record { note = y; below = rw q (bucket-low z.n name (omega (arith, y.within))) }

pub place_is : (z : Sizes) (tr : List ℕ) (name : Name) (s : ℕ) {b r : ℕ} → b ≡ bucket_of z.n name → r ≡ place_of z tr b s → r ≡ place_of z tr (bucket_of z.n name) s
place_is z tr name s q e = rw (← q) e

-- ---- a slot joins, or leaves
pub spliced-is : (tr : List ℕ) (at to link : ℕ) → set (set tr to (get_or tr at 0)) at link ≡ spliced tr at to link
unfolding spliced
spliced-is tr at to link = refl

place-top : (z : Sizes) (tr : List ℕ) (b s : ℕ) → b < z.n → s ≤ z.n → place_of z tr b s < head_words + z.t + 3 * z.n
place-top z tr b zero h k = rw (place-first z tr b) (omega arith)
place-top z tr b (suc s) h k =
    ⊎_elim
    (λ (e : on_chain z tr b s ≡ true). rw (place-on z tr b s e) (omega arith))
    (λ (e : on_chain z tr b s ≡ false). rw (place-off z tr b s e) (place-top z tr b s h (omega arith)))
    (cases (on_chain z tr b s))

module _ {tr : List ℕ} {z : Sizes} (name : Name) {s at : ℕ} (p : at ≡ place_of z tr (bucket_of z.n name) s) (y : NoteOf tr z s) where
  place-low : at < head_words + z.t + 3 * z.n
  place-low = rw p (place-top z tr (bucket_of z.n name) s (bucket-low z.n name (omega (arith, y.within))) (omega (arith, y.within)))

  pub place-within : at < length tr
  place-within = omega (arith, y.notes.long, place-low)

  pub splicing : {to : ℕ} → to ≡ link_at z s → Splicing tr at to
  splicing e = record { from = place-within; there = omega (arith, y.notes.long, y.within, e) }

module _ (z : Sizes) (tr : List ℕ) (name : Name) (s : ℕ) {at : ℕ} (p : at ≡ place_of z tr (bucket_of z.n name) s) where
  pub inserted-is : {k to : ℕ} {r : List ℕ} → to ≡ link_at z s → k ≡ s + 1 → r ≡ spliced tr at to k → r ≡ inserted z tr name s
  unfolding inserted spliced
  inserted-is e g h = let o : s + 1 ≡ suc s = omega arith in rw (h, g, e, p, o)

  pub removed-is : {k x to : ℕ} {r : List ℕ} → to ≡ link_at z s → x ≡ get_or tr to 0 → k ≡ onward s x → r ≡ set tr at k → r ≡ removed z tr name s
  unfolding removed onward
  removed-is l e f g = rw (g, f, e, l, p)

pub ruleset joins = (bucket-of, place_is, place-within, splicing, spliced-is, inserted-is, removed-is)

-- ---- a filled slot, and all of them
module _ (z : Sizes) (wk tr : List ℕ) (s : ℕ) {h : Header} {f : Bool} (e : h ≡ header wk s) (g : f ≡ is_filled h) where
  pub entered-not : {r : List ℕ} → f ≡ false → r ≡ tr → r ≡ entered_at z wk tr s
  unfolding entered_at
  entered-not t q = rw (← e, ← g, t) q

  pub entered-in : {name : Name} {r : List ℕ} → f ≡ true → name ≡ name_at wk z.n z.w s → r ≡ inserted z tr name s → r ≡ entered_at z wk tr s
  unfolding entered_at
  entered-in t o q = rw (← e, ← g, t, ← o) q

entered-long : (z : Sizes) (wk tr : List ℕ) (s : ℕ) → length (entered_at z wk tr s) ≡ length tr
unfolding entered_at
entered-long z wk tr s =
    ⊎_elim
    (λ (t : is_filled (header wk s) ≡ true). rw t (inserted-long z tr (name_at wk z.n z.w s) s))
    (λ (f : is_filled (header wk s) ≡ false). rw f)
    (cases (is_filled (header wk s)))

-- what is left to enter are the slots below s
pub record Rebuilding (z : Sizes) (wk tr₀ tr : List ℕ) (s : ℕ) : Type 0 where
  pub low : s ≤ z.n
  pub long : length tr ≡ length tr₀
  pub same : rebuilt z wk tr s ≡ rebuilt z wk tr₀ z.n

module _ {z : Sizes} {wk tr₀ tr : List ℕ} {s : ℕ} (y : Rebuilding z wk tr₀ tr s) where
  pub rebuilding-slot : Shaped wk tr₀ z → 0 < s → ShapedSlot wk tr z (s - 1)
  rebuilding-slot h k = record { slot = slot h.working (omega (arith, y.low)); notes = notes-after y.long h.notes }

  pub rebuilding-next : {tr' : List ℕ} → 0 < s → tr' ≡ entered_at z wk tr (s - 1) → Rebuilding z wk tr₀ tr' (s - 1)
  unfolding rebuilt entered_at
  rebuilding-next h e =
      let o : s ≡ suc (s - 1) = omega arith in
      let u : rebuilt z wk tr (suc (s - 1)) ≡ rebuilt z wk tr₀ z.n = rw (← o) y.same in
      record { low = omega (arith, y.low); long = rw e (entered-long z wk tr (s - 1)) ∙ y.long; same = rw e u }

  pub rebuilding-end : s ≤ 0 → tr ≡ rebuilt z wk tr₀ z.n
  unfolding rebuilt
  rebuilding-end h = let o : s ≡ 0 = omega arith in rw o at y.same

pub ruleset rebuilds = (entered-not, entered-in, rebuilding-slot, rebuilding-next, rebuilding-end)
