-- What one step of an advance does to a store: one slot is written, its retirement is set, and all else but the place stays.
use Prim.Native.Nat.{ℕ, suc, ◌+◌, ◌<◌}
use Rattle.std.specs.Prelude.{◌≡◌, refl, ◌&&◌, ◌≢◌, List, length, leb}
use Rattle.std.proofs.Common.{sym, ap, ◌∙◌, lt-ltb, le-ltb, ne_eqb, leb-true}
use native.Mathlib.Omega.{arith}
use Rattle.std.proofs.Math.Decide.{dec_lt}
use Rattle.search.specs.Bools.{flag, refuted, and_left, and_right}
use Rattle.image.specs.declared.header.Header.{Header}
use Rattle.image.specs.Layout.{most_number}
use Rattle.image.specs.declared.name.Name.{Name}
use Rattle.transient.specs.declared.sizes.Sizes.{Sizes}
use Rattle.transient.specs.Layout.{note, next_uid_at, next_order_at, open_epoch, retired_in, is_waiting, set_retired, set_place}
use Rattle.transient.specs.Store.{Store, store}
use Rattle.transient.specs.Requires.{Notes, notes-after}
use Rattle.transient.specs.Laws.{SlotKept, slot-then, place-long, place-opens, place-slots, place-uid, place-order, place-index, retired-front, retired-same, retired-waiting, retired-aside, phase-set, slot-set, beside-front, beside-slots}
use Rattle.index.specs.Index.{removed}
use Rattle.index.specs.Laws.{removed-only}
use Rattle.index.specs.Indexed.{Indexed}
use Rattle.step.specs.Step.{idle, reclaim_next, contents_next, header_next, clock_next, passing}
use Rattle.crash.specs.Table.{Put}
use Rattle.crash.specs.Reference.{Jobs}
use Rattle.crash.specs.Slots.{Place, Inv}
use Rattle.crash.specs.Steps.{at_rest, moved}
use Rattle.guarantee.specs.Trace.{Plain}
use Rattle.guarantee.specs.View.{entry_of, view, progress, view-put}
use Rattle.guarantee.proofs.Good.{state_of, Image, Good}
use Rattle.guarantee.proofs.Indexing.{kept-indexed}
use Rattle.guarantee.proofs.Images.{Wrote}

-- ---- places
abbrev pub looked_to : ℕ → Place
looked_to q = record { looked = q; flushed = 0; half = 0 }

abbrev pub flushed_to : ℕ → ℕ → Place
flushed_to n q = record { looked = n; flushed = q; half = 0 }

abbrev pub half_at : ℕ → ℕ → Place
half_at n q = record { looked = n; flushed = q; half = 1 }

-- how far an advance has come in each phase
pub progress-idle : (n q : ℕ) → progress n idle q ≡ at_rest
unfolding progress
progress-idle n q = refl

pub progress-reclaim : (n q : ℕ) → progress n reclaim_next q ≡ looked_to q
unfolding progress
progress-reclaim n q = refl

pub progress-contents : (n q : ℕ) → progress n contents_next q ≡ flushed_to n q
unfolding progress
progress-contents n q = refl

pub progress-header : (n q : ℕ) → progress n header_next q ≡ half_at n q
unfolding progress
progress-header n q = refl

pub progress-clock : (n q : ℕ) → progress n clock_next q ≡ flushed_to n n
unfolding progress
progress-clock n q = refl

-- no phase of these: none is underway
pub progress-none : (n k q : ℕ) → k ≢ reclaim_next → k ≢ contents_next → k ≢ header_next → k ≢ clock_next → progress n k q ≡ at_rest
unfolding progress
progress-none n k q a b c d =
    let z = refuted (leb contents_next k && leb k clock_next)
    (λ y. omega (arith, leb-true contents_next k (and_left (leb contents_next k) _ y), leb-true k clock_next (and_right (leb contents_next k) _ y))) in
    rw (ne_eqb k reclaim_next a, ne_eqb k contents_next b, ne_eqb k header_next c, ne_eqb k clock_next d, z)

-- past slot s
module _ (n s : ℕ) (h : s < n) where
  pub passing-looked : progress n (passing n s reclaim_next contents_next).phase (passing n s reclaim_next contents_next).slot ≡ looked_to (s + 1)
  unfolding passing
  passing-looked = elim (dec_lt (s + 1) n) [
    | yes a ↦ rw (lt-ltb (s + 1) n a) (progress-reclaim n (s + 1))
    | no a ↦ let z : s + 1 ≡ n = omega arith in rw (le-ltb (s + 1) n (omega arith), z) (progress-contents n 0)
  ]

  pub passing-flushed : progress n (passing n s contents_next clock_next).phase (passing n s contents_next clock_next).slot ≡ flushed_to n (suc s)
  unfolding passing
  passing-flushed = elim (dec_lt (s + 1) n) [
    | yes a ↦ let z : s + 1 ≡ suc s = omega arith in rw (lt-ltb (s + 1) n a, z) (progress-contents n (suc s))
    | no a ↦ let z : suc s ≡ n = omega arith in rw (le-ltb (s + 1) n (omega arith), z) (progress-clock n 0)
  ]

-- ---- the notes: the retirement of s is r, and all else but the place stays
pub record Noted (sz : Sizes) (tr tr' : List ℕ) (s r : ℕ) : Type 0 where
  pub long : length tr' ≡ length tr
  pub opens : (thread : ℕ) → thread < sz.t → open_epoch tr' thread ≡ open_epoch tr thread
  pub uid : note next_uid_at tr' ≡ note next_uid_at tr
  pub order : note next_order_at tr' ≡ note next_order_at tr
  pub others : (m : ℕ) → m < sz.n → m ≢ s → SlotKept sz tr tr' m
  pub waiting : (d : ℕ) → is_waiting tr' d s ≡ is_waiting tr d s
  pub retired : retired_in sz tr' s ≡ r

pub noted-place : (sz : Sizes) (tr : List ℕ) (s phase slot : ℕ) → Noted sz tr (set_place tr phase slot) s (retired_in sz tr s)
noted-place sz tr s phase slot =
    let kept = place-slots tr sz phase slot in
    record {
      long = place-long tr sz phase slot;
      opens = λ u h. place-opens tr sz phase slot u;
      uid = place-uid tr sz phase slot;
      order = place-order tr sz phase slot;
      others = λ m k d. kept m;
      waiting = (kept s).waiting;
      retired = (kept s).retired;
    }

pub noted-cleared : {tr : List ℕ} {sz : Sizes} → Notes tr sz → (s phase slot : ℕ) (name : Name) → s < sz.n
    → Noted sz tr (set_place (removed sz (set_retired sz tr s 0) name s) phase slot) s 0
noted-cleared {tr} {sz} y s phase slot name h =
    let cleared = set_retired sz tr s 0 in
    let z = noted-place sz (removed sz cleared name s) s phase slot in
    let only = removed-only sz cleared name s in
    let front = beside-front only in
    let kept = beside-slots only in
    let a = retired-front tr sz s 0 in
    record {
      long = z.long ∙ front.head.long ∙ a.head.long;
      opens = λ u k. z.opens u k ∙ front.head.opens u k ∙ a.head.opens u k;
      uid = z.uid ∙ front.uid ∙ a.uid;
      order = z.order ∙ front.order ∙ a.order;
      others = λ m k d. slot-then (slot-then (retired-aside y s 0 m k d) (kept m k)) (z.others m k d);
      waiting = λ d. z.waiting d ∙ (kept s h).waiting d ∙ retired-waiting y s 0 d s h;
      retired = z.retired ∙ (kept s h).retired ∙ retired-same y s 0 h;
    }

-- ---- the table: slot s is written in both images, or stays
module _ (st st' : Store) (sz : Sizes) (c s r : ℕ) {h h' : Header} {words words' : List ℕ}
    (a : Wrote st.working st'.working sz s h words) (b : Wrote st.persistent st'.persistent sz s h' words')
    (z : Noted sz st.transient st'.transient s r) (k : s < sz.n) where
  pub step-put : Put (view st sz c) (view st' sz c) s (record {
    working = entry_of h words;
    persistent = entry_of h' words';
    retired = r;
    now = flag (is_waiting st.transient c s);
    before = flag (is_waiting st.transient (c + 1) s);
  })
  step-put =
      view-put st st' sz c s _ k
      (rw (a.header-here, a.line-here, b.header-here, b.line-here, z.retired, z.waiting c, z.waiting (c + 1)))
      (λ m u d. let o = z.others m u d in rw (
        a.header-there m u d,
        a.line-there m u d,
        b.header-there m u d,
        b.line-there m u d,
        o.waiting c,
        o.waiting (c + 1),
        o.retired,
      ))

-- ---- the crash invariant, with the advance at a place
abbrev pub Reached : Sizes → Jobs → Store → Plain → Place → Type 0
Reached sz start st p q = Inv (moved (state_of sz start st p) (view st sz p.clock) q)

-- ---- a step is made: no operation is open in c − 1, and the clock can go on
pub record Ready (sz : Sizes) (start : Jobs) (st : Store) (p : Plain) : Type 0 where
  pub good : Good sz start st p
  pub quiet : (thread : ℕ) → thread < sz.t → open_epoch st.transient thread + 1 ≢ p.clock
  pub clock-top : p.clock < most_number

-- a step that goes on owes the crash invariant at its place
pub went-good : {sz : Sizes} {s r : ℕ} {start : Jobs} {st : Store} {p : Plain} {wk l : List ℕ} {q : Place}
    → Ready sz start st p → (tr : List ℕ) (phase slot : ℕ) → Image sz p.clock wk → Image sz p.clock l
    → Noted sz st.transient (set_place tr phase slot) s r → Indexed sz wk tr → progress sz.n phase slot ≡ q
    → Inv (moved (state_of sz start st p) (view (store wk l (set_place tr phase slot)) sz p.clock) q)
    → Good sz start (store wk l (set_place tr phase slot)) p
went-good {sz} {s} {r} {start} {st} {p} {wk} {l} y tr phase slot a b z x e i =
    let g = y.good in
    let o = g.opens in
    let same = z.opens in
    let v : Notes tr sz = notes-after (sym (place-long tr sz phase slot) ∙ z.long) g.notes in
    record {
      clock-hi = g.clock-hi;
      working = a;
      persistent = b;
      notes = notes-after z.long g.notes;
      opens = record {
        same = λ u h. same u h ∙ o.same u h;
        least = λ u h. rw (same u h) (o.least u h);
        low = λ u h. rw (same u h) (o.low u h);
        high = λ u h. rw (same u h) (o.high u h);
        quiet = λ u h q. absurd (y.quiet u h (sym (ap (λ x. x + 1) (same u h)) ∙ q));
      };
      past = g.past;
      index = kept-indexed (place-index tr sz phase slot) x;
      inv = rw (phase-set v phase slot, slot-set v phase slot, e, z.uid, z.order) i;
      fifo = g.fifo;
    }
