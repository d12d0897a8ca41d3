-- The index holds the filled slots under their names: an insertion, a removal and a rebuilding keep that.
use Prim.Native.Nat.{ℕ, zero, suc, ◌≤◌, ◌<◌}
use Rattle.std.specs.Prelude.{◌≡◌, ◌≢◌, ◌⊎◌, Bool, true, false, cond, ◌&&◌, List, length, get_or, set, leb, ltb, eqb}
use Rattle.std.proofs.Math.Path.{refl, sym}
use Rattle.std.proofs.Common.{◌∙◌, inl, inr, length-set, get_or-set_same, get_or-set_other, arith, eq-or-lt_of_le}
use Rattle.std.proofs.Math.Logic.{⊎_elim}
use borrow.Author.Tests.{eq-eqb, ne_eqb, eqb-true, le-leb, lt-leb, ltb-true, ltb-false}
use Rattle.std.proofs.Math.Decide.{ℕ_discrete, dec_lt}
use Rattle.search.specs.Bools.{cases, never, refuted, and_right}
use Rattle.image.specs.Layout.{is_filled, header}
use Rattle.image.specs.declared.name.Name.{Name}
use Rattle.image.specs.Name.{name_at}
use Rattle.transient.specs.declared.sizes.Sizes.{Sizes}
use Rattle.transient.specs.Layout.{index_at, bucket_at, link_at}
use Rattle.transient.specs.Laws.{IndexKept}
use Rattle.transient.specs.Requires.{Notes}
use Rattle.index.specs.Index.{bucket_of, place_of, on_chain, inserted, removed, rebuilt}
use Rattle.index.specs.Requires.{onward}
use Rattle.index.specs.Walk.{place-first, place-on, place-off}
use Rattle.index.specs.Laws.{bucket-low, inserted-long}

-- 02, No. 6: "it holds each filled slot under its board and key, and no other slot"
pub record Indexed (z : Sizes) (wk tr : List ℕ) : Type 0 where
  pub holds : (b s : ℕ) → b < z.n → s < z.n → on_chain z tr b s ≡ is_filled (header wk s) && eqb (bucket_of z.n (name_at wk z.n z.w s)) b

-- the other slots are filled as before, under their names
pub record Others (z : Sizes) (wk wk' : List ℕ) (s : ℕ) : Type 0 where
  pub filled : (m : ℕ) → m < z.n → m ≢ s → is_filled (header wk' m) ≡ is_filled (header wk m)
  pub named : (m : ℕ) → m < z.n → m ≢ s → name_at wk' z.n z.w m ≡ name_at wk z.n z.w m

-- ---- a chain by its slots, those that pass p: where the link stands that leads past the slots below s
unfoldable link_past : Sizes → ℕ → (ℕ → Bool) → ℕ → ℕ
link_past z b p zero = bucket_at z b
link_past z b p (suc s) = cond (p s) (link_at z s) (link_past z b p s)

module _ (z : Sizes) (b : ℕ) where
  module _ (p : ℕ → Bool) where
    past_first : link_past z b p 0 ≡ bucket_at z b
    unfolding link_past
    past_first = refl

    past-on : (s : ℕ) → p s ≡ true → link_past z b p (suc s) ≡ link_at z s
    unfolding link_past
    past-on s t = rw t

    past_off : (s : ℕ) → p s ≡ false → link_past z b p (suc s) ≡ link_past z b p s
    unfolding link_past
    past_off s f = rw f

  -- from `from` on it stays, or is the link of a slot passed; chains that agree from there on go together
  past-both : (p q : ℕ → Bool) (Q : ℕ → ℕ → Type 0) (from k : ℕ) → from ≤ k → ((u : ℕ) → from ≤ u → u < k → q u ≡ p u) → Q (link_past z b p from) (link_past z b q from) → ((u : ℕ) → from ≤ u → u < k → p u ≡ true → Q (link_at z u) (link_at z u)) → Q (link_past z b p k) (link_past z b q k)
  past-both p q Q from zero h same start links = let e : from ≡ 0 = omega arith in rw e at start
  past-both p q Q from (suc k) h same start links =
      ⊎_elim
      (λ (e : from ≡ suc k). rw e at start)
      (λ (l : from < suc k).
      ⊎_elim
      (λ (t : p k ≡ true). rw (past-on p k t, past-on q k (same k (omega arith) (omega arith) ∙ t)) (links k (omega arith) (omega arith) t))
      (λ (f : p k ≡ false).
      rw (past_off p k f, past_off q k (same k (omega arith) (omega arith) ∙ f))
      (past-both p q Q from k (omega arith) (λ u a c. same u a (omega arith)) start (λ u a c. links u a (omega arith))))
      (cases (p k)))
      (eq-or-lt_of_le h)

  past_same : (p q : ℕ → Bool) (k : ℕ) → ((u : ℕ) → u < k → q u ≡ p u) → link_past z b q k ≡ link_past z b p k
  past_same p q k same =
      past-both p q (λ i j. j ≡ i) 0 k (omega arith) (λ u a. same u) (past_first q ∙ sym (past_first p)) (λ u a c t. refl)

  -- the bucket's, or that of a slot below on the chain
  past_is : (p : ℕ → Bool) (Q : ℕ → Type 0) (k : ℕ) → Q (bucket_at z b) → ((u : ℕ) → u < k → p u ≡ true → Q (link_at z u)) → Q (link_past z b p k)
  past_is p Q k first links = past-both p p (λ i j. Q i) 0 k (omega arith) (λ u a c. refl) (rw (past_first p) first) (λ u a. links u)

  -- .. so it stands in the index
  past_index : (p : ℕ → Bool) (k : ℕ) → index_at z ≤ link_past z b p k
  past_index p k = past_is p (λ i. index_at z ≤ i) k (omega arith) (λ u l t. omega arith)

module _ (z : Sizes) (b : ℕ) (p : ℕ → Bool) (low : b < z.n) where
  -- .. and is no link from that slot on
  past-below : (k u : ℕ) → k ≤ u → link_past z b p k ≢ link_at z u
  past-below k u h = past_is z b p (λ i. i ≢ link_at z u) k (λ q. omega arith) (λ v l t q. omega arith)

  -- past a slot on the chain it is another one
  past-moves : (k s : ℕ) → k < s → p k ≡ true → link_past z b p k ≢ link_past z b p s
  past-moves k s h t =
      past-both z b p p (λ i j. link_past z b p k ≢ i) (suc k) s h (λ u a c. refl)
      (rw (past-on z b p k t) (past-below k k (omega arith)))
      (λ u a c o. past-below k u (omega arith))

  past-within : (tr : List ℕ) → Notes tr z → (k : ℕ) → k ≤ z.n → link_past z b p k < length tr
  past-within tr y k h = past_is z b p (λ i. i < length tr) k (omega (arith, y.long)) (λ u l t. omega (arith, y.long))

-- ---- the links of bucket b lead to the slots that pass p, and to no other
record Chain (z : Sizes) (tr : List ℕ) (b : ℕ) (p : ℕ → Bool) : Type 0 where
  words : (k : ℕ) → k < z.n → eqb (get_or tr (link_past z b p k) 0) (suc k) ≡ p k

-- .. just where these are on its chain
module _ (z : Sizes) (tr : List ℕ) (b : ℕ) (p : ℕ → Bool) where
  place-start : place_of z tr b 0 ≡ link_past z b p 0
  place-start = place-first z tr b ∙ sym (past_first z b p)

  place-next : (k : ℕ) → place_of z tr b k ≡ link_past z b p k → on_chain z tr b k ≡ p k → place_of z tr b (suc k) ≡ link_past z b p (suc k)
  place-next k e o =
      ⊎_elim
      (λ (t : p k ≡ true). place-on z tr b k (o ∙ t) ∙ sym (past-on z b p k t))
      (λ (f : p k ≡ false). place-off z tr b k (o ∙ f) ∙ e ∙ sym (past_off z b p k f))
      (cases (p k))

  word-is : (k : ℕ) → place_of z tr b k ≡ link_past z b p k → on_chain z tr b k ≡ eqb (get_or tr (link_past z b p k) 0) (suc k)
  unfolding on_chain
  word-is k e = rw e

  on-place : ((k : ℕ) → k < z.n → on_chain z tr b k ≡ p k) → (k : ℕ) → k ≤ z.n → place_of z tr b k ≡ link_past z b p k
  on-place f zero h = place-start
  on-place f (suc k) h = place-next k (on-place f k (omega arith)) (f k h)

  chain-on_chain : ((k : ℕ) → k < z.n → on_chain z tr b k ≡ p k) → Chain z tr b p
  chain-on_chain f = record { words = λ k h. sym (word-is k (on-place f k (omega arith))) ∙ f k h }

module _ {z : Sizes} {tr : List ℕ} {b : ℕ} {p : ℕ → Bool} (c : Chain z tr b p) where
  chain-place : (k : ℕ) → k ≤ z.n → place_of z tr b k ≡ link_past z b p k
  chain-place zero h = place-start z tr b p
  chain-place (suc k) h = let e = chain-place k (omega arith) in place-next z tr b p k e (word-is z tr b p k e ∙ c.words k h)

  chain-on : (k : ℕ) → k < z.n → on_chain z tr b k ≡ p k
  chain-on k h = word-is z tr b p k (chain-place k (omega arith)) ∙ c.words k h

  -- what keeps a chain: its links stay, and so do its slots
  chain-kept : {tr' : List ℕ} {p' : ℕ → Bool} → ((k : ℕ) → k < z.n → p' k ≡ p k) → ((k : ℕ) → k < z.n → get_or tr' (link_past z b p k) 0 ≡ get_or tr (link_past z b p k) 0) → Chain z tr' b p'
  chain-kept {tr'} {p'} same kept =
      record { words = λ k h. rw (past_same z b p p' k (λ u l. same u (omega arith)), kept k h, same k h) (c.words k h) }

-- what changes it at slot s alone: the link past the slots below s leads to none of them, and to s where s is on the new chain;
-- the link past s leads to the slots above s that it led to
record Relinked (z : Sizes) (tr tr' : List ℕ) (b : ℕ) (p p' : ℕ → Bool) (s at : ℕ) : Type 0 where
  same : (u : ℕ) → u < z.n → u ≢ s → p' u ≡ p u
  place : link_past z b p s ≡ at
  others : (j : ℕ) → j ≢ at → j ≢ link_at z s → get_or tr' j 0 ≡ get_or tr j 0
  below : (k : ℕ) → k < s → get_or tr' at 0 ≢ suc k
  here : eqb (get_or tr' at 0) (suc s) ≡ p' s
  above : (k : ℕ) → s < k → eqb (get_or tr' (link_past z b p' (suc s)) 0) (suc k) ≡ eqb (get_or tr (link_past z b p (suc s)) 0) (suc k)

chain-changed : {z : Sizes} {tr tr' : List ℕ} {b : ℕ} {p p' : ℕ → Bool} {s at : ℕ} → b < z.n → s < z.n → Relinked z tr tr' b p p' s at → Chain z tr b p → Chain z tr' b p'
chain-changed {z} {tr} {tr'} {b} {p} {p'} {s} {at} low h r c =
    record {
      words = λ k l. elim (ℕ_discrete k s) [
        | yes e ↦ rw (e, up_to s (omega arith), r.place) r.here
        | no d ↦ elim (dec_lt k s) [
          | yes m ↦ lower k m
          | no m ↦ upper k l (omega arith)
        ]
      ];
    }
  where
    up_to : (k : ℕ) → k ≤ s → link_past z b p' k ≡ link_past z b p k
    up_to k m = past_same z b p p' k (λ u a. r.same u (omega arith) (λ q. omega arith))

    lower : (k : ℕ) → k < s → eqb (get_or tr' (link_past z b p' k) 0) (suc k) ≡ p' k
    lower k m =
        rw (up_to k (omega arith), r.same k (omega arith) (λ q. omega arith))
        (elim (ℕ_discrete (link_past z b p k) at) [
          | yes e ↦ rw (e, ne_eqb _ (suc k) (r.below k m)) (sym (refuted (p k) (λ t. past-moves z b p low k s m t (e ∙ sym r.place))))
          | no d ↦ rw (r.others (link_past z b p k) d (past-below z b p low k s (omega arith))) (c.words k (omega arith))
        ])

    upper : (k : ℕ) → k < z.n → s < k → eqb (get_or tr' (link_past z b p' k) 0) (suc k) ≡ p' k
    upper k l m =
        past-both z b p p' (λ i j. eqb (get_or tr' j 0) (suc k) ≡ eqb (get_or tr i 0) (suc k)) (suc s) k m
        (λ u a q. r.same u (omega arith) (λ e. omega arith))
        (r.above k m)
        (λ u a q t. rw (r.others (link_at z u) (λ e. past-below z b p low s u (omega arith) (r.place ∙ sym e)) (λ e. omega arith)))
        ∙ c.words k l ∙ sym (r.same k l (λ e. omega arith))

-- ---- an onward link leads to no slot up to s, and to one above where the link that it goes by did
either-onward : (s next : ℕ) → ((suc s < next) × (onward s next ≡ next)) ⊎ ((next ≤ suc s) × (onward s next ≡ 0))
unfolding onward
either-onward s next =
    ⊎_elim
    (λ (t : ltb (suc s) next ≡ true). inl (ltb-true (suc s) next t, rw t))
    (λ (f : ltb (suc s) next ≡ false). inr (ltb-false (suc s) next f, rw f))
    (cases (ltb (suc s) next))

onward-above : (s next k : ℕ) → k ≤ s → onward s next ≢ suc k
onward-above s next k l e = ⊎_elim (λ o. omega (arith, o.0, o.1)) (λ o. omega (arith, o.1)) (either-onward s next)

onward-same : (s next k : ℕ) → s < k → eqb (onward s next) (suc k) ≡ eqb next (suc k)
onward-same s next k l =
    ⊎_elim
    (λ (o : (suc s < next) × (onward s next ≡ next)). rw o.1)
    (λ (o : (next ≤ suc s) × (onward s next ≡ 0)).
    rw (o.1, ne_eqb next (suc k) (λ e. omega (arith, o.0)), ne_eqb 0 (suc k) (λ e. omega arith)))
    (either-onward s next)

-- ---- so slot s joins the chain of b, or leaves it
module _ (z : Sizes) (tr : List ℕ) (b s at : ℕ) (p p' : ℕ → Bool) (y : Notes tr z) (low : b < z.n) (h : s < z.n) (same : (u : ℕ) → u < z.n → u ≢ s → p' u ≡ p u) (e : link_past z b p s ≡ at) where
  joined : p s ≡ false → p' s ≡ true → Relinked z tr (set (set tr (link_at z s) (get_or tr at 0)) at (suc s)) b p p' s at
  joined f t =
      let one = set tr (link_at z s) (get_or tr at 0) in
      let within : at < length one = simp length-set (rw (← e) (past-within z b p low tr y s (omega arith))) in
      let word : get_or (set one at (suc s)) at 0 ≡ suc s = get_or-set_same one at (suc s) 0 within in
      let own : get_or (set one at (suc s)) (link_at z s) 0 ≡ get_or tr at 0 =
      get_or-set_other one at (link_at z s) (suc s) 0 (λ q. past-below z b p low s s (omega arith) (e ∙ sym q))
      ∙ get_or-set_same tr (link_at z s) (get_or tr at 0) 0 (omega (arith, y.long)) in
      record {
        same = same;
        place = e;
        others = λ j d g. get_or-set_other one at j (suc s) 0 d ∙ get_or-set_other tr (link_at z s) j (get_or tr at 0) 0 g;
        below = λ k l q. omega (arith, word);
        here = rw (word, t) (eq-eqb (suc s) (suc s) refl);
        above = λ k l. rw (past-on z b p' s t, past_off z b p s f, e, own);
      }

  left : p s ≡ true → p' s ≡ false → Relinked z tr (set tr at (onward s (get_or tr (link_at z s) 0))) b p p' s at
  left t f =
      let next = get_or tr (link_at z s) 0 in
      let within : at < length tr = rw (← e) (past-within z b p low tr y s (omega arith)) in
      let word : get_or (set tr at (onward s next)) at 0 ≡ onward s next = get_or-set_same tr at (onward s next) 0 within in
      let past : link_past z b p' (suc s) ≡ at = past_off z b p' s f ∙ past_same z b p p' s (λ u l. same u (omega arith) (λ q. omega arith)) ∙ e in
      record {
        same = same;
        place = e;
        others = λ j d g. get_or-set_other tr at j (onward s next) 0 d;
        below = λ k l q. onward-above s next k (omega arith) (sym word ∙ q);
        here = rw (word, f) (ne_eqb _ (suc s) (onward-above s next s (omega arith)));
        above = λ k l. rw (past, past-on z b p s t, word) (onward-same s next k l);
      }

-- ---- all chains: that of bucket b has the slots that pass `on b`
record Chains (z : Sizes) (tr : List ℕ) (on : ℕ → ℕ → Bool) : Type 0 where
  chain : (b : ℕ) → b < z.n → Chain z tr b (on b)

chains-kept : {z : Sizes} {tr tr' : List ℕ} {on on' : ℕ → ℕ → Bool} → IndexKept z tr tr' → ((b u : ℕ) → u < z.n → on' b u ≡ on b u) → Chains z tr on → Chains z tr' on'
chains-kept {z} {tr} {tr'} {on} k same c =
    record { chain = λ b l. chain-kept (c.chain b l) (same b) (λ u m. k.words (link_past z b (on b) u) (past_index z b (on b) u)) }

-- words that are 0 lead nowhere
chains-none : {z : Sizes} {tr : List ℕ} {on : ℕ → ℕ → Bool} → ((j : ℕ) → index_at z ≤ j → get_or tr j 0 ≡ 0) → ((b u : ℕ) → u < z.n → on b u ≡ false) → Chains z tr on
chains-none {z} {tr} {on} zeros none =
    record { chain = λ b l. record { words = λ u m. rw (zeros (link_past z b (on b) u) (past_index z b (on b) u), none b u m) (ne_eqb 0 (suc u) (λ q. omega arith)) } }

-- a change at slot s in bucket b alone, where each slot was in one bucket at most
record Differ (z : Sizes) (on on' : ℕ → ℕ → Bool) (b s : ℕ) : Type 0 where
  one : (a c u : ℕ) → on a u ≡ true → on c u ≡ true → a ≡ c
  old : (a : ℕ) → a ≢ b → on a s ≡ false
  new : (a : ℕ) → a ≢ b → on' a s ≡ false
  others : (a u : ℕ) → u < z.n → u ≢ s → on' a u ≡ on a u

module _ {z : Sizes} {on on' : ℕ → ℕ → Bool} {b s : ℕ} (x : Differ z on on' b s) (low : b < z.n) (h : s < z.n) where
  -- another bucket's links are neither of the two words that change
  other_place : (a k : ℕ) → a < z.n → a ≢ b → link_past z a (on a) k ≢ link_past z b (on b) s
  other_place a k l d =
      past_is z a (on a) (λ i. i ≢ link_past z b (on b) s) k
      (past_is z b (on b) (λ j. bucket_at z a ≢ j) s (λ q. d (omega arith)) (λ u m t q. omega arith))
      (λ u m t. past_is z b (on b) (λ j. link_at z u ≢ j) s (λ q. omega arith) (λ v o w q. let e : v ≡ u = omega arith in d (x.one a b u t (rw e at w))))

  other-link : (a k : ℕ) → a < z.n → a ≢ b → link_past z a (on a) k ≢ link_at z s
  other-link a k l d =
      past_is z a (on a) (λ i. i ≢ link_at z s) k (λ q. omega arith) (λ u m t q. let e : u ≡ s = omega arith in never (on a s) (rw e at t) (x.old a d))

  chains-changed : {tr tr' : List ℕ} {at : ℕ} → Relinked z tr tr' b (on b) (on' b) s at → Chains z tr on → Chains z tr' on'
  chains-changed r c =
      record {
        chain = λ a l. elim (ℕ_discrete a b) [
          | yes e ↦ rw e (chain-changed low h r (c.chain b low))
          | no d ↦ chain-kept (c.chain a l)
              (λ u m. elim (ℕ_discrete u s) [ yes e ↦ rw e (x.new a d ∙ sym (x.old a d)) | no g ↦ x.others a u m g ])
              (λ u m. r.others (link_past z a (on a) u) (λ q. other_place a u l d (q ∙ sym r.place)) (other-link a u l d))
        ];
      }

module _ {z : Sizes} {tr : List ℕ} {on on' : ℕ → ℕ → Bool} {s : ℕ} (name : Name) (y : Notes tr z) (h : s < z.n) (x : Differ z on on' (bucket_of z.n name) s) (c : Chains z tr on) where
  chains-inserted : on (bucket_of z.n name) s ≡ false → on' (bucket_of z.n name) s ≡ true → Chains z (inserted z tr name s) on'
  unfolding inserted
  chains-inserted f t =
      let b = bucket_of z.n name in
      let low = bucket-low z.n name (omega arith) in
      let e = sym (chain-place (c.chain b low) s (omega arith)) in
      chains-changed x low h (joined z tr b s (place_of z tr b s) (on b) (on' b) y low h (x.others b) e f t) c

  chains-removed : on (bucket_of z.n name) s ≡ true → on' (bucket_of z.n name) s ≡ false → Chains z (removed z tr name s) on'
  unfolding removed onward
  chains-removed t f =
      let b = bucket_of z.n name in
      let low = bucket-low z.n name (omega arith) in
      let e = sym (chain-place (c.chain b low) s (omega arith)) in
      chains-changed x low h (left z tr b s (place_of z tr b s) (on b) (on' b) y low h (x.others b) e t f) c

-- ---- the filled slots, by the buckets of their names
unfoldable filled_in : Sizes → List ℕ → ℕ → ℕ → Bool
filled_in z wk b s = is_filled (header wk s) && eqb (bucket_of z.n (name_at wk z.n z.w s)) b

module _ (z : Sizes) (wk : List ℕ) where
  in-bucket : (a s : ℕ) → filled_in z wk a s ≡ true → bucket_of z.n (name_at wk z.n z.w s) ≡ a
  unfolding filled_in
  in-bucket a s t = eqb-true (bucket_of z.n (name_at wk z.n z.w s)) a (and_right (is_filled (header wk s)) _ t)

  in_one : (a c s : ℕ) → filled_in z wk a s ≡ true → filled_in z wk c s ≡ true → a ≡ c
  in_one a c s t v = sym (in-bucket a s t) ∙ in-bucket c s v

  in-here : (s : ℕ) → is_filled (header wk s) ≡ true → filled_in z wk (bucket_of z.n (name_at wk z.n z.w s)) s ≡ true
  unfolding filled_in
  in-here s t = let b = bucket_of z.n (name_at wk z.n z.w s) in rw t (eq-eqb b b refl)

  in-other : (a s : ℕ) → a ≢ bucket_of z.n (name_at wk z.n z.w s) → filled_in z wk a s ≡ false
  in-other a s d = refuted (filled_in z wk a s) (λ t. d (sym (in-bucket a s t)))

  in-none : (a s : ℕ) → is_filled (header wk s) ≡ false → filled_in z wk a s ≡ false
  unfolding filled_in
  in-none a s f = rw f

in-same : (z : Sizes) (wk wk' : List ℕ) (a m : ℕ) → is_filled (header wk' m) ≡ is_filled (header wk m) → name_at wk' z.n z.w m ≡ name_at wk z.n z.w m → filled_in z wk' a m ≡ filled_in z wk a m
unfolding filled_in
in-same z wk wk' a m f e = rw (f, e)

-- an index that holds them has their chains
module _ {z : Sizes} {wk tr : List ℕ} where
  indexed-chains : Indexed z wk tr → Chains z tr (filled_in z wk)
  unfolding filled_in
  indexed-chains x = record { chain = λ b l. chain-on_chain z tr b (filled_in z wk b) (λ s m. x.holds b s l m) }

  chains-indexed : Chains z tr (filled_in z wk) → Indexed z wk tr
  unfolding filled_in
  chains-indexed c = record { holds = λ b s l m. chain-on (c.chain b l) s m }

-- ---- what an index holds, and what keeps it
module _ {z : Sizes} {wk tr : List ℕ} where
  pub indexed-listed : Indexed z wk tr → (s : ℕ) → s < z.n → is_filled (header wk s) ≡ true → on_chain z tr (bucket_of z.n (name_at wk z.n z.w s)) s ≡ true
  unfolding filled_in
  indexed-listed x s h t = let name = name_at wk z.n z.w s in x.holds (bucket_of z.n name) s (bucket-low z.n name (omega arith)) h ∙ in-here z wk s t

  pub indexed-empty : ((j : ℕ) → index_at z ≤ j → get_or tr j 0 ≡ 0) → ((s : ℕ) → s < z.n → is_filled (header wk s) ≡ false) → Indexed z wk tr
  indexed-empty zeros none = chains-indexed (chains-none zeros (λ a s l. in-none z wk a s (none s l)))

  module _ {wk' : List ℕ} where
    pub indexed-same : {tr' : List ℕ} → IndexKept z tr tr' → ((m : ℕ) → m < z.n → is_filled (header wk' m) ≡ is_filled (header wk m)) → ((m : ℕ) → m < z.n → name_at wk' z.n z.w m ≡ name_at wk z.n z.w m) → Indexed z wk tr → Indexed z wk' tr'
    indexed-same k f e x = chains-indexed (chains-kept k (λ a m l. in-same z wk wk' a m (f m l) (e m l)) (indexed-chains x))

    module _ {name : Name} {s : ℕ} (y : Notes tr z) (h : s < z.n) (x : Indexed z wk tr) where
      pub indexed-inserted : is_filled (header wk s) ≡ false → is_filled (header wk' s) ≡ true → name_at wk' z.n z.w s ≡ name → Others z wk wk' s → Indexed z wk' (inserted z tr name s)
      indexed-inserted f t e o =
          let new : Differ z (filled_in z wk) (filled_in z wk') (bucket_of z.n (name_at wk' z.n z.w s)) s =
          record {
            one = in_one z wk;
            old = λ a d. in-none z wk a s f;
            new = λ a d. in-other z wk' a s d;
            others = λ a m l d. in-same z wk wk' a m (o.filled m l d) (o.named m l d);
          } in
          rw (← e) (chains-indexed (chains-inserted (name_at wk' z.n z.w s) y h new (indexed-chains x) (in-none z wk _ s f) (in-here z wk' s t)))

      pub indexed-removed : is_filled (header wk s) ≡ true → name_at wk z.n z.w s ≡ name → is_filled (header wk' s) ≡ false → Others z wk wk' s → Indexed z wk' (removed z tr name s)
      indexed-removed t e f o =
          let new : Differ z (filled_in z wk) (filled_in z wk') (bucket_of z.n (name_at wk z.n z.w s)) s =
          record {
            one = in_one z wk;
            old = λ a d. in-other z wk a s d;
            new = λ a d. in-none z wk' a s f;
            others = λ a m l d. in-same z wk wk' a m (o.filled m l d) (o.named m l d);
          } in
          rw (← e) (chains-indexed (chains-removed (name_at wk z.n z.w s) y h new (indexed-chains x) (in-here z wk s t) (in-none z wk' _ s f)))

-- ---- a rebuilding: before slot k - 1 joins, the index holds the filled slots from k on
unfoldable filled_from : Sizes → List ℕ → ℕ → ℕ → ℕ → Bool
filled_from z wk k b s = leb k s && filled_in z wk b s

module _ (z : Sizes) (wk : List ℕ) where
  module _ (k a s : ℕ) where
    from_in : k ≤ s → filled_from z wk k a s ≡ filled_in z wk a s
    unfolding filled_from
    from_in h = rw (le-leb k s h)

    from_out : s < k → filled_from z wk k a s ≡ false
    unfolding filled_from
    from_out h = rw (lt-leb k s h)

    from-filled : filled_from z wk k a s ≡ true → filled_in z wk a s ≡ true
    unfolding filled_from
    from-filled t = and_right (leb k s) _ t

  from-others : (k a s : ℕ) → s ≢ k → filled_from z wk k a s ≡ filled_from z wk (suc k) a s
  from-others k a s d = elim (dec_lt s k) [
    | yes l ↦ from_out k a s l ∙ sym (from_out (suc k) a s (omega arith))
    | no l ↦ from_in k a s (omega arith) ∙ sym (from_in (suc k) a s (omega arith))
  ]

  -- a filled slot joins, another one leaves all as it is
  from-joins : (k : ℕ) → Differ z (filled_from z wk (suc k)) (filled_from z wk k) (bucket_of z.n (name_at wk z.n z.w k)) k
  from-joins k =
      record {
        one = λ a c s t v. in_one z wk a c s (from-filled (suc k) a s t) (from-filled (suc k) c s v);
        old = λ a d. from_out (suc k) a k (omega arith);
        new = λ a d. from_in k a k (omega arith) ∙ in-other z wk a k d;
        others = λ a s l d. from-others k a s d;
      }

  from-stays : (k : ℕ) → is_filled (header wk k) ≡ false → (a s : ℕ) → s < z.n → filled_from z wk k a s ≡ filled_from z wk (suc k) a s
  from-stays k f a s l = elim (ℕ_discrete s k) [
    | yes e ↦ rw e (from_in k a k (omega arith) ∙ in-none z wk a k f ∙ sym (from_out (suc k) a k (omega arith)))
    | no d ↦ from-others k a s d
  ]

  chains-rebuilt : (k : ℕ) {tr : List ℕ} → k ≤ z.n → Notes tr z → Chains z tr (filled_from z wk k) → Chains z (rebuilt z wk tr k) (filled_from z wk 0)
  unfolding rebuilt
  chains-rebuilt zero h y c = c
  chains-rebuilt (suc k) {tr} h y c =
      let name = name_at wk z.n z.w k in
      let b = bucket_of z.n name in
      ⊎_elim
      (λ (t : is_filled (header wk k) ≡ true).
      let y' : Notes (inserted z tr name k) z = record { long = inserted-long z tr name k ∙ y.long; slots-hi = y.slots-hi; threads-hi = y.threads-hi } in
      let on = from_in k b k (omega arith) ∙ in-here z wk k t in
      rw t (chains-rebuilt k (omega arith) y' (chains-inserted name y h (from-joins k) c (from_out (suc k) b k (omega arith)) on)))
      (λ (f : is_filled (header wk k) ≡ false).
      rw f (chains-rebuilt k (omega arith) y (chains-kept (record { words = λ j l. refl }) (from-stays k f) c)))
      (cases (is_filled (header wk k)))

pub indexed-rebuilt : {z : Sizes} {wk tr : List ℕ} → Notes tr z → ((j : ℕ) → index_at z ≤ j → get_or tr j 0 ≡ 0) → Indexed z wk (rebuilt z wk tr z.n)
indexed-rebuilt {z} {wk} y zeros =
    let c = chains-rebuilt z wk z.n (omega arith) y (chains-none zeros (λ a s l. from_out z wk z.n a s l)) in
    chains-indexed (chains-kept (record { words = λ j l. refl }) (λ a s l. sym (from_in z wk 0 a s (omega arith))) c)
