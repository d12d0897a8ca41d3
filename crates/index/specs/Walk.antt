-- A walk along a chain: a link leads to the next slot on it, or to the end.
use Rattle.std.specs.Prelude.{ℕ, zero, suc, ◌+◌, ◌-◌, ◌≤◌, ◌<◌, ◌≢◌, ◌&&◌, List}
use Rattle.std.proofs.Math.Path.{◌≡◌, refl}
use Rattle.std.proofs.Common.{◌∙◌}
use Rattle.std.proofs.Math.Logic.{⊎_elim}
use Rattle.std.proofs.Math.Bool.{true, false}
use Rattle.std.proofs.Math.ListN.{get_or}
use Rattle.std.proofs.Math.Dec.{leb, ltb}
use borrow.Author.Tests.{eq-eqb, ne_eqb, lt-ltb, le-leb, ltb-true, leb-true}
use native.Mathlib.Omega.{arith}
use Rattle.search.specs.Bools.{cases, and_left, and_right}
use Rattle.search.specs.First.{Next}
use Rattle.transient.specs.declared.sizes.Sizes.{Sizes}
use Rattle.transient.specs.Layout.{bucket_at, link_at}
use Rattle.index.specs.Index.{place_of, on_chain}
use Rattle.index.specs.Requires.{leads_to}

module _ (z : Sizes) (tr : List ℕ) (b : ℕ) where
  pub place-first : place_of z tr b 0 ≡ bucket_at z b
  unfolding place_of
  place-first = refl

  -- past a slot on the chain its own link leads on, past another one the link that led past those below it
  pub place-on : (s : ℕ) → on_chain z tr b s ≡ true → place_of z tr b (suc s) ≡ link_at z s
  unfolding place_of on_chain
  place-on s e = rw e

  pub place-off : (s : ℕ) → on_chain z tr b s ≡ false → place_of z tr b (suc s) ≡ place_of z tr b s
  unfolding place_of on_chain
  place-off s e = rw e

  pub chain-is : (s : ℕ) {at : ℕ} → place_of z tr b s ≡ at → get_or tr at 0 ≡ suc s → on_chain z tr b s ≡ true
  unfolding on_chain
  chain-is s p e = rw p (eq-eqb _ _ e)

  pub chain-not : (s : ℕ) {at : ℕ} → place_of z tr b s ≡ at → get_or tr at 0 ≢ suc s → on_chain z tr b s ≡ false
  unfolding on_chain
  chain-not s p e = rw p (ne_eqb _ _ e)

  -- a link that leads to none of d slots leads past them
  pub place-stays : (d from : ℕ) {at : ℕ} → place_of z tr b from ≡ at → ((j : ℕ) → from ≤ j → j < from + d → get_or tr at 0 ≢ suc j) → place_of z tr b (from + d) ≡ at
  place-stays zero from p f = let e : from + 0 ≡ from = omega arith in rw e p
  place-stays (suc d) from p f =
      let e : from + suc d ≡ suc (from + d) = omega arith in
      let u = place-stays d from p (λ j a h. f j a (omega arith)) in
      rw e (place-off (from + d) (chain-not (from + d) u (f (from + d) (omega arith) (omega arith))) ∙ u)

  -- ---- where a link leads
  module _ {from at : ℕ} (end : ℕ) (p : place_of z tr b from ≡ at) (h : from ≤ end) where
    -- to a slot of the range, or to none
    pub record Leads (t : ℕ) : Type 0 where
      pub above : from ≤ t
      pub top : t ≤ end
      pub before : (j : ℕ) → from ≤ j → j < t → get_or tr at 0 ≢ suc j
      pub here : t < end → get_or tr at 0 ≡ suc t

    leads : Leads (leads_to tr at from end)
    unfolding leads_to
    leads =
        let x = get_or tr at 0 in
        ⊎_elim
        (λ (t : ltb from x && leb x end ≡ true).
        let lo = ltb-true from x (and_left (ltb from x) _ t) in
        let hi = leb-true x end (and_right (ltb from x) _ t) in
        rw t (record { above = omega arith; top = omega arith; before = λ j a c q. omega arith; here = λ c. omega arith }))
        (λ (f : ltb from x && leb x end ≡ false).
        rw f (record {
          above = h;
          top = omega arith;
          before = λ j a c q. outside f (omega arith) (omega arith);
          here = λ c. absurd (omega arith);
        }))
        (cases (ltb from x && leb x end))
      where
        outside : ltb from (get_or tr at 0) && leb (get_or tr at 0) end ≡ false → from < get_or tr at 0 → get_or tr at 0 ≤ end → ⊥
        outside f lo hi = let q : true ≡ false = rw (lt-ltb from (get_or tr at 0) lo, le-leb (get_or tr at 0) end hi) at f in let y : ◌≡◌ {A = ℕ} 0 1 = cc in omega arith

    module _ {t : ℕ} (q : t ≡ leads_to tr at from end) where
      leads-to : Leads t
      leads-to = rw q leads

      -- up to a slot of the range it leads past
      leads-past : (k : ℕ) → from ≤ k → k ≤ t → place_of z tr b k ≡ at
      leads-past k a c =
          let e : from + (k - from) ≡ k = omega arith in
          rw e at (place-stays (k - from) from p (λ j l m. leads-to.before j l (omega arith)))

      pub leads-place : place_of z tr b t ≡ at
      leads-place = leads-past t leads-to.above (omega arith)

      pub leads-next : Next (on_chain z tr b) end from t
      leads-next =
          record {
            above = leads-to.above;
            top = leads-to.top;
            before = λ j l m. chain-not j (leads-past j l (omega arith)) (leads-to.before j l m);
            passes = λ m. chain-is t leads-place (leads-to.here m);
          }

  -- ---- the first slot on the chain, and the next one
  pub first-chain : {t : ℕ} (n : ℕ) → t ≡ leads_to tr (bucket_at z b) 0 n → Next (on_chain z tr b) n 0 t
  first-chain n q = leads-next n place-first (omega arith) q

  pub next-chain : {s t : ℕ} (n : ℕ) → on_chain z tr b s ≡ true → s < n → t ≡ leads_to tr (link_at z s) (s + 1) n → Next (on_chain z tr b) n (s + 1) t
  next-chain {s} n e h q =
      let o : s + 1 ≡ suc s = omega arith in
      leads-next n (rw o (place-on s e)) (omega arith) q
