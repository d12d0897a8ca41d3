-- Freeing a slot that does not survive leaves the survivors as they were, if whatever it beats is also beaten by another slot.
use Rattle.std.specs.Prelude.{ℕ, ◌<◌, ◌≡◌, false, ◌&&◌, ◌≢◌, eqb}
use Rattle.std.proofs.Common.{◌∙◌, ltb-true, eqb-true, lt-ltb, eq-eqb, arith}
use Rattle.std.proofs.Math.Bool.{true}
use Rattle.std.proofs.lemmas.Bool.{eqb-false, not-true, not-false}
use Rattle.std.proofs.Math.Decide.{ℕ_discrete}
use Rattle.search.specs.Bools.{never, refuted, same_test, and_left, and_right, and_both, not-is-true}
use Rattle.search.specs.Some.{any_of, some_at, some_one, some-none, none-some}
use Rattle.image.specs.declared.header.Header.{Header}
use Rattle.image.specs.Layout.{has_zero, is_filled, is_payload}
use Rattle.image.specs.Whole.{payload-filled, payload-not-anti, filled-payload, zero-unfilled, zero-no-payload}
use Rattle.survival.specs.Survivors.{kept, beats}
use Rattle.survival.specs.Requires.{kept_anti, wins, survives}
use Rattle.acceptance.specs.Accept.{proper, version_below}
use Rattle.acceptance.specs.Requires.{same_version}

-- ---- the tests, read as facts
pub kept-filled : (c : ℕ) (h : Header) → kept c h ≡ true → is_filled h ≡ true
unfolding kept
kept-filled c h e = and_left (is_filled h) _ e

version-kept : (c : ℕ) (h g : Header) → same_version c h g ≡ true → kept c g ≡ true
unfolding same_version
version-kept c h g e = and_left (kept c g) _ e

pub record Anti (c : ℕ) (h : Header) : Type 0 where
  pub is-kept : kept c h ≡ true
  pub is-delete : h.kind ≡ 3

pub anti-says : (c : ℕ) (h : Header) → kept_anti c h ≡ true → Anti c h
unfolding kept_anti
anti-says c h e = record {
  is-kept = and_left (kept c h) _ e;
  is-delete = eqb-true h.kind 3 (and_right (kept c h) _ e);
}

record Beats (c : ℕ) (h g : Header) : Type 0 where
  is-kept : kept c g ≡ true
  one-uid : g.uid ≡ h.uid
  later : h.epoch < g.epoch

beats-says : (c : ℕ) (h g : Header) → beats c h g ≡ true → Beats c h g
unfolding beats
beats-says c h g e =
    let k = kept c g in
    let u = eqb g.uid h.uid in
    let r = and_right k _ e in
    record { is-kept = and_left k _ e; one-uid = eqb-true _ _ (and_left u _ r); later = ltb-true _ _ (and_right u _ r) }

says-beats : {c : ℕ} {h g : Header} → Beats c h g → beats c h g ≡ true
unfolding beats
says-beats b = and_both b.is-kept (and_both (eq-eqb _ _ b.one-uid) (lt-ltb _ _ b.later))

-- what beats a header beats all that it beats
beats-trans : {c : ℕ} {h g k : Header} → Beats c h g → Beats c g k → Beats c h k
beats-trans a b = record { is-kept = b.is-kept; one-uid = b.one-uid ∙ a.one-uid; later = omega arith }

record Survives (c : ℕ) (h : Header) (hs : ℕ → Header) (n : ℕ) : Type 0 where
  payload : is_payload h ≡ true
  is-kept : kept c h ≡ true
  unbeaten : (t : ℕ) → t < n → beats c h (hs t) ≡ false

survives-says : (c : ℕ) (hs : ℕ → Header) (n s : ℕ) → survives c hs n s ≡ true → Survives c (hs s) hs n
unfolding survives wins
survives-says c hs n s e =
    let p = is_payload (hs s) in
    let k = kept c (hs s) in
    let w = and_right p _ e in
    record {
      payload = and_left p _ e;
      is-kept = and_left k _ w;
      unbeaten = some-none (λ t. beats c (hs s) (hs t)) n (not-true _ (and_right k _ w));
    }

says-survives : {c : ℕ} {hs : ℕ → Header} {n : ℕ} (s : ℕ) → Survives c (hs s) hs n → survives c hs n s ≡ true
unfolding survives wins
says-survives {c} {hs} {n} s v =
    and_both v.payload (and_both v.is-kept (not-is-true (none-some (λ t. beats c (hs s) (hs t)) n v.unbeaten)))

pub survives-filled : (c : ℕ) (hs : ℕ → Header) (n s : ℕ) → survives c hs n s ≡ true → is_filled (hs s) ≡ true
survives-filled c hs n s e = payload-filled (hs s) (survives-says c hs n s e).payload

-- ---- one slot freed
-- hs' is hs but for slot s₀, which counts as free
pub record Freed (hs hs' : ℕ → Header) (s₀ : ℕ) : Type 0 where
  pub here : has_zero (hs' s₀) ≡ true
  pub there : (t : ℕ) → t ≢ s₀ → hs' t ≡ hs t

-- a slot other than s₀ that beats h
pub record Other (c : ℕ) (hs : ℕ → Header) (n s₀ : ℕ) (h : Header) : Type 0 where
  pub at : ℕ
  pub below : at < n
  pub apart : at ≢ s₀
  pub beating : beats c h (hs at) ≡ true

-- every payload that s₀ beats is beaten by another slot too
abbrev pub Covered : ℕ → (ℕ → Header) → ℕ → ℕ → Type 0
Covered c hs n s₀ = (s : ℕ) → s < n → is_payload (hs s) ≡ true → beats c (hs s) (hs s₀) ≡ true → Other c hs n s₀ (hs s)

zero-not-kept : (c : ℕ) (h : Header) → has_zero h ≡ true → kept c h ≡ false
unfolding kept
zero-not-kept c h z = rw (zero-unfilled h z)

module _ (c : ℕ) {hs hs' : ℕ → Header} {s₀ : ℕ} (f : Freed hs hs' s₀) where
  -- what is kept now is as it was
  kept-unmoved : (t : ℕ) → kept c (hs' t) ≡ true → hs' t ≡ hs t
  kept-unmoved t k =
      elim (ℕ_discrete t s₀) [
        | yes e ↦ never _ (rw e at k) (zero-not-kept c (hs' s₀) f.here)
        | no d ↦ f.there t d
      ]

  -- what beats a header now beat it before
  beat-before : (h : Header) (t : ℕ) → beats c h (hs t) ≡ false → beats c h (hs' t) ≡ false
  beat-before h t u =
      refuted (beats c h (hs' t)) (λ y. never _ (rw (kept-unmoved t (beats-says c h (hs' t) y).is-kept) at y) u)

  module _ (n : ℕ) (dies : survives c hs n s₀ ≡ false) where
    survives-on : (s : ℕ) → Survives c (hs s) hs n → Survives c (hs' s) hs' n
    survives-on s v =
        let d : s ≢ s₀ = λ e. never _ (rw e at (says-survives s v)) dies in
        rw (f.there s d) record { payload = v.payload; is-kept = v.is-kept; unbeaten = λ t l. beat-before (hs s) t (v.unbeaten t l) }

    module _ (cover : Covered c hs n s₀) where
      survived-before : (s : ℕ) → s < n → Survives c (hs' s) hs' n → Survives c (hs s) hs n
      survived-before s l v' =
          let v : Survives c (hs s) hs' n = rw (kept-unmoved s v'.is-kept) at v' in
          let others : (t : ℕ) → t < n → t ≢ s₀ → beats c (hs s) (hs t) ≡ false = λ t m d. rw (f.there t d) at (v.unbeaten t m) in
          let freed = refuted (beats c (hs s) (hs s₀)) (λ y. let o = cover s l v.payload y in never _ o.beating (others o.at o.below o.apart)) in
          record {
            payload = v.payload;
            is-kept = v.is-kept;
            unbeaten = λ t m. elim (ℕ_discrete t s₀) [ yes e ↦ rw e freed | no d ↦ others t m d ];
          }

      pub freed-survives : (s : ℕ) → s < n → survives c hs' n s ≡ survives c hs n s
      freed-survives s l =
          same_test (survives c hs' n s) (survives c hs n s)
          (λ t. says-survives s (survived-before s l (survives-says c hs' n s t)))
          (λ t. says-survives s (survives-on s (survives-says c hs n s t)))

  -- a header that counts as free or was proper is proper
  pub freed-proper : (t : ℕ) → proper c (hs t) ≡ true → proper c (hs' t) ≡ true
  unfolding proper
  freed-proper t p = elim (ℕ_discrete t s₀) [ yes e ↦ rw (e, f.here) | no d ↦ rw (f.there t d) p ]

  -- no version stands twice that did not before
  pub freed-versions : (s : ℕ) → version_below c hs s ≡ false → version_below c hs' s ≡ false
  unfolding version_below same_version
  freed-versions s u =
      refuted (version_below c hs' s)
      (λ y.
      let z : kept c (hs s) && any_of (λ t. same_version c (hs s) (hs' t)) s ≡ true = rw (kept-unmoved s (and_left (kept c (hs' s)) _ y)) at y in
      let o = some_one (λ t. same_version c (hs s) (hs' t)) s (and_right (kept c (hs s)) _ z) in
      let was = kept-unmoved o.at (version-kept c (hs s) (hs' o.at) o.passes) in
      let twice = some_at (λ t. same_version c (hs s) (hs t)) s o.at o.below (rw was at o.passes) in
      never (version_below c hs s) (and_both (and_left (kept c (hs s)) _ z) twice) u)

-- ---- a slot that counts as free already
pub zero-dies : (c : ℕ) (hs : ℕ → Header) (n s₀ : ℕ) → has_zero (hs s₀) ≡ true → survives c hs n s₀ ≡ false
unfolding survives
zero-dies c hs n s₀ z = rw (zero-no-payload (hs s₀) z)

pub zero-covered : (c : ℕ) (hs : ℕ → Header) (n s₀ : ℕ) → has_zero (hs s₀) ≡ true → Covered c hs n s₀
zero-covered c hs n s₀ z s l p b = never _ (beats-says c (hs s) (hs s₀) b).is-kept (zero-not-kept c (hs s₀) z)

-- ---- first pass: a slot that neither survives nor is a kept DELETE. Where it beats, it is a payload, and what beat it beats on.
pub stale-covered : (c : ℕ) (hs : ℕ → Header) (n s₀ : ℕ) → survives c hs n s₀ ≡ false → kept_anti c (hs s₀) ≡ false → Covered c hs n s₀
unfolding survives wins kept_anti
stale-covered c hs n s₀ dies plain s l p b =
    let e = beats-says c (hs s) (hs s₀) b in
    let payload = filled-payload (hs s₀) (kept-filled c (hs s₀) e.is-kept) (eqb-false (hs s₀).kind 3 (rw e.is-kept at plain)) in
    let lost : any_of (λ t. beats c (hs s₀) (hs t)) n ≡ true = not-false _ (rw (payload, e.is-kept) at dies) in
    let o = some_one (λ t. beats c (hs s₀) (hs t)) n lost in
    let g = beats-says c (hs s₀) (hs o.at) o.passes in
    record {
      at = o.at;
      below = o.below;
      apart = λ q. let z : (hs s₀).epoch < (hs s₀).epoch = rw q at g.later in omega arith;
      beating = says-beats (beats-trans e g);
    }

-- ---- second pass: a kept DELETE, where every filled slot that does not survive is one. It beats no payload.
pub anti-dies : (c : ℕ) (hs : ℕ → Header) (n s₀ : ℕ) → kept_anti c (hs s₀) ≡ true → survives c hs n s₀ ≡ false
anti-dies c hs n s₀ a =
    refuted (survives c hs n s₀)
    (λ t. payload-not-anti (hs s₀) (survives-says c hs n s₀ t).payload (anti-says c (hs s₀) a).is-delete)

pub anti-covered : (c : ℕ) (hs : ℕ → Header) (n s₀ : ℕ) → s₀ < n
    → ((s : ℕ) → s < n → is_filled (hs s) ≡ true → survives c hs n s ≡ false → kept_anti c (hs s) ≡ true)
    → Covered c hs n s₀
anti-covered c hs n s₀ l₀ only s l p b =
    let dies = refuted (survives c hs n s) (λ t. never _ b ((survives-says c hs n s t).unbeaten s₀ l₀)) in
    let a = anti-says c (hs s) (only s l (payload-filled (hs s) p) dies) in
    absurd (payload-not-anti (hs s) p a.is-delete)
