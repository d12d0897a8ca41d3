-- Tables of slots as functions from the slot's number. A write says which one or two slots it changes; the split "this slot or
-- another" is made here and nowhere else.
use Rattle.std.specs.Prelude.{ℕ, ◌≡◌, ◌≢◌}
use Rattle.std.proofs.Common.{ap, sym, ◌∙◌}
use Rattle.std.proofs.Math.Decide.{ℕ_discrete}

module _ {A : Type 0} where
  -- g is f but for slot s, which holds x
  pub record Put (f g : ℕ → A) (s : ℕ) (x : A) : Type 0 where
    pub here : g s ≡ x
    pub there : (m : ℕ) → m ≢ s → g m ≡ f m

  -- the same for two slots
  pub record Put2 (f g : ℕ → A) (s : ℕ) (x : A) (t : ℕ) (y : A) : Type 0 where
    pub apart : s ≢ t
    pub first : g s ≡ x
    pub second : g t ≡ y
    pub rest : (m : ℕ) → m ≢ s → m ≢ t → g m ≡ f m

  -- a relation between any two different slots
  abbrev pub Pairwise : (A → A → Type 0) → (ℕ → A) → Type 0
  Pairwise R f = (m n : ℕ) → m ≢ n → R (f m) (f n)

  -- of every slot, by its number
  abbrev pub Every : (ℕ → A → Type 0) → (ℕ → A) → Type 0
  Every P f = (m : ℕ) → P m (f m)

  -- some slot
  pub record Any (P : A → Type 0) (f : ℕ → A) : Type 0 where
    pub at : ℕ
    pub holds : P (f at)

  -- ---- after one write
  module _ {f g : ℕ → A} {s : ℕ} {x : A} (p : Put f g s x) where
    pub every-put : (P : ℕ → A → Type 0) → P s x → ((m : ℕ) → m ≢ s → P m (f m)) → Every P g
    every-put P new old m = elim (ℕ_discrete m s) [ yes a ↦ rw (a, p.here) new | no a ↦ rw (p.there m a) (old m a) ]

    pub pairwise-put : (R : A → A → Type 0) → ((m : ℕ) → m ≢ s → R x (f m) × R (f m) x) → Pairwise R f → Pairwise R g
    pairwise-put R new old m n q = elim (ℕ_discrete m s) [
      | yes a ↦ rw (a, p.here, p.there n (λ b. q (a ∙ sym b))) (new n (λ b. q (a ∙ sym b))).0
      | no a ↦ elim (ℕ_discrete n s) [
        | yes b ↦ rw (b, p.here, p.there m a) (new m a).1
        | no b ↦ rw (p.there m a, p.there n b) (old m n q)
      ]
    ]

    pub any-new : {P : A → Type 0} → P x → Any P g
    any-new h = record { at = s; holds = rw p.here h }

    -- what held of an old slot holds of some slot, given what becomes of it at the slot that is written
    pub any-keep : {P : A → Type 0} → (P (f s) → Any P g) → Any P f → Any P g
    any-keep at-s h = elim (ℕ_discrete h.at s) [
      | yes a ↦ at-s (rw a at h.holds)
      | no a ↦ record { at = h.at; holds = rw (p.there h.at a) h.holds }
    ]

    pub any-case : {P : A → Type 0} {C : Type 0} → (P x → C) → ((m : ℕ) → m ≢ s → P (f m) → C) → Any P g → C
    any-case new old h = elim (ℕ_discrete h.at s) [
      | yes a ↦ new (rw (a, p.here) at h.holds)
      | no a ↦ old h.at a (rw (p.there h.at a) at h.holds)
    ]

  -- ---- after two writes
  pub data Cell (f g : ℕ → A) (s : ℕ) (x : A) (t : ℕ) (y : A) (m : ℕ) : Type 0 where
    is-first : m ≡ s → g m ≡ x → Cell f g s x t y m
    is-second : m ≡ t → g m ≡ y → Cell f g s x t y m
    is-old : m ≢ s → m ≢ t → g m ≡ f m → Cell f g s x t y m

  module _ {f g : ℕ → A} {s : ℕ} {x : A} {t : ℕ} {y : A} (p : Put2 f g s x t y) where
    cell : (m : ℕ) → Cell f g s x t y m
    cell m = elim (ℕ_discrete m s) [
      | yes a ↦ is-first a (ap g a ∙ p.first)
      | no a ↦ elim (ℕ_discrete m t) [ yes b ↦ is-second b (ap g b ∙ p.second) | no b ↦ is-old a b (p.rest m a b) ]
    ]

    pub every-put2 : (P : ℕ → A → Type 0) → P s x → P t y → ((m : ℕ) → m ≢ s → m ≢ t → P m (f m)) → Every P g
    every-put2 P new also old m = elim (cell m) [ is-first a e ↦ rw (e, a) new | is-second a e ↦ rw (e, a) also | is-old a b e ↦ rw e (old m a b) ]

    pub pairwise-put2 : (R : A → A → Type 0) → R x y → R y x
        → ((m : ℕ) → m ≢ s → m ≢ t → R x (f m) × R (f m) x × R y (f m) × R (f m) y) → Pairwise R f → Pairwise R g
    pairwise-put2 R xy yx new old m n q = go (cell m) (cell n)
      where
        go : Cell f g s x t y m → Cell f g s x t y n → R (g m) (g n)
        go (is-first a e) (is-first b d) = absurd (q (a ∙ sym b))
        go (is-first a e) (is-second b d) = rw (e, d) xy
        go (is-first a e) (is-old b c d) = rw (e, d) (new n b c).0
        go (is-second a e) (is-first b d) = rw (e, d) yx
        go (is-second a e) (is-second b d) = absurd (q (a ∙ sym b))
        go (is-second a e) (is-old b c d) = rw (e, d) (new n b c).2
        go (is-old a c e) (is-first b d) = rw (e, d) (new m a c).1
        go (is-old a c e) (is-second b d) = rw (e, d) (new m a c).3
        go (is-old a c e) (is-old b h d) = rw (e, d) (old m n q)

    pub any-first : {P : A → Type 0} → P x → Any P g
    any-first h = record { at = s; holds = rw p.first h }

    pub any-second : {P : A → Type 0} → P y → Any P g
    any-second h = record { at = t; holds = rw p.second h }

    pub any-keep2 : {P : A → Type 0} → (P (f s) → Any P g) → (P (f t) → Any P g) → Any P f → Any P g
    any-keep2 at-s at-t h = elim (cell h.at) [
      | is-first a e ↦ at-s (rw a at h.holds)
      | is-second a e ↦ at-t (rw a at h.holds)
      | is-old a b e ↦ record { at = h.at; holds = rw e h.holds }
    ]

    pub any-case2 : {P : A → Type 0} {C : Type 0} → (P x → C) → (P y → C) → ((m : ℕ) → m ≢ s → m ≢ t → P (f m) → C) → Any P g → C
    any-case2 new also old h = elim (cell h.at) [
      | is-first a e ↦ new (rw e at h.holds)
      | is-second a e ↦ also (rw e at h.holds)
      | is-old a b e ↦ old h.at a b (rw e at h.holds)
    ]
