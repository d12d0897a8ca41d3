-- The lines that 01 marks P ("Contracts and cases"), as one statement that ranges over their list.
use Rattle.std.specs.Prelude.{ℕ, ◌+◌, ◌≡◌, refl, Bool, true, false, not, ◌&&◌, ◌||◌, ◌≢◌, eqb}
use Rattle.std.proofs.Common.{sym, ◌∙◌, ⊎_elim, arith}
use mathlib.Core.List.Memᴰ
use mathlib.Core.List.{List, [], ◌∷◌, Memᴰ}
use borrow.Author.Tests.{eq-eqb, ne_eqb}
use Rattle.std.proofs.Math.Decide.{ℕ_discrete}
use Rattle.search.specs.Bools.{refuted}
use Rattle.search.specs.First.{first_of}
use Rattle.search.specs.Some.{any_of}
use Rattle.search.specs.Count.{count}
use Rattle.image.specs.declared.header.Header.{Header}
use Rattle.image.specs.Layout.{header_of, image_words, has_zero, is_payload, is_filled, header}
use Rattle.image.specs.Whole.{says-whole, filled-says, payload-not-anti}
use Rattle.transient.specs.declared.sizes.Sizes.{Sizes}
use Rattle.transient.specs.Layout.{retired_in}
use Rattle.transient.specs.Store.{Table}
use Rattle.survival.specs.Survivors.{kept, beats, survivor, survivor_count}
use Rattle.step.specs.Step.{due}

-- a line of 01, as a case
pub data Case : Type 0 where
  -- "label 5, clock 7: kept"
  is-kept : (label clock : ℕ) → Bool → Case
  -- "its lengths 13 and 12,291 become 15 and 13,315"
  has_words : (n w words : ℕ) → Case
  -- "retired in 4: freed by the advance from 6"
  retired-freed : (epoch clock : ℕ) → Case
  -- "DELETE labelled 4: by the advance from 7"
  anti-freed : (label clock : ℕ) → Case
  -- "uid 1 as ALLOC 5 and DELETE 7: at clock 8 the ALLOC survives": whether the first survives, and how many do
  survive : (alloc anti clock : ℕ) → Bool → ℕ → Case

unfoldable pub lines : List Case
lines =
    is-kept 5 7 true ∷ is-kept 6 7 false ∷ is-kept 2 3 false ∷ is-kept 2 4 true
    ∷ has_words 2 2 15 ∷ has_words 1024 9 13315
    ∷ retired-freed 4 6 ∷ anti-freed 4 7
    ∷ survive 5 7 8 true 1 ∷ survive 5 7 9 false 0 ∷ []

-- two slots of uid 1, an ALLOC and a DELETE, of the key 10
abbrev pub two_versions : ℕ → ℕ → ℕ → List ℕ
two_versions alloc anti clock = 2 ∷ 2 ∷ clock ∷ 1 ∷ alloc ∷ 1 ∷ 1 ∷ 3 ∷ anti ∷ 1 ∷ 1 ∷ 10 ∷ 100 ∷ 10 ∷ 0 ∷ []

-- what a line says, in terms of the definitions that the contracts and the trace use
abbrev pub Says : Case → Type 0
Says (is-kept e c b) =
    (u d : ℕ) → u ≢ 0 → d ≢ 0 → (kept c (header_of 1 e u d) ≡ b) × (kept c (header_of 2 e u d) ≡ b) × (kept c (header_of 3 e u d) ≡ b)
Says (has_words n w k) = image_words n w ≡ k
Says (retired-freed e c) = (z : Sizes) (tb : Table) (s d : ℕ) → is_payload (header tb.working s) ≡ true → retired_in z tb.transient s ≡ e → due z tb d s ≡ eqb d c
Says (anti-freed e c) = (z : Sizes) (tb : Table) (s d : ℕ) → is_filled (header tb.working s) ≡ true → (header tb.working s).kind ≡ 3 → (header tb.working s).epoch ≡ e → due z tb d s ≡ eqb d c
Says (survive a d c b k) = (survivor (two_versions a d c) 2 0 ≡ b) × (survivor_count (two_versions a d c) 2 ≡ k)

-- ---- the proofs
eqb-sym : (a b : ℕ) → eqb a b ≡ eqb b a
eqb-sym a b = elim (ℕ_discrete a b) [ yes q ↦ rw (eq-eqb a b q, eq-eqb b a (sym q)) | no q ↦ rw (ne_eqb a b q, ne_eqb b a (λ r. q (sym r))) ]

and_none : (a : Bool) → a && false ≡ false
and_none true = refl
and_none false = refl

or_no : (b : Bool) → b || false ≡ b
or_no true = refl
or_no false = refl

module _ (z : Sizes) (tb : Table) (s d e : ℕ) where
  abbrev h : Header
  h = header tb.working s

  retired-due : is_payload h ≡ true → retired_in z tb.transient s ≡ e → (e ≡ 0 → ⊥) → due z tb d s ≡ eqb d (e + 2)
  unfolding due
  retired-due p q n =
      rw (p, q, ne_eqb h.kind 3 (payload-not-anti h p), ne_eqb e 0 n, and_none (not (has_zero h))) (or_no (eqb (e + 2) d) ∙ eqb-sym (e + 2) d)

  anti-due : is_filled h ≡ true → h.kind ≡ 3 → h.epoch ≡ e → due z tb d s ≡ eqb d (e + 3)
  unfolding due
  anti-due f p q =
      rw (refuted (is_payload h) (λ v. payload-not-anti h v p), says-whole h (filled-says h f).whole, eq-eqb h.kind 3 p, q) (eqb-sym (e + 3) d)

-- the first of a list, and the others
each : (P : Case → Type 0) (y : Case) (ys : List Case) → P y → ((x : Case) → Memᴰ x ys → P x) → (x : Case) → Memᴰ x (y ∷ ys) → P x
each P y ys here there x m = ⊎_elim (λ q. rw q here) (there x) (Memᴰ.cases_cons m)

-- every line marked P
pub worked : (x : Case) → Memᴰ x lines → Says x
unfolding lines kept is_filled is_payload has_zero header survivor beats survivor_count any_of first_of count
worked =
    each Says _ _ (λ u d p q. (rw (ne_eqb u 0 p, ne_eqb d 0 q), rw (ne_eqb u 0 p, ne_eqb d 0 q), rw (ne_eqb u 0 p, ne_eqb d 0 q)))
    (each Says _ _ (λ u d p q. (rw (ne_eqb u 0 p, ne_eqb d 0 q), rw (ne_eqb u 0 p, ne_eqb d 0 q), rw (ne_eqb u 0 p, ne_eqb d 0 q)))
    (each Says _ _ (λ u d p q. (rw (ne_eqb u 0 p, ne_eqb d 0 q), rw (ne_eqb u 0 p, ne_eqb d 0 q), rw (ne_eqb u 0 p, ne_eqb d 0 q)))
    (each Says _ _ (λ u d p q. (rw (ne_eqb u 0 p, ne_eqb d 0 q), rw (ne_eqb u 0 p, ne_eqb d 0 q), rw (ne_eqb u 0 p, ne_eqb d 0 q)))
    (each Says _ _ refl
    (each Says _ _ refl
    (each Says _ _ (λ z tb s d h q. retired-due z tb s d 4 h q (λ n. omega arith))
    (each Says _ _ (λ z tb s d f h q. anti-due z tb s d 4 f h q)
    (each Says _ _ (refl, refl)
    (each Says _ _ (refl, refl)
    (λ x m. absurd (Memᴰ.not-nil m)))))))))))
