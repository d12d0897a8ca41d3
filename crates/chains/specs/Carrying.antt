-- What the chains carry: of i slots those that pass are linked, each by its number and with its label, and the others are skipped.
use Rattle.std.specs.Prelude.{ℕ, ◌+◌, ◌*◌, ◌<◌, ◌≡◌, ◌≢◌, Bool, true, false, cond, ◌&&◌, List, set, eqb}
use Rattle.std.proofs.Common.{sym, ap, ◌∙◌, ⊎_elim, ne_eqb, eq-or-lt_of_le, arith}
use Rattle.search.specs.Bools.{cases, never}
use Rattle.chains.specs.Chains.{number_of, label_of, linked_at, Blank, Linked}
use Rattle.chains.specs.Linking.{linked-start, linked-skip, linked-link, skip-number, skip-numbers, skip-labels, link-number, link-numbers, link-label, link-labels}

pub record Carrying (p : ℕ → Bool) (xs ys : ℕ → ℕ) (m i : ℕ) (l : List ℕ) : Type 0 where
  pub linked : Linked m i l
  pub numbers : (t : ℕ) → t < i → number_of l t ≡ cond (p t) (xs t) 0
  pub labels : (t : ℕ) → t < i → p t ≡ true → label_of l t ≡ ys t

pub carrying-start : (p : ℕ → Bool) (xs ys : ℕ → ℕ) {m : ℕ} {l : List ℕ} → Blank m l → Carrying p xs ys m 0 l
carrying-start p xs ys z =
    record { linked = linked-start z; numbers = λ t h. absurd (omega arith); labels = λ t h. absurd (omega arith) }

module _ (p : ℕ → Bool) (xs ys : ℕ → ℕ) {m i : ℕ} {l : List ℕ} (z : Carrying p xs ys m i l) where
  pub carrying-skip : i < m → p i ≡ false → Carrying p xs ys m (i + 1) (set l (4 * i + 2) 0)
  carrying-skip w f =
      record {
        linked = linked-skip m i l z.linked w;
        numbers = λ t a.
            ⊎_elim
            (λ (r : t ≡ i). rw (r, f) (skip-number m i l z.linked w))
            (λ (r : t < i). skip-numbers m i l z.linked w t r ∙ z.numbers t r)
            (eq-or-lt_of_le (omega arith));
        labels = λ t a k.
            ⊎_elim
            (λ (r : t ≡ i). never (p i) (ap p (sym r) ∙ k) f)
            (λ (r : t < i). skip-labels m i l z.linked w t r ∙ z.labels t r k)
            (eq-or-lt_of_le (omega arith));
      }

  pub carrying-link : {x y : ℕ} → i < m → p i ≡ true → x ≡ xs i → y ≡ ys i → x ≢ 0 → Carrying p xs ys m (i + 1) (linked_at m l i x y)
  carrying-link {x} {y} w k e f some =
      record {
        linked = linked-link m i l x y z.linked w some;
        numbers = λ t a.
            ⊎_elim
            (λ (r : t ≡ i). rw (r, k) (link-number m i l x y z.linked w ∙ e))
            (λ (r : t < i). link-numbers m i l x y z.linked w t r ∙ z.numbers t r)
            (eq-or-lt_of_le (omega arith));
        labels = λ t a q.
            ⊎_elim
            (λ (r : t ≡ i). rw r (link-label m i l x y z.linked w ∙ f))
            (λ (r : t < i). link-labels m i l x y z.linked w t r ∙ z.labels t r q)
            (eq-or-lt_of_le (omega arith));
      }

  -- a test of the words carried is that of what they are, since 0 is no number
  pub carried : (r : ℕ → ℕ → Bool) (x y t : ℕ) → x ≢ 0 → t < i → (eqb (number_of l t) x && r (label_of l t) y) ≡ (p t && (eqb (xs t) x && r (ys t) y))
  carried r x y t some a =
      ⊎_elim
      (λ (k : p t ≡ true). let e : number_of l t ≡ xs t = (rw k at (z.numbers t a)) in rw (e, z.labels t a k, k))
      (λ (f : p t ≡ false). let e : number_of l t ≡ 0 = (rw f at (z.numbers t a)) in rw (e, f, ne_eqb 0 x (λ d. some (sym d))))
      (cases (p t))
