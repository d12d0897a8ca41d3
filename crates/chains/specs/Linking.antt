-- A slot more is linked or skipped: the laws of the memory.
use Rattle.std.specs.Prelude.{ℕ, ◌+◌, ◌*◌, ◌-◌, ◌<◌, ◌≡◌, ◌≢◌, List, length, get_or, set}
use Rattle.std.proofs.Common.{sym, ap, ◌∙◌, ⊎_elim, eq-or-lt_of_le, arith}
use Rattle.std.proofs.Math.ListN.{length-set}
use Rattle.std.proofs.Math.Seq.{get_or-set_same, get_or-set_other}
use Rattle.std.proofs.Math.Decide.{ℕ_discrete}
use Rattle.chains.specs.Chains.{spot, head_of, below_of, number_of, label_of, linked_at, Lent, Blank, Last, Linked}
use Rattle.chains.specs.Requires.{spot-low}

-- no slot is linked
pub linked-start : {m : ℕ} {l : List ℕ} → Blank m l → Linked m 0 l
linked-start {m} {l} z =
    record {
      lent = z.lent;
      low = omega arith;
      top = λ b h.
          record {
            low = omega (arith, z.empty b h);
            none = λ t a c d e. absurd (omega arith);
            linked = λ a. absurd (omega (arith, z.empty b h));
            at = λ a. absurd (omega (arith, z.empty b h));
          };
      next = λ s h. absurd (omega arith);
    }

-- what is linked below e is the same in memory with the same numbers there
last-same : {m b e k : ℕ} (l l' : List ℕ) → ((t : ℕ) → t < e → number_of l' t ≡ number_of l t) → Last m l b e k → Last m l' b e k
last-same {m} {b} {e} {k} l l' same z =
    record {
      low = z.low;
      none = λ t a h. rw (same t h) (z.none t a h);
      linked = λ a. rw (same (k - 1) (omega (arith, z.low))) (z.linked a);
      at = λ a. rw (same (k - 1) (omega (arith, z.low))) (z.at a);
    }

-- one slot more, which is not on the spot, or is
last-other : {m b i k : ℕ} (l : List ℕ) → (number_of l i ≢ 0 → spot m (number_of l i) ≢ b) → Last m l b i k → Last m l b (i + 1) k
last-other {m} {b} {i} {k} l u z =
    record {
      low = omega (arith, z.low);
      none = λ t a h. ⊎_elim (λ (r : t ≡ i). rw r u) (λ (r : t < i). z.none t a r) (eq-or-lt_of_le (omega arith));
      linked = z.linked;
      at = z.at;
    }

last-mine : {m b : ℕ} (i : ℕ) (l : List ℕ) → number_of l i ≢ 0 → spot m (number_of l i) ≡ b → Last m l b (i + 1) (i + 1)
last-mine {m} {b} i l p q =
    let e : i + 1 - 1 ≡ i = omega arith in
    record {
      low = omega arith;
      none = λ t a h. absurd (omega arith);
      linked = λ a. rw e p;
      at = λ a. rw e q;
    }

-- ---- a slot is skipped
module _ (m i : ℕ) (l : List ℕ) (z : Linked m i l) (h : i < m) where
  abbrev skipped : List ℕ
  skipped = set l (4 * i + 2) 0

  pub skip-number : number_of skipped i ≡ 0
  unfolding number_of
  skip-number = get_or-set_same l (4 * i + 2) 0 0 (omega (arith, z.lent.long))

  pub skip-numbers : (t : ℕ) → t < i → number_of skipped t ≡ number_of l t
  unfolding number_of
  skip-numbers t a = get_or-set_other l (4 * i + 2) (4 * t + 2) 0 0 (λ e. omega arith)

  pub skip-labels : (t : ℕ) → t < i → label_of skipped t ≡ label_of l t
  unfolding label_of
  skip-labels t a = get_or-set_other l (4 * i + 2) (4 * t + 3) 0 0 (λ e. omega arith)

  skip-head : (b : ℕ) → head_of skipped b ≡ head_of l b
  unfolding head_of
  skip-head b = get_or-set_other l (4 * i + 2) (4 * b) 0 0 (λ e. omega arith)

  skip_below : (s : ℕ) → below_of skipped s ≡ below_of l s
  unfolding below_of
  skip_below s = get_or-set_other l (4 * i + 2) (4 * s + 1) 0 0 (λ e. omega arith)

  pub linked-skip : Linked m (i + 1) skipped
  linked-skip =
      record {
        lent = record { some = z.lent.some; few = z.lent.few; long = length-set l (4 * i + 2) 0 ∙ z.lent.long };
        low = omega arith;
        top = λ b a. rw (skip-head b) (last-other skipped (λ p. absurd (p skip-number)) (last-same l skipped skip-numbers (z.top b a)));
        next = λ s a p.
            ⊎_elim
            (λ (r : s ≡ i). absurd (p (ap (number_of skipped) r ∙ skip-number)))
            (λ (r : s < i).
            let e = skip-numbers s r in
            let q : number_of l s ≢ 0 = λ d. p (e ∙ d) in
            rw (e, skip_below s) (last-same l skipped (λ t c. skip-numbers t (omega arith)) (z.next s r q)))
            (eq-or-lt_of_le (omega arith));
      }

-- ---- a slot is linked
module _ (m i : ℕ) (l : List ℕ) (x y : ℕ) (z : Linked m i l) (h : i < m) where
  abbrev one : List ℕ
  one = set l (4 * i + 1) (get_or l (4 * spot m x) 0)

  abbrev two : List ℕ
  two = set one (4 * i + 2) x

  abbrev three : List ℕ
  three = set two (4 * i + 3) y

  abbrev four : List ℕ
  four = set three (4 * spot m x) (i + 1)

  link-long : length four ≡ length l
  link-long =
      length-set three (4 * spot m x) (i + 1) ∙ length-set two (4 * i + 3) y ∙ length-set one (4 * i + 2) x ∙ length-set l (4 * i + 1) (get_or l (4 * spot m x) 0)

  -- a word that none of the four is
  link_apart : (j : ℕ) → j ≢ 4 * i + 1 → j ≢ 4 * i + 2 → j ≢ 4 * i + 3 → j ≢ 4 * spot m x → get_or four j 0 ≡ get_or l j 0
  link_apart j a b c d =
      get_or-set_other three (4 * spot m x) j (i + 1) 0 d
      ∙ get_or-set_other two (4 * i + 3) j y 0 c
      ∙ get_or-set_other one (4 * i + 2) j x 0 b
      ∙ get_or-set_other l (4 * i + 1) j (get_or l (4 * spot m x) 0) 0 a

  pub link-number : number_of (linked_at m l i x y) i ≡ x
  unfolding number_of linked_at
  link-number =
      get_or-set_other three (4 * spot m x) (4 * i + 2) (i + 1) 0 (λ e. omega arith)
      ∙ get_or-set_other two (4 * i + 3) (4 * i + 2) y 0 (λ e. omega arith)
      ∙ get_or-set_same one (4 * i + 2) x 0 (omega (arith, z.lent.long, length-set l (4 * i + 1) (get_or l (4 * spot m x) 0)))

  pub link-label : label_of (linked_at m l i x y) i ≡ y
  unfolding label_of linked_at
  link-label =
      get_or-set_other three (4 * spot m x) (4 * i + 3) (i + 1) 0 (λ e. omega arith)
      ∙ get_or-set_same two (4 * i + 3) y 0 (omega (arith, z.lent.long, length-set l (4 * i + 1) (get_or l (4 * spot m x) 0), length-set one (4 * i + 2) x))

  pub link-numbers : (t : ℕ) → t < i → number_of (linked_at m l i x y) t ≡ number_of l t
  unfolding number_of linked_at
  link-numbers t a = link_apart (4 * t + 2) (λ e. omega arith) (λ e. omega arith) (λ e. omega arith) (λ e. omega arith)

  pub link-labels : (t : ℕ) → t < i → label_of (linked_at m l i x y) t ≡ label_of l t
  unfolding label_of linked_at
  link-labels t a = link_apart (4 * t + 3) (λ e. omega arith) (λ e. omega arith) (λ e. omega arith) (λ e. omega arith)

  link-below : below_of (linked_at m l i x y) i ≡ head_of l (spot m x)
  unfolding below_of head_of linked_at
  link-below =
      get_or-set_other three (4 * spot m x) (4 * i + 1) (i + 1) 0 (λ e. omega arith)
      ∙ get_or-set_other two (4 * i + 3) (4 * i + 1) y 0 (λ e. omega arith)
      ∙ get_or-set_other one (4 * i + 2) (4 * i + 1) x 0 (λ e. omega arith)
      ∙ get_or-set_same l (4 * i + 1) (get_or l (4 * spot m x) 0) 0 (omega (arith, z.lent.long))

  link-belows : (t : ℕ) → t < i → below_of (linked_at m l i x y) t ≡ below_of l t
  unfolding below_of linked_at
  link-belows t a = link_apart (4 * t + 1) (λ e. omega arith) (λ e. omega arith) (λ e. omega arith) (λ e. omega arith)

  link-head : head_of (linked_at m l i x y) (spot m x) ≡ i + 1
  unfolding head_of linked_at
  link-head = get_or-set_same three (4 * spot m x) (i + 1) 0 (omega (arith, z.lent.long, spot-low m x z.lent.some, link-long, length-set three (4 * spot m x) (i + 1)))

  link-heads : (b : ℕ) → b ≢ spot m x → head_of (linked_at m l i x y) b ≡ head_of l b
  unfolding head_of linked_at
  link-heads b u = link_apart (4 * b) (λ e. omega arith) (λ e. omega arith) (λ e. omega arith) (λ e. u (omega arith))

  link-lent : Lent m (linked_at m l i x y)
  unfolding linked_at
  link-lent = record { some = z.lent.some; few = z.lent.few; long = link-long ∙ z.lent.long }

  pub linked-link : x ≢ 0 → Linked m (i + 1) (linked_at m l i x y)
  linked-link p =
      let l' = linked_at m l i x y in
      let mine : number_of l' i ≢ 0 = λ e. p (sym link-number ∙ e) in
      record {
        lent = link-lent;
        low = omega arith;
        top = λ b a. elim (ℕ_discrete b (spot m x)) [
          | yes u ↦ rw (u, link-head) (last-mine i l' mine (ap (spot m) link-number))
          | no u ↦ rw (link-heads b u)
              (last-other l' (λ q e. u (sym e ∙ ap (spot m) link-number)) (last-same l l' link-numbers (z.top b a)))
        ];
        next = λ s a q.
            ⊎_elim
            (λ (r : s ≡ i).
            rw (r, link-below, link-number)
            (last-same l l' link-numbers (z.top (spot m x) (spot-low m x z.lent.some))))
            (λ (r : s < i).
            let e = link-numbers s r in
            let d : number_of l s ≢ 0 = λ f. q (e ∙ f) in
            rw (e, link-belows s r) (last-same l l' (λ t c. link-numbers t (omega arith)) (z.next s r d)))
            (eq-or-lt_of_le (omega arith));
      }
