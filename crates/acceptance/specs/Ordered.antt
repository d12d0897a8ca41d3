-- A header of four nonzero words, all in range: one test, and the laws of its function.
use Rattle.std.specs.Prelude.{◌≡◌, ℕ, ◌+◌, ◌-◌, ◌%◌, ◌^◌, ◌<◌, ◌≤◌, Bool, true, false, not, ◌&&◌, leb, nat_le}
use Rattle.std.proofs.Common.{sym, ◌∙◌, ⊎_elim, le-leb, leb-true, leb-false, arith}
use Rattle.std.proofs.lemmas.Bool.{lt-leb, not-true}
use Rattle.search.specs.Bools.{cases, never, refuted, same_test, and_left, and_right, and_both}
use Rattle.image.specs.declared.header.Header.{Header}
use Rattle.image.specs.Layout.{most_number, queue_board, has_zero}
use Rattle.image.specs.Whole.{Whole, whole_says, says-whole}
use Rattle.acceptance.specs.Accept.{in_range}

-- a header of four nonzero words, all in range
unfoldable pub ordered : ℕ → Header → Bool
ordered c h = not (has_zero h) && in_range c h

-- ---- a header in order
pub within-is : (x low most : ℕ) {d : ℕ} → low ≤ most → most < 2 ^ 32 → d < 2 ^ 32 → (d + low) % 2 ^ 32 ≡ x → nat_le d (most - low) ≡ (nat_le low x && nat_le x most)
within-is x low most {d} h t f e =
    ⊎_elim
    (λ (y : leb d (most - low) ≡ true).
    let k = leb-true d (most - low) y in
    rw (y, le-leb low x (omega arith), le-leb x most (omega arith)))
    (λ (n : leb d (most - low) ≡ false).
    let k = leb-false d (most - low) n in
    ⊎_elim
    (λ (u : leb low x ≡ true). let v = leb-true low x u in rw (n, u, lt-leb x most (omega arith)))
    (λ (u : leb low x ≡ false). rw (n, u))
    (cases (nat_le low x)))
    (cases (nat_le d (most - low)))

-- what the words of one are
record Ordered (c : ℕ) (h : Header) : Type 0 where
  whole : Whole h
  kind-hi : h.kind ≤ 3
  epoch-lo : 2 ≤ h.epoch
  epoch-hi : h.epoch ≤ c
  uid-hi : h.uid ≤ most_number
  board-hi : h.board ≤ queue_board

ordered-says : (c : ℕ) (h : Header) → ordered c h ≡ true → Ordered c h
unfolding ordered in_range
ordered-says c h e =
    let n = not (has_zero h) in
    let k = leb h.kind 3 in
    let a = leb 2 h.epoch in
    let b = leb h.epoch c in
    let u = leb h.uid most_number in
    let e0 = and_right n _ e in
    let e1 = and_right k _ e0 in
    let e2 = and_right a _ e1 in
    let e3 = and_right b _ e2 in
    record {
      whole = whole_says h (not-true (has_zero h) (and_left n _ e));
      kind-hi = leb-true h.kind 3 (and_left k _ e0);
      epoch-lo = leb-true 2 h.epoch (and_left a _ e1);
      epoch-hi = leb-true h.epoch c (and_left b _ e2);
      uid-hi = leb-true h.uid most_number (and_left u _ e3);
      board-hi = leb-true h.board queue_board (and_right u _ e3);
    }

says-ordered : (c : ℕ) (h : Header) → Ordered c h → ordered c h ≡ true
unfolding ordered in_range
says-ordered c h o =
    rw (
      says-whole h o.whole,
      le-leb h.kind 3 o.kind-hi,
      le-leb 2 h.epoch o.epoch-lo,
      le-leb h.epoch c o.epoch-hi,
      le-leb h.uid most_number o.uid-hi,
      le-leb h.board queue_board o.board-hi,
    )

-- one word that is out of range
module _ (c : ℕ) (h : Header) {k : Bool} (ke : k ≡ (nat_le 1 h.kind && nat_le h.kind 3)) where
  pub order-kind : k ≡ false → false ≡ ordered c h
  order-kind f =
      sym (refuted (ordered c h) (λ t. let o = ordered-says c h t in
      never k (ke ∙ and_both (le-leb 1 h.kind o.whole.kind-lo) (le-leb h.kind 3 o.kind-hi)) f))

  module _ {b : Bool} (kt : k ≡ true) (be : b ≡ (nat_le 1 h.board && nat_le h.board 2)) where
    pub order-board : b ≡ false → false ≡ ordered c h
    order-board f =
        sym (refuted (ordered c h) (λ t. let o = ordered-says c h t in
        never b (be ∙ and_both (le-leb 1 h.board o.whole.board-lo) (le-leb h.board 2 o.board-hi)) f))

    module _ {u : Bool} (bt : b ≡ true) (ue : u ≡ (nat_le 1 h.uid && nat_le h.uid most_number)) where
      pub order-uid : u ≡ false → false ≡ ordered c h
      order-uid f =
          sym (refuted (ordered c h) (λ t. let o = ordered-says c h t in
          never u (ue ∙ and_both (le-leb 1 h.uid o.whole.uid-lo) (le-leb h.uid most_number o.uid-hi)) f))

      module _ (ut : u ≡ true) where
        pub order-early : h.epoch < 2 → false ≡ ordered c h
        order-early a = sym (refuted (ordered c h) (λ t. omega (arith, (ordered-says c h t).epoch-lo)))

        pub order-late : 2 ≤ h.epoch → nat_le h.epoch c ≡ ordered c h
        order-late a =
            same_test (nat_le h.epoch c) (ordered c h)
            (λ t.
            let kb = sym ke ∙ kt in
            let bb = sym be ∙ bt in
            let ub = sym ue ∙ ut in
            let k1 = leb-true 1 h.kind (and_left (nat_le 1 h.kind) _ kb) in
            let b1 = leb-true 1 h.board (and_left (nat_le 1 h.board) _ bb) in
            let u1 = leb-true 1 h.uid (and_left (nat_le 1 h.uid) _ ub) in
            says-ordered c h (record {
              whole = record { kind-lo = k1; epoch-lo = omega arith; uid-lo = u1; board-lo = b1 };
              kind-hi = leb-true h.kind 3 (and_right (nat_le 1 h.kind) _ kb);
              epoch-lo = a;
              epoch-hi = leb-true h.epoch c t;
              uid-hi = leb-true h.uid most_number (and_right (nat_le 1 h.uid) _ ub);
              board-hi = leb-true h.board 2 (and_right (nat_le 1 h.board) _ bb);
            }))
            (λ t. le-leb h.epoch c (ordered-says c h t).epoch-hi)

pub ruleset orders = (within-is, order-kind, order-board, order-uid, order-early, order-late)
