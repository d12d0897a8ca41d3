-- Tests of a header, as facts about an entry with it.
use Rattle.std.specs.Prelude.{ℕ, ◌+◌, ◌≤◌, ◌≡◌, true, false, List}
use Rattle.std.proofs.Common.{ap, ⊎_elim, leb-true, le-leb, arith}
use Rattle.search.specs.Bools.{cases, and_left, and_right, and_both}
use Rattle.image.specs.declared.header.Header.{Header}
use Rattle.image.specs.Layout.{most_number, queue_board, is_blank, has_zero, is_filled, is_payload}
use Rattle.image.specs.Whole.{whole_says, filled-says, says-filled, payload-says, says-payload, blank-says}
use Rattle.survival.specs.Survivors.{kept}
use Rattle.acceptance.specs.Accept.{in_range, proper}
use Rattle.acceptance.specs.Sound.{filled-proper}
use Rattle.crash.specs.Slots.{Proper, Worded}
use Rattle.crash.specs.Steps.{Kept}
use Rattle.crash.proofs.OneSlot.{proper-whole}
use Rattle.guarantee.specs.View.{entry_of}

-- ---- payload, filled
pub payload-of : (h : Header) → is_payload h ≡ true → (1 ≤ h.kind) × (h.kind ≤ 2)
payload-of h e = let p = payload-says h e in (p.whole.kind-lo, p.kind-hi)

module _ {c : ℕ} (h : Header) (line : List ℕ) (p : Proper c (entry_of h line)) (k : 1 ≤ h.kind) where
  pub proper-filled : is_filled h ≡ true
  proper-filled = says-filled h (record { whole = proper-whole p k; kind-hi = p.kind-hi })

  pub proper-payload : h.kind ≤ 2 → is_payload h ≡ true
  proper-payload t = says-payload h (record { whole = (filled-says h proper-filled).whole; kind-hi = t })

-- ---- kept
pub kept-says : (c e : ℕ) (h : Header) (line : List ℕ) → e + 2 ≡ c → kept c h ≡ true → Kept e (entry_of h line)
unfolding kept
kept-says c e h line q k =
    let full = is_filled h in
    record {
      whole = (filled-says h (and_left full _ k)).whole;
      old = omega (arith, leb-true (h.epoch + 2) c (and_right full _ k));
    }

pub says-kept : (c e : ℕ) (h : Header) (line : List ℕ) → e + 2 ≡ c → h.kind ≤ 3 → Kept e (entry_of h line) → kept c h ≡ true
unfolding kept
says-kept c e h line q t k =
    and_both (says-filled h (record { whole = k.whole; kind-hi = t })) (le-leb (h.epoch + 2) c (omega (arith, k.old)))

-- ---- proper
-- words within their bounds: one is 0, or condition 3 has nothing to say
pub worded-proper : (c : ℕ) (h : Header) (line : List ℕ) → Worded c (entry_of h line) → proper c h ≡ true
unfolding proper in_range
worded-proper c h line p =
    ⊎_elim
    (λ (z : has_zero h ≡ true). rw z)
    (λ (z : has_zero h ≡ false).
    rw (
      z,
      le-leb h.kind 3 p.kind-hi,
      le-leb 2 h.epoch (p.epoch-lo (whole_says h z).epoch-lo),
      le-leb h.epoch c p.epoch-hi,
      le-leb h.uid most_number p.uid-hi,
      le-leb h.board queue_board p.board-hi,
    ))
    (cases (has_zero h))

-- four zeros
pub blank-proper : (c : ℕ) (h : Header) (line : List ℕ) → is_blank h ≡ true → Proper c (entry_of h line)
blank-proper c h line b =
    let e = blank-says h b in
    let k : h.kind ≡ 0 = ap (λ (x : Header). x.kind) e in
    let f : h.epoch ≡ 0 = ap (λ (x : Header). x.epoch) e in
    let u : h.uid ≡ 0 = ap (λ (x : Header). x.uid) e in
    let d : h.board ≡ 0 = ap (λ (x : Header). x.board) e in
    record {
      kind-hi = omega arith;
      free-epoch = λ _. f;
      free-uid = λ _. u;
      free-board = λ _. d;
      epoch-lo = λ q. absurd (omega arith);
      epoch-hi = omega arith;
      uid-lo = λ q. absurd (omega arith);
      uid-hi = omega arith;
      board-lo = λ q. absurd (omega arith);
      board-hi = omega arith;
    }

-- filled, and condition 3 has nothing to say
pub filled-says-proper : (c : ℕ) (h : Header) (line : List ℕ) → is_filled h ≡ true → proper c h ≡ true → Proper c (entry_of h line)
filled-says-proper c h line f p =
    let o = filled-proper c h f p in
    let w = (filled-says h f).whole in
    record {
      kind-hi = o.kind-hi;
      free-epoch = λ q. absurd (omega (arith, w.kind-lo));
      free-uid = λ q. absurd (omega (arith, w.kind-lo));
      free-board = λ q. absurd (omega (arith, w.kind-lo));
      epoch-lo = λ _. o.epoch-lo;
      epoch-hi = o.epoch-hi;
      uid-lo = λ _. w.uid-lo;
      uid-hi = o.uid-hi;
      board-lo = λ _. w.board-lo;
      board-hi = o.board-hi;
    }
