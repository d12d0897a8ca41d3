-- The words of a line on their way into a place of their number: how far they are, and that all have gone at the end.
use Rattle.std.specs.Prelude.{ℕ, ◌+◌, ◌-◌, ◌≤◌, ◌<◌, ◌≡◌, refl, List, [], ◌++◌, length, get_or, set, take, drop}
use Rattle.std.proofs.Common.{sym, ap, ◌∙◌, append-nil, length-set, length-drop, take-append-drop, length-take-le, take_all, take_at, drop-drop, arith}
use Rattle.std.proofs.Math.Seq.{drop-length, paste}
use Rattle.image.specs.Laws.{stored-whole, paste-stored}
use Rattle.image.specs.Storing.{Storing, storing-start, storing-end, front-next}

-- ---- what the functions inside answer
-- the four words from j on
abbrev pub four_moved : List ℕ → List ℕ → ℕ → List ℕ
four_moved dst src j =
    set (set (set (set dst j (get_or src j 0)) (j + 1) (get_or src (j + 1) 0)) (j + 2) (get_or src (j + 2) 0)) (j + 3) (get_or src (j + 3) 0)

-- the first j words have gone
abbrev pub Moving : List ℕ → List ℕ → ℕ → List ℕ → Type 0
Moving dst₀ src j dst = Storing dst₀ 0 src (length dst₀) j dst

-- .. and fewer than four are left
pub record FoursMoved (dst₀ src : List ℕ) (j : ℕ) (dst : List ℕ) : Type 0 where
  pub moving : Moving dst₀ src j dst
  pub left : length dst < j + 4

-- ---- how they go on
moving-start : (dst src : List ℕ) → Moving dst src 0 dst
moving-start dst src = storing-start dst 0 src (length dst)

moving-next : {dst₀ src : List ℕ} {j : ℕ} {dst : List ℕ} {v : ℕ} → Moving dst₀ src j dst → j < length dst → v ≡ get_or src j 0 → Moving dst₀ src (j + 1) (set dst j v)
moving-next z h e = front-next z (omega (arith, z.long)) e

moving-four : {dst₀ src : List ℕ} {j : ℕ} {dst : List ℕ} → Moving dst₀ src j dst → j + 4 ≤ length dst → Moving dst₀ src (j + 4) (four_moved dst src j)
moving-four {dst₀} {src} {j} z h =
    let two : j + 1 + 1 ≡ j + 2 = omega arith in
    let three : j + 2 + 1 ≡ j + 3 = omega arith in
    let four : j + 3 + 1 ≡ j + 4 = omega arith in
    let a = moving-next z (omega arith) refl in
    let b = rw two at (moving-next a (omega (arith, a.long, z.long)) refl) in
    let c = rw three at (moving-next b (omega (arith, b.long, z.long)) refl) in
    rw four at (moving-next c (omega (arith, c.long, z.long)) refl)

module _ (l : List ℕ) (j : ℕ) (h : j + 4 ≤ length l) where
  pub second-in : (a : ℕ) → j + 1 < length (set l j a)
  second-in a = omega (arith, length-set l j a)

  pub third-in : (a b : ℕ) → j + 2 < length (set (set l j a) (j + 1) b)
  third-in a b = omega (arith, length-set (set l j a) (j + 1) b, length-set l j a)

  pub fourth-in : (a b c : ℕ) → j + 3 < length (set (set (set l j a) (j + 1) b) (j + 2) c)
  fourth-in a b c = omega (arith, length-set (set (set l j a) (j + 1) b) (j + 2) c, length-set (set l j a) (j + 1) b, length-set l j a)

-- as many fours as there are
module _ (dst src : List ℕ) (e : length src ≡ length dst) where
  pub fours-none : length dst < 4 → FoursMoved dst src 0 dst
  fours-none h = record { moving = moving-start dst src; left = h }

  module _ {d : List ℕ} (one : 4 ≤ length dst) (first : d ≡ four_moved dst src 0) where
    fours-first : Moving dst src 4 d
    fours-first = rw first (moving-four (moving-start dst src) one)

    pub fours-one : length d < 8 → FoursMoved dst src 4 d
    fours-one h = record { moving = fours-first; left = h }

    pub fours-two : {x : List ℕ} → 8 ≤ length d → x ≡ four_moved d src 4 → length dst < 12 → FoursMoved dst src 8 x
    fours-two {x} h second top =
        let z : Moving dst src 8 x = rw second (moving-four fours-first h) in
        record { moving = z; left = omega (arith, z.long) }

moving-end : {dst₀ src : List ℕ} {j : ℕ} {dst : List ℕ} → Moving dst₀ src j dst → length src ≡ length dst₀ → length dst ≤ j → dst ≡ src
moving-end {dst₀} {src} z e h = storing-end z (omega (arith, z.long)) ∙ stored-whole dst₀ src e

-- up to three words
module _ (dst src : List ℕ) (e : length src ≡ length dst) where
  pub few-none : length dst < 1 → dst ≡ src
  few-none h = moving-end (moving-start dst src) e (omega arith)

  module _ {a : ℕ} (first : a ≡ get_or src 0 0) (one : 1 ≤ length dst) where
    few-first : Moving dst src 1 (set dst 0 a)
    few-first = moving-next (moving-start dst src) one first

    pub few-one : length (set dst 0 a) < 2 → set dst 0 a ≡ src
    few-one h = moving-end few-first e (omega arith)

    module _ {b : ℕ} (second : b ≡ get_or src 1 0) (two : 2 ≤ length (set dst 0 a)) where
      few-second : Moving dst src 2 (set (set dst 0 a) 1 b)
      few-second = moving-next few-first two second

      pub few-two : length (set (set dst 0 a) 1 b) < 3 → set (set dst 0 a) 1 b ≡ src
      few-two h = moving-end few-second e (omega arith)

      pub few-three : {c : ℕ} → c ≡ get_or src 2 0 → 3 ≤ length (set (set dst 0 a) 1 b) → length dst < 4 → set (set (set dst 0 a) 1 b) 2 c ≡ src
      few-three third three h = let z = moving-next few-second three third in moving-end z e (omega (arith, z.long))

-- ---- the whole line: the fours, then the rest from part to part
pub line-moved : {dst₀ src : List ℕ} {j : ℕ} {dst y : List ℕ} → FoursMoved dst₀ src j dst → length src ≡ length dst₀ → y ≡ take (length src - j) (drop j src)
    → take j dst ++ (y ++ drop (length dst - j) (drop j dst)) ≡ src
line-moved {dst₀} {src} {j} {dst} {y} fours e part =
    let z = fours.moving in
    let low : j ≤ length src = omega (arith, z.low) in
    let so_far : dst ≡ paste dst₀ 0 src j = z.so_far ∙ sym (paste-stored dst₀ 0 src j (omega (arith, z.low)) low) in
    let front : take j dst ≡ take j src = ap (take j) so_far ∙ take_at (take j src) (drop (0 + j) dst₀) j (length-take-le j src low) in
    let end : j + (length dst - j) ≡ length dst = omega (arith, z.low, z.long) in
    let none : drop (length dst - j) (drop j dst) ≡ [] = drop-drop (length dst - j) j dst ∙ ap (λ k. drop k dst) end ∙ drop-length dst in
    let rest : y ≡ drop j src = part ∙ take_all (length src - j) (drop j src) (simp length-drop (omega arith)) in
    rw (front, none, rest, append-nil (drop j src)) (take-append-drop j src)

pub ruleset movings = (second-in, third-in, fourth-in, fours-none, fours-one, fours-two, few-none, few-one, few-two, few-three, line-moved)
