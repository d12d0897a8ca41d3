-- Loops that store words, one after another: the law that each needs.
use Rattle.std.specs.Prelude.{ℕ, ◌+◌, ◌≤◌, ◌<◌, ◌≡◌, refl, List, length, get_or, set, replicate}
use Rattle.std.proofs.Common.{sym, ap, ◌∙◌, length-set, arith, add-one}
use Rattle.std.proofs.lemmas.List.{length-replicate, get_or-replicate}
use Rattle.image.specs.Line.{stored}
use Rattle.image.specs.Laws.{stored-whole}

-- a loop has stored j of k words
pub record Storing (dst₀ : List ℕ) (b : ℕ) (src : List ℕ) (k j : ℕ) (dst : List ℕ) : Type 0 where
  pub low : j ≤ k
  pub so_far : dst ≡ stored dst₀ b src j
  pub long : length dst ≡ length dst₀

pub storing-start : (dst : List ℕ) (b : ℕ) (src : List ℕ) (k : ℕ) → Storing dst b src k 0 dst
unfolding stored
storing-start dst b src k = record { low = omega arith; so_far = refl; long = refl }

pub storing-next : {dst₀ : List ℕ} {b : ℕ} {src : List ℕ} {k j : ℕ} {dst : List ℕ} {v : ℕ} → Storing dst₀ b src k j dst → j < k → v ≡ get_or src j 0
    → Storing dst₀ b src k (j + 1) (set dst (b + j) v)
unfolding stored
storing-next {dst₀} {b} {src} {k} {j} {dst} {v} z h e =
    record { low = omega arith; so_far = rw (add-one j, e, z.so_far); long = length-set dst (b + j) v ∙ z.long }

pub storing-end : {dst₀ : List ℕ} {b : ℕ} {src : List ℕ} {k j : ℕ} {dst : List ℕ} → Storing dst₀ b src k j dst → k ≤ j → dst ≡ stored dst₀ b src k
storing-end {dst₀} {b} {src} {k} {j} z h = let e : j ≡ k = omega arith in z.so_far ∙ ap (stored dst₀ b src) e

-- ---- stored from the front
pub front-next : {dst₀ src : List ℕ} {k j : ℕ} {dst : List ℕ} {v : ℕ} → Storing dst₀ 0 src k j dst → j < k → v ≡ get_or src j 0
    → Storing dst₀ 0 src k (j + 1) (set dst j v)
front-next {dst₀} {src} {k} {j} {dst} {v} z h e =
    let i : 0 + j ≡ j = omega arith in rw i at (storing-next z h e)

-- ---- a loop has cleared j words
abbrev pub Clearing : List ℕ → ℕ → List ℕ → Type 0
Clearing l₀ j l = Storing l₀ 0 (replicate (length l₀) 0) (length l₀) j l

pub clearing-start : (l : List ℕ) → Clearing l 0 l
clearing-start l = storing-start l 0 (replicate (length l) 0) (length l)

pub clearing-next : {l₀ : List ℕ} {j : ℕ} {l : List ℕ} → Clearing l₀ j l → j < length l → Clearing l₀ (j + 1) (set l j 0)
clearing-next {l₀} {j} {l} z h =
    let u : j < length l₀ = omega (arith, z.long) in
    front-next z u (sym (get_or-replicate (length l₀) j 0 0 u))

pub clearing-end : {l₀ : List ℕ} {j : ℕ} {l : List ℕ} → Clearing l₀ j l → length l ≤ j → l ≡ replicate (length l₀) 0
clearing-end {l₀} z h =
    storing-end z (omega (arith, z.long)) ∙ stored-whole l₀ (replicate (length l₀) 0) (length-replicate (length l₀) 0)

pub ruleset storings = (storing-start, storing-next, storing-end, front-next, clearing-start, clearing-next, clearing-end)
