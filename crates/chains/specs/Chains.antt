-- Slots chained by their numbers, from the highest down. A walk for a number goes along the chain of its spot, and meets all slots
-- of that number and few others. `l` is the memory that is lent for it: four words for each of m spots and slots.
use Rattle.std.specs.Prelude.{ℕ, ◌+◌, ◌*◌, ◌-◌, ◌/◌, ◌%◌, ◌≤◌, ◌<◌, ◌≡◌, ◌≢◌, Bool, ◌&&◌, List, length, get_or, set, ltb, eqb}
use Rattle.image.specs.Layout.{most_slots}

-- where the chain of a number starts
unfoldable pub spot : ℕ → ℕ → ℕ
spot m x = (((x + x / 8192) * 2654435769) % 4294967296 * m) / 4294967296

-- ---- the four words
unfoldable pub head_of : List ℕ → ℕ → ℕ
head_of l b = get_or l (4 * b) 0

unfoldable pub below_of : List ℕ → ℕ → ℕ
below_of l s = get_or l (4 * s + 1) 0

unfoldable pub number_of : List ℕ → ℕ → ℕ
number_of l s = get_or l (4 * s + 2) 0

unfoldable pub label_of : List ℕ → ℕ → ℕ
label_of l s = get_or l (4 * s + 3) 0

-- slot s becomes the head of the chain of x
unfoldable pub linked_at : ℕ → List ℕ → ℕ → ℕ → ℕ → List ℕ
linked_at m l s x y = set (set (set (set l (4 * s + 1) (get_or l (4 * spot m x) 0)) (4 * s + 2) x) (4 * s + 3) y) (4 * spot m x) (s + 1)

-- a slot of that number and label; of that number and a larger label; and a smaller one
unfoldable pub pair_in : List ℕ → ℕ → ℕ → ℕ → Bool
pair_in l x y t = eqb (number_of l t) x && eqb (label_of l t) y

unfoldable pub newer_in : List ℕ → ℕ → ℕ → ℕ → Bool
newer_in l x y t = eqb (number_of l t) x && ltb y (label_of l t)

unfoldable pub older_in : List ℕ → ℕ → ℕ → ℕ → Bool
older_in l x y t = eqb (number_of l t) x && ltb (label_of l t) y

-- the memory, and with every chain empty
pub record Lent (m : ℕ) (l : List ℕ) : Type 0 where
  pub some : 0 < m
  pub few : m ≤ most_slots
  pub long : length l ≡ 4 * m

pub record Blank (m : ℕ) (l : List ℕ) : Type 0 where
  pub lent : Lent m l
  pub empty : (b : ℕ) → b < m → head_of l b ≡ 0

-- k is the highest place below e on spot b, and 0 if there is none
pub record Last (m : ℕ) (l : List ℕ) (b e k : ℕ) : Type 0 where
  pub low : k ≤ e
  pub none : (t : ℕ) → k ≤ t → t < e → number_of l t ≢ 0 → spot m (number_of l t) ≢ b
  pub linked : 0 < k → number_of l (k - 1) ≢ 0
  pub at : 0 < k → spot m (number_of l (k - 1)) ≡ b

-- i slots are linked or skipped: each spot has the highest of them, each slot the next one below
pub record Linked (m i : ℕ) (l : List ℕ) : Type 0 where
  pub lent : Lent m l
  pub low : i ≤ m
  pub top : (b : ℕ) → b < m → Last m l b i (head_of l b)
  pub next : (s : ℕ) → s < i → number_of l s ≢ 0 → Last m l (spot m (number_of l s)) s (below_of l s)

-- k is the highest place of the number x below e, and 0 if there is none
pub record Kin (l : List ℕ) (x e k : ℕ) : Type 0 where
  pub low : k ≤ e
  pub none : (t : ℕ) → k ≤ t → t < e → number_of l t ≢ x
  pub at : 0 < k → number_of l (k - 1) ≡ x
