-- What functions require of the memory that holds the chains, and how it is made.
use Rattle.std.specs.Prelude.{ℕ, ◌+◌, ◌*◌, ◌-◌, ◌/◌, ◌%◌, ◌≤◌, ◌<◌, ◌≡◌, ◌≢◌, List, replicate}
use Rattle.std.proofs.lemmas.List.{length-replicate, get_or-replicate}
use Rattle.std.proofs.Common.{mod-lt, mul-lt-mul_of_pos_right, div-lt_iff_lt-mul, arith}
use Rattle.image.specs.Layout.{most_slots}
use Rattle.chains.specs.Chains.{spot, head_of, number_of, Lent, Blank, Linked, Kin}

pub record Spots (m : ℕ) : Type 0 where
  pub some : 0 < m
  pub few : m ≤ most_slots

-- one slot of it
pub record At (m s : ℕ) (l : List ℕ) : Type 0 where
  pub lent : Lent m l
  pub within : s < m

-- a number looked for among the slots linked so far
pub record AllLinked (m i x : ℕ) (l : List ℕ) : Type 0 where
  pub linked : Linked m i l
  pub some : x ≢ 0

-- .. from its highest place on
pub record FromKin (m i k x : ℕ) (l : List ℕ) : Type 0 where
  pub all : AllLinked m i x l
  pub kin : Kin l x i k

-- .. from a place of its chain on
pub record OnChain (m i k x : ℕ) (l : List ℕ) : Type 0 where
  pub all : AllLinked m i x l
  pub low : k ≤ i
  pub linked : 0 < k → number_of l (k - 1) ≢ 0
  pub at : 0 < k → spot m (number_of l (k - 1)) ≡ spot m x

-- .. from a place of the number on
pub record OnKin (m i k x : ℕ) (l : List ℕ) : Type 0 where
  pub all : AllLinked m i x l
  pub low : k ≤ i
  pub here : 0 < k
  pub at : number_of l (k - 1) ≡ x

-- ---- how they are made
pub spot-low : (m x : ℕ) → 0 < m → spot m x < m
unfolding spot
spot-low m x h =
    let f = (x + x / 8192) * 2654435769 in
    let z : f % 4294967296 < 4294967296 = mod-lt f (omega arith) in
    let y : f % 4294967296 * m < 4294967296 * m = mul-lt-mul_of_pos_right z h in
    (div-lt_iff_lt-mul {k = 4294967296} {x = f % 4294967296 * m} {y = m} (omega arith)).1 (omega arith)

pub from-kin : {m i k x : ℕ} {l : List ℕ} → AllLinked m i x l → Kin l x i k → FromKin m i k x l
from-kin z e = record { all = z; kin = e }

pub spots-of : {m : ℕ} {l : List ℕ} → Lent m l → Spots m
spots-of z = record { some = z.some; few = z.few }

pub spots-at : {m s : ℕ} {l : List ℕ} → At m s l → Spots m
spots-at z = spots-of z.lent

pub blank-new : (m : ℕ) → 0 < m → m ≤ most_slots → Blank m (replicate (4 * m) 0)
unfolding head_of
blank-new m some few =
    record {
      lent = record { some = some; few = few; long = length-replicate {A = ℕ} (4 * m) 0 };
      empty = λ b h. get_or-replicate (4 * m) (4 * b) 0 0 (omega arith);
    }
