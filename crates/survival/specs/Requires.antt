-- What contracts inside are about: what is asked of a header; an image's headers, and the survivors' flags beside it.
use Rattle.std.specs.Prelude.{ℕ, ◌+◌, ◌*◌, ◌≤◌, ◌<◌, ◌≡◌, Bool, false, not, ◌&&◌, List, length, get_or, eqb}
use Rattle.std.proofs.Common.{arith}
use Rattle.search.specs.Some.{any_of}
use Rattle.image.specs.declared.header.Header.{Header}
use Rattle.image.specs.Layout.{most_slots, header_words, is_payload}
use Rattle.image.specs.Requires.{Sized, Slot, HeaderFits, slot}
use Rattle.survival.specs.Survivors.{kept, beats, survivor}

-- an image's headers, and one of them
pub record Headers (l : List ℕ) (n : ℕ) : Type 0 where
  pub slots-hi : n ≤ most_slots
  pub long : 3 + header_words * n ≤ length l

pub record HeaderOf (l : List ℕ) (n s : ℕ) : Type 0 where
  pub headers : Headers l n
  pub within : s < n

-- a kept slot of the table that none beats, and one that is a payload
unfoldable pub wins : ℕ → (ℕ → Header) → ℕ → ℕ → Bool
wins c hs n s = kept c (hs s) && not (any_of (λ t. beats c (hs s) (hs t)) n)

unfoldable pub survives : ℕ → (ℕ → Header) → ℕ → ℕ → Bool
survives c hs n s = is_payload (hs s) && wins c hs n s

unfoldable pub kept_anti : ℕ → Header → Bool
kept_anti c h = kept c h && eqb h.kind 3

-- ---- flags: slot s's flag says whether it passes
pub record Flagged (flags : List Bool) (p : ℕ → Bool) (n : ℕ) : Type 0 where
  pub long : length flags ≡ 1024
  pub same : (s : ℕ) → s < n → get_or flags s false ≡ p s

-- an image beside its survivors' flags: its headers, the whole of it, a slot of it
pub record Marked (l : List ℕ) (n : ℕ) (flags : List Bool) : Type 0 where
  pub headers : Headers l n
  pub flagged : Flagged flags (survivor l n) n

pub record AllMarked (l : List ℕ) (n w : ℕ) (flags : List Bool) : Type 0 where
  pub sized : Sized l n w
  pub flagged : Flagged flags (survivor l n) n

pub record SlotMarked (l : List ℕ) (n w s : ℕ) (flags : List Bool) : Type 0 where
  pub slot : Slot l n w s
  pub flagged : Flagged flags (survivor l n) n

pub record FlagAt (l : List ℕ) (n s : ℕ) (flags : List Bool) : Type 0 where
  pub marked : Marked l n flags
  pub within : s < n

-- ---- how they are made
pub headers-of : {l : List ℕ} {n w : ℕ} → Sized l n w → Headers l n
headers-of z = record { slots-hi = z.sizes.slots-hi; long = omega arith }

pub header-in : {l : List ℕ} {n s : ℕ} → Headers l n → s < n → HeaderFits l n s
header-in z h = record { within = h; slots-hi = z.slots-hi; long = z.long }

pub headers-header_of : {l : List ℕ} {n s : ℕ} → Headers l n → s < n → HeaderOf l n s
headers-header_of z h = record { headers = z; within = h }

pub sized-marked : {l : List ℕ} {n w : ℕ} {flags : List Bool} → Sized l n w → Marked l n flags → AllMarked l n w flags
sized-marked z m = record { sized = z; flagged = m.flagged }

pub all-headers : {l : List ℕ} {n w : ℕ} {flags : List Bool} → AllMarked l n w flags → Headers l n
all-headers z = headers-of z.sized

pub all-marked : {l : List ℕ} {n w : ℕ} {flags : List Bool} → AllMarked l n w flags → Marked l n flags
all-marked z = record { headers = headers-of z.sized; flagged = z.flagged }

pub slot-marked : {l : List ℕ} {n w s : ℕ} {flags : List Bool} → AllMarked l n w flags → s < n → SlotMarked l n w s flags
slot-marked z h = record { slot = slot z.sized h; flagged = z.flagged }

pub flag_at : {l : List ℕ} {n s : ℕ} {flags : List Bool} → Marked l n flags → s < n → FlagAt l n s flags
flag_at z h = record { marked = z; within = h }

pub flag-header : {l : List ℕ} {n s : ℕ} {flags : List Bool} → FlagAt l n s flags → HeaderFits l n s
flag-header z = header-in z.marked.headers z.within

pub flag-of : {l : List ℕ} {n s : ℕ} {flags : List Bool} → FlagAt l n s flags → HeaderOf l n s
flag-of z = record { headers = z.marked.headers; within = z.within }

pub ruleset marks = (headers-of, header-in, headers-header_of, sized-marked, all-headers, slot-marked)
