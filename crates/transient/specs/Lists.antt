-- The waiting lists: where their words stand, and what a slot's waiting depends on.
use Rattle.std.specs.Prelude.{◌≡◌, ℕ, ◌+◌, ◌%◌, ◌<◌, ◌≤◌, ◌≢◌, List, slice_index}
use Rattle.std.proofs.Common.{arith}
use Rattle.image.specs.Layout.{most_slots}
use Rattle.transient.specs.Layout.{lists_at, head_words, waiting_at, is_waiting}

-- ---- their words
-- they stand at the end of the head
pub word_low : (e s : ℕ) → lists_at ≤ waiting_at e s
word_low e s = omega arith

pub word-high : (e s : ℕ) → s < most_slots → waiting_at e s < head_words
word-high e s h = omega arith

-- two slots that share a word have two bits of it
pub bits-apart : (d m e s : ℕ) → m < most_slots → s < most_slots → m ≢ s → waiting_at d m ≡ waiting_at e s → m % 32 ≢ s % 32
bits-apart d m e s h k o q r = o (omega arith)

-- ---- whether a slot waits
pub word_same : (tr tr' : List ℕ) (e m : ℕ) → slice_index tr' (waiting_at e m) ≡ slice_index tr (waiting_at e m) → is_waiting tr' e m ≡ is_waiting tr e m
unfolding is_waiting
word_same tr tr' e m q = rw q

-- a list is that of every second epoch
pub waiting-again : (tr : List ℕ) (e m : ℕ) → is_waiting tr (e + 2) m ≡ is_waiting tr e m
unfolding is_waiting
waiting-again tr e m = let q : (e + 2) % 2 ≡ e % 2 = omega arith in rw q
