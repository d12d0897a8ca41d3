-- The ways out of the questions which operations are open.
use Rattle.std.specs.Prelude.{ℕ, ◌+◌, ◌≡◌, Bool, not, List, eqb}
use Rattle.search.specs.First.{sought-start, sought-next}
use Rattle.search.specs.Some.{any_of, some-hit, some_end}
use Rattle.transient.specs.Layout.{open_epoch}
use Rattle.transient.specs.Requires.{thread-of}
use Rattle.advance.specs.Stages.{open_below, any_open, is_open, is_open_below}

module _ (tr : List ℕ) where
  pub open_at : (thread : ℕ) {e : ℕ} → e ≡ open_epoch tr thread → not (eqb e 0) ≡ is_open tr thread
  unfolding is_open
  open_at thread x = rw x

  pub below_at : (c thread : ℕ) {e a b : ℕ} → e ≡ open_epoch tr thread → a ≡ e → b ≡ c → eqb (a + 1) b ≡ is_open_below tr c thread
  unfolding is_open_below
  below_at c thread x p q = rw (p, q, x)

  pub open_is : (t : ℕ) {r : Bool} → r ≡ any_of (is_open tr) t → r ≡ any_open tr t
  unfolding any_open is_open
  open_is t e = e

  pub below-is : (t c : ℕ) {r : Bool} → r ≡ any_of (is_open_below tr c) t → r ≡ open_below tr t c
  unfolding open_below is_open_below
  below-is t c e = e

pub ruleset laws = (sought-start, sought-next, some-hit, some_end, thread-of, open_at, below_at, open_is, below-is)
