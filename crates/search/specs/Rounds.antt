-- A search that goes on by rounds: to the end of the round, or to n.
use Rattle.std.specs.Prelude.{ℕ, ◌-◌, ◌≤◌, ◌<◌, ◌≡◌, min}
use Rattle.std.proofs.Common.{arith}

-- from s, which is below both, it goes on
pub record Onward (a n s to : ℕ) : Type 0 where
  pub past : s < to
  pub top : to ≤ n
  pub few : to ≤ a

pub onward : {a n s to : ℕ} → s < a → s < n → to ≡ min a n → Onward a n s to
onward h k e = record { past = omega arith; top = omega arith; few = omega arith }

pub onward-less : {a n s to : ℕ} → Onward a n s to → n - to < n - s
onward-less y = omega (arith, y.past, y.top)
