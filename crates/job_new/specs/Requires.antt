-- What functions inside new require: a value with a uid to give.
use Rattle.std.specs.Prelude.{ℕ, ◌≤◌, ◌≡◌, List, Option, Some}
use Rattle.std.proofs.Common.{arith}
use Rattle.image.specs.Layout.{most_number}
use Rattle.transient.specs.declared.sizes.Sizes.{Sizes}
use Rattle.transient.specs.Layout.{note, next_uid_at}
use Rattle.transient.specs.Store.{table}
use Rattle.transient.specs.Requires.{Entered}
use Rattle.table.specs.Find.{room}
use Rattle.jobs.specs.Requires.{Valued, Placed, room-reached}

pub record Ready (wk tr : List ℕ) (z : Sizes) (value : List ℕ) : Type 0 where
  pub valued : Valued wk tr z value
  pub uid-top : note next_uid_at tr ≤ most_number

-- ---- how they are made
pub ready_of : {wk tr value : List ℕ} {z : Sizes} {u : ℕ} → Valued wk tr z value → u ≡ note next_uid_at tr → u ≤ most_number → Ready wk tr z value
ready_of y e h = record { valued = y; uid-top = omega (arith, e) }

pub ready-entered : {wk tr value : List ℕ} {z : Sizes} → Ready wk tr z value → Entered wk tr z
ready-entered y = y.valued.entered

pub ready-placed : {wk tr value : List ℕ} {z : Sizes} {s : ℕ} {g : Option ℕ} (k : ℕ) → Ready wk tr z value → g ≡ room z (table wk tr) k → g ≡ Some s → Placed wk tr z s value
ready-placed k y c a = record { held = record { reached = room-reached k c a y.valued.entered; words = y.valued.words }; uid-top = y.uid-top }
