-- A cut: how old an operation is whose changes it keeps, and what a slot that survives it shows.
use Rattle.std.specs.Prelude.{ℕ, ◌+◌, ◌≡◌}
use Rattle.image.specs.declared.name.Name.{Name}
use Rattle.crash.specs.Slots.{Value, Slot, State}
use Rattle.crash.specs.Steps.{Survives}

-- e is the latest epoch that a cut keeps
abbrev pub CutAt : ℕ → State → Type 0
CutAt e st = e + 2 ≡ st.clock

-- a slot that survives shows the job k with the value v
pub record CutShows (e : ℕ) (f : ℕ → Slot) (k : Name) (v : Value) : Type 0 where
  pub at : ℕ
  pub survives : Survives e f at
  pub name-is : (f at).persistent.name ≡ k
  pub value-is : (f at).persistent.value ≡ v
