-- A refused begin or end changes nothing, and neither stores into the persistent image.
use Rattle.std.specs.Prelude.{ℕ}
use Rattle.transient.specs.declared.sizes.Sizes.{Sizes}
use Rattle.transient.specs.Store.{Store, Table}
use Rattle.jobs.specs.Keeps.{Keeps, KeepsInside, shapes, call-keeps}
use Rattle.begin_end.specs.Operation.{begin, end}
use Rattle.begin_end.specs.Stages.{begin_sized, end_sized}

begun-keeps : (thread : ℕ) (z : Sizes) (tb : Table) → KeepsInside tb (begin_sized thread z tb)
unfolding begin_sized
begun-keeps thread z tb = search shapes

ended-keeps : (thread : ℕ) (z : Sizes) (tb : Table) → KeepsInside tb (end_sized thread z tb)
unfolding end_sized
ended-keeps thread z tb = search shapes

module _ (st : Store) (thread : ℕ) where
  pub begin-keeps : Keeps st (begin st thread)
  unfolding begin begin_sized
  begin-keeps = call-keeps st (begin_sized thread) (begun-keeps thread)

  pub end-keeps : Keeps st (end st thread)
  unfolding end end_sized
  end-keeps = call-keeps st (end_sized thread) (ended-keeps thread)
