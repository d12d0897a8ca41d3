-- A step cut as its code is cut: what the functions inside answer.
use Rattle.std.specs.Prelude.{ℕ, ◌-◌, cond, ◌&&◌, List, leb, eqb, Option, None}
use Rattle.search.specs.First.{first_of, where_found}
use Rattle.transient.specs.declared.sizes.Sizes.{Sizes}
use Rattle.transient.specs.Layout.{is_waiting}
use Rattle.transient.specs.Store.{Store, Table, table_of}
use Rattle.step.specs.declared.Place.{Place}
use Rattle.step.specs.Step.{Stepped, reclaim_next, contents_next, due, reclaimed, flush_from}
use Rattle.step.specs.Requires.{slot_in}

-- the first slot that is due, and the first that waits, from a slot on
unfoldable pub due_from : Sizes → Table → ℕ → ℕ → Option ℕ
due_from z tb c p = first_of (λ s. leb p s && due z tb c s) z.n

-- .. that is due from a place on: none where contents are next
unfoldable pub due_next : Sizes → Table → ℕ → Place → Option ℕ
due_next z tb c p = cond (eqb p.phase contents_next) None (due_from z tb c (slot_in p reclaim_next))

unfoldable pub waiting_from : Sizes → List ℕ → ℕ → ℕ → Option ℕ
waiting_from z tr c p = first_of (λ s. leb p s && is_waiting tr (c - 1) s) z.n

-- a slot that is due becomes free; where none is, the next line is flushed
unfoldable pub reclaim_or_flush : Sizes → Store → ℕ → Place → Stepped
reclaim_or_flush z st c p = where_found (due_next z (table_of st) c p) (reclaimed z st) (flush_from z st c (slot_in p contents_next))
