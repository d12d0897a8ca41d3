-- What contracts inside are about: a walk up the table from one entry to the next that stands in front of it.
use Rattle.std.specs.Prelude.{ℕ, ◌≤◌, Bool, ◌||◌, List, Option, Some, None}
use Rattle.search.specs.First.{where_found}
use Rattle.search.specs.From.{first_from}
use Rattle.search.specs.Least.{nearer}
use Rattle.image.specs.Layout.{key_at}
use Rattle.transient.specs.declared.sizes.Sizes.{Sizes}
use Rattle.transient.specs.Store.{Table}
use Rattle.transient.specs.Requires.{Shaped}
use Rattle.queue.specs.declared.Best.{Best}
use Rattle.queue.specs.Front.{entry_newer_at, entry_at}

unfoldable pub nearer_at : Sizes → Table → Option Best → ℕ → Bool
nearer_at z tb best s = nearer (λ (b : Best). b.order) (entry_at z tb) (key_at tb.working z.n z.w) best s

unfoldable pub stops_at : Sizes → Table → ℕ → Option Best → ℕ → Bool
stops_at z tb e best s = entry_newer_at tb.working e s || nearer_at z tb best s

abbrev pub next_stop : Sizes → Table → ℕ → Option Best → ℕ → Option ℕ
next_stop z tb e best from = first_from (stops_at z tb e best) z.n from

abbrev pub slot_of : Option Best → Option ℕ
slot_of best = where_found best (λ (b : Best). Some b.slot) None

abbrev pub best_at : Sizes → List ℕ → ℕ → Best
best_at z wk s = record { slot = s; order = key_at wk z.n z.w s }

-- a walk from a slot on
pub record Walks (wk tr : List ℕ) (z : Sizes) (from : ℕ) : Type 0 where
  pub shaped : Shaped wk tr z
  pub top : from ≤ z.n
