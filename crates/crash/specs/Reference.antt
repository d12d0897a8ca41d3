-- The reference map (01: "the plain board"): what the jobs would be if every change were kept, read at a threshold epoch.
-- 01: "An accepted new, set or delete adds its kind, key, value and operation to the row." "The starting jobs .. are changed by the
-- row's entries of present operations, in order: new and set give the key the value, delete takes it away."
use Rattle.std.specs.Prelude.{ℕ, ◌≤◌, ◌≡◌, ◌≢◌, List, [], ◌∷◌, ◌++◌, cond, leb, Option, None}
use Rattle.image.specs.Layout.{queue_board}
use Rattle.image.specs.declared.name.Name.{Name}
use Rattle.image.specs.Name.{entry_name, same_name}

-- one entry of the row: `epoch` is its operation's; "new and set give the key the value, delete takes it away"
pub record Change : Type 0 where
  pub epoch : ℕ
  pub name : Name
  pub value : Option (List ℕ)

-- jobs by name
abbrev pub Jobs : Type 0
Jobs = Name → Option (List ℕ)

-- the starting jobs changed by the entries of operations whose epoch is at most e, in order
unfoldable pub jobs_at : ℕ → Jobs → List Change → Jobs
jobs_at e jobs [] = jobs
jobs_at e jobs (ch ∷ row) = jobs_at e (cond (leb ch.epoch e) (λ k. cond (same_name k ch.name) ch.value (jobs k)) jobs) row

-- ---- the queue
-- 02, No. 3: "the front is the live entry with the smallest" order number
pub record Front (jobs : Jobs) (order : ℕ) : Type 0 where
  pub there : jobs (entry_name order) ≢ None
  pub smallest : (k : ℕ) → jobs (entry_name k) ≢ None → order ≤ k

-- first in, first out, at a threshold epoch: each take of an operation of an epoch up to e took away the front of what the row
-- before it gives
abbrev pub Fifo : ℕ → Jobs → List Change → Type 0
Fifo e start row =
    (before after : List Change) (ch : Change) → row ≡ before ++ (ch ∷ after) → ch.name.board ≡ queue_board → ch.value ≡ None → ch.epoch ≤ e
    → Front (jobs_at e start before) ch.name.key
