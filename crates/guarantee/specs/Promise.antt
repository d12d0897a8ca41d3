-- What demand 3 promises of a cut: where a run may start, what the jobs of an image are, and what recovery gives.
use Rattle.std.specs.Prelude.{ℕ, ◌+◌, ◌-◌, ◌≤◌, ◌<◌, ◌≡◌, true, ◌≢◌, Ok, None, Some}
use mathlib.Core.List.{List, Memᴰ}
use Rattle.search.specs.First.{first_of, where_found}
use Rattle.image.specs.Layout.{slots_of, width_of, clock_of, value_at}
use Rattle.image.specs.declared.name.Name.{Name}
use Rattle.image.specs.Name.{name_at}
use Rattle.transient.specs.Store.{Store}
use Rattle.survival.specs.Survivors.{survivor}
use Rattle.acceptance.specs.Accept.{survives_as}
use Rattle.format.specs.Format.{format}
use Rattle.recovery.specs.declared.Recovery.TheVariants.{Done}
use Rattle.recovery.specs.Recover.{recover}
use Rattle.recovery.specs.Recovering.{AnyWords, call, Completes, Reached}
use Rattle.crash.specs.Reference.{Jobs, jobs_at, Fifo}
use Rattle.guarantee.specs.Trace.{Plain}

-- ---- the jobs of an image, and the entries of its queue: its survivors, by name
unfoldable pub jobs_of : List ℕ → Jobs
jobs_of l k = where_found (first_of (survives_as l (slots_of l) (width_of l) k) (slots_of l)) (λ s. Some (value_at l (slots_of l) (width_of l) s)) None

-- "just these: the same keys, each once, the same value words"
pub record Holds (l : List ℕ) (jobs : Jobs) : Type 0 where
  pub same : (k : Name) → jobs_of l k ≡ jobs k
  pub once : (s t : ℕ) → s < slots_of l → t < slots_of l → s ≢ t → survivor l (slots_of l) s ≡ true → survivor l (slots_of l) t ≡ true
      → name_at l (slots_of l) (width_of l) s ≢ name_at l (slots_of l) (width_of l) t

-- ---- "what fresh left, or the recover that replied done"
pub data Started : Store → Type 0 where
  fresh : (st : Store) (slots words : ℕ) → (format st slots words).reply ≡ Ok tt → Started (format st slots words).store
  recovered : (st : Store) → (recover st).reply ≡ Ok Done → Started (recover st).store

-- ---- a cut that leaves the image l, of a run that began with these jobs, with the plain board p beside it
pub record Promise (start : Jobs) (l : List ℕ) (p : Plain) : Type 0 where
  -- "Let c be word 2 of lasting at the cut; it equals the plain board's clock there."
  pub clock : clock_of l ≡ p.clock
  -- whatever recovery has come to, at most N calls have replied "went on"; no call declines, and if cuts cease one replies "done" before
  -- these are more than N
  pub at_most : {k : ℕ} {a : List ℕ} → Reached l k a → k ≤ slots_of l
  pub completes : {k : ℕ} {a : List ℕ} → Reached l k a → Completes (slots_of l - k) a
  -- "An operation is present if its epoch is at most c − 2": the starting jobs changed by the row's entries of present operations
  -- "Both images' survivors at done are just these"
  pub persistent : {k : ℕ} {a : List ℕ} → Reached l k a → (any : AnyWords a) → (call a any).reply ≡ Ok Done
      → Holds (call a any).store.persistent (jobs_at (p.clock - 2) start p.row)
  pub working : {k : ℕ} {a : List ℕ} → Reached l k a → (any : AnyWords a) → (call a any).reply ≡ Ok Done
      → Holds (call a any).store.working (jobs_at (p.clock - 2) start p.row)
  -- 02, No. 3, first in, first out: each take of a present operation took away the smallest entry of the queue of present
  -- operations at its turn
  pub fifo : Fifo (p.clock - 2) start p.row
  -- an operation that ended before a sync that reported done is present
  pub durable : (e : ℕ) → Memᴰ e p.durable → e + 2 ≤ p.clock
