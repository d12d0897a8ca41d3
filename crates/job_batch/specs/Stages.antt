-- Batch in the stages of its code: a change within an open operation, the changes of a list, with the sizes.
use Rattle.std.specs.Prelude.{ℕ, zero, suc, ◌+◌, ◌/◌, cond, List, length, eqb, Result, Ok, Err}
use Rattle.reply.specs.declared.Refusal.TheVariants.{BadArgument}
use Rattle.reply.specs.Refusals.{Check, by_check}
use Rattle.transient.specs.declared.sizes.Sizes.{Sizes}
use Rattle.transient.specs.Store.{Store, Table, table, Outcome}
use Rattle.transient.specs.Calls.{Changed, refused}
use Rattle.jobs.specs.Way.{way_in}
use Rattle.job_new.specs.Stages.{new_open}
use Rattle.job_set.specs.Stages.{set_opened}
use Rattle.job_delete.specs.Stages.{delete_open}
use Rattle.job_batch.specs.declared.Batch.{Batch}
use Rattle.job_batch.specs.declared.Kind.{Kind}
use Rattle.job_batch.specs.declared.Kind.TheVariants.{New, Set, Delete}
use Rattle.job_batch.specs.Batch.{change_at, kind_of, job_of, bad_list}
use Rattle.reply.specs.declared.Refusal.{Refusal}

-- what a batch answers and leaves of a table
pub record Batched : Type 0 where
  pub reply : Batch
  pub table : Table

abbrev pub batched : Batch → List ℕ → List ℕ → Batched
batched b wk tr = record { reply = b; table = table wk tr }

abbrev pub ended_at : ℕ → Check → Table → Batched
ended_at k reply tb = record { reply = record { accepted = k; ended = reply }; table = tb }

-- the same of a store, in the words of `changes_from`
abbrev pub ended : ℕ → Check → Store → Outcome Batch
ended k reply st = record { reply = record { accepted = k; ended = reply }; store = st }

-- in the words of `change_job`
abbrev pub by_kind : {A : Type 0} → ℕ → A → A → A → A → A
by_kind kind new set delete other = cond (eqb kind 1) new (cond (eqb kind 2) set (cond (eqb kind 3) delete other))

-- a word as a kind
abbrev pub kind_in : ℕ → Result Kind Refusal
kind_in x = by_kind x (Ok New) (Ok Set) (Ok Delete) (Err BadArgument)

-- a change of W + 1 words: a key of 0 is refused whatever its kind, and so is an unknown kind whatever its key
unfoldable pub change_open : Sizes → Table → ℕ → List ℕ → Changed
change_open z tb e c =
    cond (eqb (job_of c).key 0) (refused BadArgument tb)
    (by_kind (kind_of c) (new_open z tb (job_of c) e) (set_opened z tb (job_of c) e) (delete_open z tb (job_of c).key e) (refused BadArgument tb))

unfoldable pub changes_open : Sizes → ℕ → List ℕ → ℕ → ℕ → Table → Batched
changes_open z e list k zero tb = ended_at k (Ok tt) tb
changes_open z e list k (suc more) tb =
    let ch = change_open z tb e (change_at z list k) in
    by_check ch.reply (λ r. ended_at k (Err r) ch.table) (changes_open z e list (suc k) more ch.table)

abbrev pub by_list_way : Result ℕ Refusal → Table → (ℕ → Batched) → Batched
by_list_way (Ok e) tb next = next e
by_list_way (Err r) tb next = ended_at 0 (Err r) tb

unfoldable pub batch_sized : ℕ → List ℕ → Sizes → Table → Batched
batch_sized thread list z tb =
    by_list_way (way_in z tb.transient thread (bad_list z list)) tb (λ e. changes_open z e list 0 (length list / (z.w + 1)) tb)
