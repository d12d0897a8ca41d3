-- What functions inside require: uids and order numbers in range, and what refusals 1 and 2 of recover leave.
use Rattle.std.specs.Prelude.{ℕ, ◌≤◌, ◌<◌, ◌≡◌, Bool, true, cond, not, List, length, Option, Some, None, Result, Err}
use Rattle.search.specs.First.{where_found}
use Rattle.reply.specs.declared.Refusal.TheVariants.{BadSizes}
use Rattle.reply.specs.Refusals.{Check, refuse}
use Rattle.image.specs.Layout.{most_number, queue_board, header, key_at}
use Rattle.image.specs.Requires.{Sized}
use Rattle.transient.specs.declared.sizes.Sizes.{Sizes}
use Rattle.transient.specs.Layout.{threads_of, threads_ok, blank}
use Rattle.transient.specs.Store.{Store, store, Outcome, after_check}
use Rattle.index.specs.Index.{rebuilt}
use Rattle.survival.specs.Survivors.{survivor, survives_on}
use Rattle.survival.specs.Requires.{AllMarked}
use Rattle.acceptance.specs.Requires.{head_check, slots_check}
use Rattle.recovery.specs.Recover.{anti_at, next_freed, next_uid, next_order, lengths_fit, recovered_notes, freeing}
use Rattle.recovery.specs.declared.Numbers.{Numbers}
use Rattle.recovery.specs.declared.Recovery.{Recovery}
use Rattle.reply.specs.declared.Refusal.{Refusal}

abbrev pub uid_of : List ℕ → ℕ → ℕ
uid_of l s = (header l s).uid

-- refusals 1 and 2, before the slots are judged
unfoldable pub recover_entry_check : ℕ → List ℕ → ℕ → Check
recover_entry_check working l transient = refuse (not (lengths_fit working l transient)) BadSizes (head_check l)

-- the first kept DELETE up to slot s, after the first below it
unfoldable pub anti_up_to : List ℕ → ℕ → Option ℕ → Option ℕ
anti_up_to l s first = where_found first Some (cond (anti_at l s) (Some s) None)

-- a survivor has its uid in range, one of the queue its order number
pub record Numbered (l : List ℕ) (n w : ℕ) (flags : List Bool) : Type 0 where
  pub marked : AllMarked l n w flags
  pub uids : (s : ℕ) → s < n → survivor l n s ≡ true → uid_of l s ≤ most_number
  pub orders : (s : ℕ) → s < n → survives_on l n queue_board s ≡ true → key_at l n w s ≤ most_number

abbrev pub numbers : ℕ → ℕ → Numbers
numbers uid order = record { uid = uid; order = order }

abbrev pub numbers_of : List ℕ → ℕ → ℕ → Numbers
numbers_of l n w = numbers (next_uid l n) (next_order l n w)

-- ---- notes to set beside an image
pub record Noting (l t : List ℕ) (n w : ℕ) : Type 0 where
  pub sized : Sized l n w
  pub notes : threads_ok (length t) n ≡ true

-- the sizes of such
abbrev pub sizes_in : ℕ → ℕ → ℕ → Sizes
sizes_in transient n w = record { n = n; w = w; t = threads_of transient n }

-- in the words of `recovered_notes`, with these numbers
unfoldable pub notes_over : List ℕ → ℕ → ℕ → ℕ → Numbers → List ℕ
notes_over l transient n w next = rebuilt (sizes_in transient n w) l (blank transient n next.uid next.order) n

-- ---- the last call
pub record Finishing (wk l t : List ℕ) (flags : List Bool) (n w : ℕ) : Type 0 where
  pub numbers : Numbered l n w flags
  pub same : length wk ≡ length l
  pub notes : threads_ok (length t) n ≡ true

-- what it leaves, in the words of `freeing`
unfoldable pub finished : List ℕ → ℕ → ℕ → ℕ → Store
finished l transient n w = store l l (recovered_notes l transient n w)

-- ---- past refusals 1 and 2
pub record Judged (wk l t : List ℕ) (n w : ℕ) : Type 0 where
  pub sized : Sized l n w
  pub same : length wk ≡ length l
  pub notes : threads_ok (length t) n ≡ true

-- what is left of a call then
unfoldable pub recover_sized : Store → ℕ → ℕ → Outcome (Result Recovery Refusal)
recover_sized st n w = after_check (slots_check st.persistent n w) Err st (freeing (next_freed st.persistent n) st n w)
