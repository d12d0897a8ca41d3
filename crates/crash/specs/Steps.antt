-- The changes of state: seven by calls, four by advance, two lines written back. Each record has what is known when it is made.
use Rattle.std.specs.Prelude.{ℕ, suc, ◌+◌, ◌≤◌, ◌<◌, ◌≡◌, ◌≢◌, ◌⊎◌, ◌↔◌, [], ◌∷◌, ◌++◌, Option, None, Some}
use Rattle.image.specs.Layout.{most_number, jobs_board, queue_board}
use Rattle.image.specs.declared.name.Name.{Name}
use Rattle.image.specs.Name.{name_of, Named}
use Rattle.image.specs.Whole.{Whole}
use Rattle.crash.specs.Table.{Put, Put2, Pairwise}
use Rattle.crash.specs.Slots.{Value, Entry, Slot, Place, State, Filled, Payload, Proper, head_of, SameHead, SameLine, Shows, Swept, Flushed}

abbrev pub entry : ℕ → ℕ → ℕ → Name → Value → Entry
entry k e u n v = record { kind = k; epoch = e; uid = u; name = n; value = v }

-- the header h with the contents x
abbrev pub headed : Entry → Entry → Entry
headed h x = entry h.kind h.epoch h.uid (name_of h.name.board x.name.key) x.value

abbrev pub freed : Entry → Entry
freed x = entry 0 0 0 (name_of 0 x.name.key) x.value

-- ---- slots after a change
-- the working entry is x, not retired, with the two waiting words
abbrev pub filled : Entry → ℕ → ℕ → Slot → Slot
filled x now before a = record { working = x; persistent = a.persistent; retired = 0; now = now; before = before }

abbrev pub retiring : ℕ → Slot → Slot
retiring e a = record { working = a.working; persistent = a.persistent; retired = e; now = a.now; before = a.before }

-- the working entry is x, the retirement stays
abbrev pub rewritten : Entry → ℕ → ℕ → Slot → Slot
rewritten x now before a = record { working = x; persistent = a.persistent; retired = a.retired; now = now; before = before }

-- free in both images
abbrev pub reclaimed : Slot → Slot
reclaimed a = record { working = freed a.working; persistent = freed a.persistent; retired = 0; now = a.now; before = a.before }

abbrev pub stored : Entry → Slot → Slot
stored x a = record { working = a.working; persistent = x; retired = a.retired; now = a.now; before = a.before }

-- the lists move on: that of the old clock is now the one below the clock, that of the new clock is empty
abbrev pub ticked : Slot → Slot
ticked a = record { working = a.working; persistent = a.persistent; retired = a.retired; now = 0; before = a.now }

-- ---- states after a change
-- a change by an operation of epoch e
abbrev pub after : State → (ℕ → Slot) → ℕ → ℕ → ℕ → Name → Option Value → State
after st g uid order e k v =
    record {
      slots = g;
      clock = st.clock;
      uid = uid;
      order = order;
      place = st.place;
      start = st.start;
      row = st.row ++ (record { epoch = e; name = k; value = v } ∷ []);
    }

-- a change that the reference map does not see
abbrev pub moved : State → (ℕ → Slot) → Place → State
moved st g p = record { slots = g; clock = st.clock; uid = st.uid; order = st.order; place = p; start = st.start; row = st.row }

abbrev pub at_rest : Place
at_rest = record { looked = 0; flushed = 0; half = 0 }

-- ---- what every change by a call knows
-- an operation of epoch e: that of the clock, or the one below while no write-back is underway (K2)
pub record Operation (e : ℕ) (st : State) : Type 0 where
  pub epoch-least : 2 ≤ e
  pub epoch-lo : st.clock ≤ e + 1
  pub epoch-hi : e ≤ st.clock
  pub quiet-flushed : e + 1 ≡ st.clock → st.place.flushed ≡ 0
  pub quiet-half : e + 1 ≡ st.clock → st.place.half ≡ 0

-- the slot joins the waiting list of e, and leaves none
pub record Joins (c e now before : ℕ) (a : Slot) : Type 0 where
  pub now-kept : a.now ≤ now
  pub before-kept : a.before ≤ before
  pub joins-now : e ≡ c → 1 ≤ now
  pub joins-before : e + 1 ≡ c → 1 ≤ before

-- ---- the seven changes by calls
-- a new ALLOC in slot s; `order` is the next order number after it
pub record New (e s order : ℕ) (k : Name) (v : Value) (now before : ℕ) (st : State) (g : ℕ → Slot) : Type 0 where
  pub operation : Operation e st
  pub joins : Joins st.clock e now before (st.slots s)
  pub free : (st.slots s).working.kind ≡ 0
  pub named : Named k
  pub board-lo : jobs_board ≤ k.board
  pub board-hi : k.board ≤ queue_board
  pub orders : st.order ≤ order
  pub order_below : k.board ≡ queue_board → k.key < order
  pub uid-hi : st.uid ≤ most_number
  pub no-live : (m : ℕ) → Payload (st.slots m).working → (st.slots m).working.name ≡ k → 1 ≤ (st.slots m).retired
  pub no-later : (m : ℕ) → Filled (st.slots m).working → (st.slots m).working.name ≡ k → (st.slots m).working.epoch ≤ e
  pub put : Put st.slots g s (filled (entry 1 e st.uid k v) now before (st.slots s))

-- the slot r holds the live version of its job
pub record Current (e r : ℕ) (st : State) : Type 0 where
  pub operation : Operation e st
  pub payload : Payload (st.slots r).working
  pub current : (st.slots r).retired ≡ 0

-- r holds the live entry of the queue with the smallest order number, and no entry is of an epoch after e
pub record Foremost (e r : ℕ) (st : State) : Type 0 where
  pub of : Current e r st
  pub board-is : (st.slots r).working.name.board ≡ queue_board
  pub newest : (m : ℕ) → Filled (st.slots m).working → (st.slots m).working.name.board ≡ queue_board → (st.slots m).working.epoch ≤ e
  pub smallest : (m : ℕ) → Payload (st.slots m).working → (st.slots m).retired ≡ 0 → (st.slots m).working.name.board ≡ queue_board
      → (st.slots r).working.name.key ≤ (st.slots m).working.name.key

-- a set by a new UPDATE, or a delete by a new DELETE, in slot s, of the older version in r
-- v is the value in the slot, u what the row has
pub data Successor : ℕ → Value → Option Value → Type 0 where
  updates : (v : Value) → Successor 2 v (Some v)
  removes : (v : Value) → Successor 3 v None

pub record Over (kind e s r : ℕ) (v : Value) (u : Option Value) (now before : ℕ) (st : State) (g : ℕ → Slot) : Type 0 where
  pub outcome : Successor kind v u
  pub of : Current e r st
  pub joins : Joins st.clock e now before (st.slots s)
  pub free : (st.slots s).working.kind ≡ 0
  pub older : (st.slots r).working.epoch < e
  pub put : Put2 st.slots g s (filled (entry kind e (st.slots r).working.uid (st.slots r).working.name v) now before (st.slots s)) r (retiring e (st.slots r))

-- a change in the version's own slot and epoch: it is set, it turns into a DELETE, or (an ALLOC) it is freed
abbrev pub revalued : Value → Entry → Entry
revalued v x = entry x.kind x.epoch x.uid x.name v

abbrev pub turned : Entry → Entry
turned x = entry 3 x.epoch x.uid x.name x.value

pub record InPlace (x : Entry) (e r : ℕ) (now before : ℕ) (st : State) (g : ℕ → Slot) : Type 0 where
  pub of : Current e r st
  pub joins : Joins st.clock e now before (st.slots r)
  pub epoch-is : (st.slots r).working.epoch ≡ e
  pub put : Put st.slots g r (rewritten x now before (st.slots r))

pub record Unmake (e r : ℕ) (now before : ℕ) (st : State) (g : ℕ → Slot) : Type 0 where
  pub change : InPlace (freed (st.slots r).working) e r now before st g
  pub alloc : (st.slots r).working.kind ≡ 1

-- a set of the value that the live version has, without a slot for it: the row alone has one entry more
pub record Resave (e r : ℕ) (st : State) : Type 0 where
  pub of : Current e r st
  pub begun : (st.slots r).working.epoch ≤ e

-- ---- the four by advance
-- a payload retired in c - 2, or a DELETE of c - 3, becomes free in both images
pub record Reclaim (s : ℕ) (st : State) (g : ℕ → Slot) : Type 0 where
  pub due : ((1 ≤ (st.slots s).retired) × ((st.slots s).retired + 2 ≡ st.clock)) ⊎ (((st.slots s).working.kind ≡ 3) × ((st.slots s).working.epoch + 3 ≡ st.clock))
  pub put : Put st.slots g s (reclaimed (st.slots s))

-- a line of slot s stored into the persistent image, as working holds it
pub record Head (s : ℕ) (st : State) (g : ℕ → Slot) : Type 0 where
  pub put : Put st.slots g s (stored (headed (st.slots s).working (st.slots s).persistent) (st.slots s))

pub record Line (s : ℕ) (st : State) (g : ℕ → Slot) : Type 0 where
  pub put : Put st.slots g s (stored (headed (st.slots s).persistent (st.slots s).working) (st.slots s))

-- the clock goes on, from where all is reclaimed and written back
pub record Tick (st : State) (g : ℕ → Slot) : Type 0 where
  pub swept : (s : ℕ) → Swept st.clock (st.slots s)
  pub flushed : (s : ℕ) → Flushed st.clock (st.slots s)
  pub all : (s : ℕ) → g s ≡ ticked (st.slots s)

abbrev pub ticked_state : State → (ℕ → Slot) → State
ticked_state st g = record { slots = g; clock = suc st.clock; uid = st.uid; order = st.order; place = at_rest; start = st.start; row = st.row }

-- ---- the place moves on
-- past slots where nothing is to be reclaimed
pub record Looks (to : ℕ) (st : State) : Type 0 where
  pub swept : (s : ℕ) → st.place.looked ≤ s → s < to → Swept st.clock (st.slots s)

-- past slots that do not wait
pub record Passes (to : ℕ) (st : State) : Type 0 where
  pub quiet : (s : ℕ) → st.place.flushed ≤ s → s < to → (st.slots s).before ≡ 0

-- ---- a start: what format or a finished recovery leaves
-- free, or a payload that stands in both images and is old enough
pub record Settled (c u o : ℕ) (a : Slot) : Type 0 where
  pub same_head : SameHead a.persistent a.working
  pub same_line : SameLine a.persistent a.working
  pub proper : Proper c a.working
  pub payload : a.working.kind ≤ 2
  pub old : a.working.epoch + 2 ≤ c
  pub uid-below : a.working.uid < u
  pub order_below : Filled a.working → a.working.name.board ≡ queue_board → a.working.name.key < o
  pub named : Filled a.working → Named a.working.name
  pub not-retired : a.retired ≡ 0

-- two filled slots have two uids and two names
pub record Apart (a b : Slot) : Type 0 where
  pub uids : Filled a.working → Filled b.working → a.working.uid ≢ b.working.uid
  pub names : Filled a.working → Filled b.working → a.working.name ≢ b.working.name

pub record Start (st : State) : Type 0 where
  pub clock-lo : 2 ≤ st.clock
  pub uid-lo : 1 ≤ st.uid
  pub settled : (s : ℕ) → Settled st.clock st.uid st.order (st.slots s)
  pub apart : Pairwise Apart st.slots
  pub rest : st.place ≡ at_rest
  pub empty : st.row ≡ []
  pub jobs : (k : Name) (v : Value) → Shows st.slots st.clock k v ↔ (st.start k ≡ Some v)

-- ---- a cut: what recovery makes of the persistent entries, e being the clock less 2
pub record Kept (e : ℕ) (x : Entry) : Type 0 where
  pub whole : Whole (head_of x)
  pub old : x.epoch ≤ e

-- "Of kept slots with one uid the largest label wins; a winner of kind 1 or 2 survives."
pub record Survives (e : ℕ) (f : ℕ → Slot) (s : ℕ) : Type 0 where
  pub kept : Kept e (f s).persistent
  pub payload : (f s).persistent.kind ≤ 2
  pub wins : (m : ℕ) → Kept e (f m).persistent → (f m).persistent.uid ≡ (f s).persistent.uid → (f m).persistent.epoch ≤ (f s).persistent.epoch
