-- A slot as the crash invariant sees it, and the invariant (docs/ARCHITECTURE.md: the lines I0 to K1).
use Rattle.std.specs.Prelude.{ℕ, ◌+◌, ◌≤◌, ◌<◌, ◌≡◌, ◌≢◌, ◌⊎◌, ◌↔◌, Some}
use mathlib.Core.List.{List, Memᴰ}
use Rattle.image.specs.declared.header.Header.{Header}
use Rattle.image.specs.Layout.{most_number, jobs_board, queue_board, header_of}
use Rattle.image.specs.declared.name.Name.{Name}
use Rattle.image.specs.Name.{Named}
use Rattle.crash.specs.Table.{Pairwise, Every, Any}
use Rattle.crash.specs.Reference.{Jobs, Change, jobs_at}

-- a job's value: its words
abbrev pub Value : Type 0
Value = List ℕ

-- a header and its contents
pub record Entry : Type 0 where
  pub kind : ℕ
  pub epoch : ℕ
  pub uid : ℕ
  pub name : Name
  pub value : Value

-- both sides of a slot, the epoch it was retired in (0: not), and 1 or 0 for waiting in the list of the clock and of one below it
pub record Slot : Type 0 where
  pub working : Entry
  pub persistent : Entry
  pub retired : ℕ
  pub now : ℕ
  pub before : ℕ

-- how far an advance has come: the slots below `looked` are reclaimed, those below `flushed` written back; `half` is 1 where the
-- contents of slot `flushed` are too
pub record Place : Type 0 where
  pub looked : ℕ
  pub flushed : ℕ
  pub half : ℕ

pub record State : Type 0 where
  pub slots : ℕ → Slot
  pub clock : ℕ
  pub uid : ℕ
  pub order : ℕ
  pub place : Place
  pub start : Jobs
  pub row : List Change

-- ---- of an entry
-- its header
abbrev pub head_of : Entry → Header
head_of x = header_of x.kind x.epoch x.uid x.name.board

abbrev pub Filled : Entry → Type 0
Filled x = 1 ≤ x.kind

abbrev pub Payload : Entry → Type 0
Payload x = (1 ≤ x.kind) × (x.kind ≤ 2)

-- four zeros, or "a label from 2 to the clock and a uid from 1 to 4,000,000,000", and one of the two boards
pub record Proper (c : ℕ) (x : Entry) : Type 0 where
  pub kind-hi : x.kind ≤ 3
  pub free-epoch : x.kind ≡ 0 → x.epoch ≡ 0
  pub free-uid : x.kind ≡ 0 → x.uid ≡ 0
  pub free-board : x.kind ≡ 0 → x.name.board ≡ 0
  pub epoch-lo : 1 ≤ x.kind → 2 ≤ x.epoch
  pub epoch-hi : x.epoch ≤ c
  pub uid-lo : 1 ≤ x.kind → 1 ≤ x.uid
  pub uid-hi : x.uid ≤ most_number
  pub board-lo : 1 ≤ x.kind → jobs_board ≤ x.name.board
  pub board-hi : x.name.board ≤ queue_board

-- each word of a header by itself: 0, or within its bounds
pub record Worded (c : ℕ) (x : Entry) : Type 0 where
  pub kind-hi : x.kind ≤ 3
  pub epoch-lo : 1 ≤ x.epoch → 2 ≤ x.epoch
  pub epoch-hi : x.epoch ≤ c
  pub uid-hi : x.uid ≤ most_number
  pub board-hi : x.name.board ≤ queue_board

-- the board of a name stands in the header, its key in the contents
pub record SameHead (x y : Entry) : Type 0 where
  pub kind-is : x.kind ≡ y.kind
  pub epoch-is : x.epoch ≡ y.epoch
  pub uid-is : x.uid ≡ y.uid
  pub board-is : x.name.board ≡ y.name.board

pub record SameLine (x y : Entry) : Type 0 where
  pub key-is : x.name.key ≡ y.name.key
  pub value-is : x.value ≡ y.value

-- ---- what is visible at a threshold
-- not retired, or retired after e
abbrev pub Live : ℕ → ℕ → Type 0
Live e r = (r ≡ 0) ⊎ (e < r)

pub record Visible (e : ℕ) (a : Slot) : Type 0 where
  pub payload : Payload a.working
  pub begun : a.working.epoch ≤ e
  pub live : Live e a.retired

-- the slot shows the job k with the value v at e
pub record Sees (e : ℕ) (k : Name) (v : Value) (a : Slot) : Type 0 where
  pub visible : Visible e a
  pub name-is : a.working.name ≡ k
  pub value-is : a.working.value ≡ v

abbrev pub Shows : (ℕ → Slot) → ℕ → Name → Value → Type 0
Shows f e k v = Any (Sees e k v) f

-- ---- of one slot
-- an entry of the clock's epoch or of the one below waits in that epoch's list
pub record Waits (c : ℕ) (x : Entry) (a : Slot) : Type 0 where
  pub in-now : x.epoch ≡ c → 1 ≤ a.now
  pub in-before : x.epoch + 1 ≡ c → 1 ≤ a.before

-- c is the clock, u the next uid, o the next order number
pub record One (c u o : ℕ) (a : Slot) : Type 0 where
  -- I0
  pub proper : Proper c a.working
  pub uid-below : a.working.uid < u
  pub order_below : Filled a.working → a.working.name.board ≡ queue_board → a.working.name.key < o
  pub named : Filled a.working → Named a.working.name
  -- I2: the bounds of a retirement
  pub retired-hi : a.retired ≤ c
  pub retired-lo : 1 ≤ a.retired → c ≤ a.retired + 2
  pub retired-of : 1 ≤ a.retired → Payload a.working × (a.working.epoch < a.retired)
  -- I5
  pub anti-lo : a.working.kind ≡ 3 → c ≤ a.working.epoch + 3
  -- J1, J2: what is old stands in both images
  pub settled-head : Filled a.working → a.working.epoch + 2 ≤ c → SameHead a.persistent a.working
  pub settled-line : Filled a.working → a.working.epoch + 2 ≤ c → SameLine a.persistent a.working
  pub copied : 1 ≤ a.persistent.epoch → a.persistent.epoch + 2 ≤ c → SameHead a.persistent a.working
  -- J3, J4
  pub waits : Waits c a.working a
  pub stray : Waits c a.persistent a
  -- J6
  pub worded : Worded c a.persistent

-- ---- of one slot, by its number, while an advance is underway
-- K1: nothing is left to reclaim
pub record Swept (c : ℕ) (a : Slot) : Type 0 where
  pub retired : 1 ≤ a.retired → c < a.retired + 2
  pub anti : a.working.kind ≡ 3 → c < a.working.epoch + 3

-- J5: the slot is written back
pub record Flushed (c : ℕ) (a : Slot) : Type 0 where
  pub head : a.working.epoch + 1 ≡ c → SameHead a.persistent a.working
  pub line : a.working.epoch + 1 ≡ c → SameLine a.persistent a.working
  pub stray : a.persistent.epoch + 1 ≡ c → SameHead a.persistent a.working

pub record Underway (c : ℕ) (p : Place) (s : ℕ) (a : Slot) : Type 0 where
  pub swept : s < p.looked → Swept c a
  pub flushed : s < p.flushed → Flushed c a
  pub half : 1 ≤ p.half → s ≡ p.flushed → a.working.epoch + 1 ≡ c → SameLine a.persistent a.working

-- ---- of two slots
-- a and b have one uid, a is the older version
pub record Kin (a b : Slot) : Type 0 where
  pub name-same : a.working.name ≡ b.working.name
  pub older : a.working.epoch < b.working.epoch
  pub payload : Payload a.working
  pub later-kind : 2 ≤ b.working.kind
  pub retired-lo : 1 ≤ a.retired
  pub retired-hi : a.retired ≤ b.working.epoch

pub record Two (a b : Slot) : Type 0 where
  -- I1
  pub kin : Filled a.working → Filled b.working → a.working.uid ≡ b.working.uid → a.working.epoch ≤ b.working.epoch → Kin a b
  -- I3: at no epoch two slots show one job
  pub disjoint : (e : ℕ) → Visible e a → Visible e b → a.working.name ≢ b.working.name

-- I2: the version that a retired one gave way to
pub record Next (uid epoch : ℕ) (a : Slot) : Type 0 where
  pub filled : Filled a.working
  pub uid-is : a.working.uid ≡ uid
  pub epoch-is : a.working.epoch ≡ epoch

-- every change is of an epoch up to c
abbrev pub UpTo : ℕ → List Change → Type 0
UpTo c row = (ch : Change) → Memᴰ ch row → ch.epoch ≤ c

pub record Inv (st : State) : Type 0 where
  pub clock-lo : 2 ≤ st.clock
  pub uid-lo : 1 ≤ st.uid
  pub one : Every (λ s. One st.clock st.uid st.order) st.slots
  pub two : Pairwise Two st.slots
  pub next : Every (λ s a. 1 ≤ a.retired → Any (Next a.working.uid a.retired) st.slots) st.slots
  pub underway : Every (Underway st.clock st.place) st.slots
  -- I4: what is visible at c - 2, c - 1 and c is what the reference map says
  pub late : UpTo st.clock st.row
  pub shown : (e : ℕ) → e ≤ st.clock → st.clock ≤ e + 2 → (k : Name) (v : Value) → Shows st.slots e k v ↔ (jobs_at e st.start st.row k ≡ Some v)
