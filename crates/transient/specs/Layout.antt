-- Where each word of the notes stands, what is read there and what is written. 01: "The notes are lost at a cut: for each of
-- T threads (1 to 16) its open epoch or none; which payloads are retired, and in which epoch; a waiting list of slots for each
-- recent epoch; the last slot taken; the next uid; the place an advance has reached." 02, No. 3: the next order number. No. 6: "keep a
-- hashed index in the notes". They also say their N.
use Rattle.std.specs.Prelude.{ℕ, ◌+◌, ◌-◌, ◌*◌, ◌/◌, ◌%◌, ◌^◌, Bool, cond, ◌&&◌, List, replicate, ◌==◌, nat_le, slice_index, slice_set}
use Rattle.image.specs.Line.{stored}
use Rattle.transient.specs.declared.sizes.Sizes.{Sizes}

-- ---- where words stand: a head, which ends in the waiting lists; then the threads, the slots, and the index
abbrev pub slots_at : ℕ
slots_at = 0

abbrev pub last_at : ℕ
last_at = 1

abbrev pub next_uid_at : ℕ
next_uid_at = 2

abbrev pub next_order_at : ℕ
next_order_at = 3

abbrev pub phase_at : ℕ
phase_at = 4

abbrev pub place_at : ℕ
place_at = 5

abbrev pub lists_at : ℕ
lists_at = 6

abbrev pub head_words : ℕ
head_words = 70

abbrev pub open_at : ℕ → ℕ
open_at thread = head_words + thread

abbrev pub retired_at : Sizes → ℕ → ℕ
retired_at z s = head_words + z.t + s

-- the waiting list of an epoch has a bit for each slot, in 32 words of 32: those of the even one of two neighbours, then of the odd one
abbrev pub waiting_at : ℕ → ℕ → ℕ
waiting_at e s = lists_at + 32 * (e % 2) + s / 32

-- the index: for each of N buckets the link to its chain's first slot, then each slot's link to the next one
abbrev pub index_at : Sizes → ℕ
index_at z = head_words + z.t + z.n

abbrev pub bucket_at : Sizes → ℕ → ℕ
bucket_at z b = head_words + z.t + z.n + b

abbrev pub link_at : Sizes → ℕ → ℕ
link_at z s = head_words + z.t + 2 * z.n + s

abbrev pub transient_words : ℕ → ℕ → ℕ
transient_words n t = head_words + t + 3 * n

-- how many threads a length leaves for n slots
abbrev pub threads_of : ℕ → ℕ → ℕ
threads_of len n = len - (head_words + 3 * n)

-- "T threads (1 to 16)"
unfoldable pub threads_ok : ℕ → ℕ → Bool
threads_ok len n = nat_le 1 (threads_of len n) && nat_le (threads_of len n) 16

-- ---- readers
-- a word of the head: the N that the notes are for, "the last slot taken; the next uid", the next order number, and "the place an
-- advance has reached", which is its phase and its slot
abbrev pub note : ℕ → List ℕ → ℕ
note at tr = slice_index tr at

-- a thread's open epoch, 0 for none
abbrev pub open_epoch : List ℕ → ℕ → ℕ
open_epoch tr thread = slice_index tr (open_at thread)

-- the epoch in which a slot's payload was retired, 0 for not retired
abbrev pub retired_in : Sizes → List ℕ → ℕ → ℕ
retired_in z tr s = slice_index tr (retired_at z s)

-- bit j of a word
unfoldable pub has_bit : ℕ → ℕ → Bool
has_bit x j = x / 2 ^ j % 2 == 1

unfoldable pub is_waiting : List ℕ → ℕ → ℕ → Bool
is_waiting tr e s = has_bit (slice_index tr (waiting_at e s)) (s % 32)

-- ---- writers
-- a word of the head, set
unfoldable pub set_note : ℕ → List ℕ → ℕ → List ℕ
set_note at tr x = slice_set tr at x

unfoldable pub set_place : List ℕ → ℕ → ℕ → List ℕ
set_place tr phase slot = slice_set (slice_set tr phase_at phase) place_at slot

unfoldable pub set_open : List ℕ → ℕ → ℕ → List ℕ
set_open tr thread e = slice_set tr (open_at thread) e

unfoldable pub set_retired : Sizes → List ℕ → ℕ → ℕ → List ℕ
set_retired z tr s e = slice_set tr (retired_at z s) e

-- a word with bit j set
unfoldable pub with_bit : ℕ → ℕ → ℕ
with_bit x j = cond (has_bit x j) x (x + 2 ^ j)

unfoldable pub set_waiting : List ℕ → ℕ → ℕ → List ℕ
set_waiting tr e s = slice_set tr (waiting_at e s) (with_bit (slice_index tr (waiting_at e s)) (s % 32))

-- the waiting list of e, emptied
unfoldable pub emptied : List ℕ → ℕ → List ℕ
emptied tr e = stored tr (waiting_at e 0) (replicate 32 0) 32

-- "nothing open, retired, waiting or underway", for n slots; the search for a free slot begins at 0, after the last
unfoldable pub blank : ℕ → ℕ → ℕ → ℕ → List ℕ
blank len n uid order = slice_set (slice_set (slice_set (slice_set (replicate len 0) slots_at n) last_at (n - 1)) next_uid_at uid) next_order_at order
