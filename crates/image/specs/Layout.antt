-- 01, "The two images and the notes": where each word of an image stands, and what is read there.
use Rattle.std.specs.Prelude.{ℕ, ◌+◌, ◌*◌, ◌-◌, Bool, not, ◌&&◌, ◌||◌, List, length, get_or, take, drop, leb, eqb}
use Rattle.image.specs.declared.header.Header.{Header}

-- ---- the largest N, and the largest clock, uid and order number
abbrev pub most_slots : ℕ
most_slots = 1024

abbrev pub most_number : ℕ
most_number = 4000000000

-- ---- where words stand

-- "a mark gains a fourth word": kind, label, uid, board (02, No. 2)
abbrev pub header_words : ℕ
header_words = 4

abbrev pub header_at : ℕ → ℕ
header_at s = 3 + header_words * s

-- "N contents of W words: key, then V = W − 1 value words."
abbrev pub contents_at : ℕ → ℕ → ℕ → ℕ
contents_at n w s = 3 + header_words * n + w * s

-- "an image has 3 + 4N + WN words"
abbrev pub image_words : ℕ → ℕ → ℕ
image_words n w = 3 + header_words * n + w * n

-- ---- headers

abbrev pub header_of : ℕ → ℕ → ℕ → ℕ → Header
header_of k e u b = record { kind = k; epoch = e; uid = u; board = b }

-- "the board, 1 for jobs"; 02, No. 3: "a queue as board 2"
abbrev pub jobs_board : ℕ
jobs_board = 1

abbrev pub queue_board : ℕ
queue_board = 2

-- "Kinds: 0 free, 1 ALLOC, 2 UPDATE, 3 DELETE (an anti-payload)." "A free mark is now four zeros"
abbrev pub free_header : Header
free_header = header_of 0 0 0 0

abbrev pub fresh_header : ℕ → ℕ → ℕ → Header
fresh_header e u b = header_of 1 e u b

-- "A new version and a DELETE carry their payload's board", as they do its uid
abbrev pub updated_header : ℕ → Header → Header
updated_header e h = header_of 2 e h.uid h.board

abbrev pub anti_header : ℕ → Header → Header
anti_header e h = header_of 3 e h.uid h.board

-- four zeros
unfoldable pub is_blank : Header → Bool
is_blank h = eqb h.kind 0 && (eqb h.epoch 0 && (eqb h.uid 0 && eqb h.board 0))

-- 02, No. 4: "A mark with any of its four words 0 counts as free"
unfoldable pub has_zero : Header → Bool
has_zero h = eqb h.kind 0 || (eqb h.epoch 0 || (eqb h.uid 0 || eqb h.board 0))

-- "Calls other than recover take a kind above 3 as free"
unfoldable pub is_filled : Header → Bool
is_filled h = not (has_zero h) && leb h.kind 3

unfoldable pub is_payload : Header → Bool
is_payload h = not (has_zero h) && leb h.kind 2

-- ---- readers

unfoldable pub header : List ℕ → ℕ → Header
header l s = header_of (get_or l (header_at s) 0) (get_or l (header_at s + 1) 0) (get_or l (header_at s + 2) 0) (get_or l (header_at s + 3) 0)

unfoldable pub contents : List ℕ → ℕ → ℕ → ℕ → List ℕ
contents l n w s = take w (drop (contents_at n w s) l)

unfoldable pub key_at : List ℕ → ℕ → ℕ → ℕ → ℕ
key_at l n w s = get_or l (contents_at n w s) 0

unfoldable pub value_at : List ℕ → ℕ → ℕ → ℕ → List ℕ
value_at l n w s = take (w - 1) (drop (contents_at n w s + 1) l)

-- "Word 0: N, slots .. Word 1: W, words of contents .. Word 2: the clock."
abbrev pub slots_of : List ℕ → ℕ
slots_of l = get_or l 0 0

abbrev pub width_of : List ℕ → ℕ
width_of l = get_or l 1 0

abbrev pub clock_of : List ℕ → ℕ
clock_of l = get_or l 2 0

-- ---- shape

-- "N, slots, 2 to 1,024 .. W, words of contents, 2 to 9."
unfoldable pub sizes_ok : ℕ → ℕ → Bool
sizes_ok n w = leb 2 n && (leb n most_slots && (leb 2 w && leb w 9))

-- sizes in range, and the length that they ask
unfoldable pub shape_ok : List ℕ → Bool
shape_ok l = sizes_ok (slots_of l) (width_of l) && eqb (length l) (image_words (slots_of l) (width_of l))

-- "The clock runs from 2 to 4,000,000,000."
unfoldable pub clock_ok : ℕ → Bool
clock_ok c = leb 2 c && leb c most_number
