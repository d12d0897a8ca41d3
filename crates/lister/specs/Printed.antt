-- 01, "The image lister": "It prints `clock C survivors K`, then for each survivor in slot order the slot, key and value words, one
-- space between". 02, No. 3: "The lister shows both boards, a queue entry's line ending in one space and `queue`".
use Rattle.std.specs.Prelude.{ℕ, zero, suc, cond, eqb, List, [], ◌++◌}
use Rattle.text.specs.Text.{ascii, decimal, spaced}
use Rattle.image.specs.Layout.{queue_board, header, contents, slots_of, width_of, clock_of}
use Rattle.image.specs.Bytes.{words_of}
use Rattle.survival.specs.Survivors.{survivor, survivor_count}
use Rattle.console.specs.Console.{input_of, printed}

unfoldable pub head_line : ℕ → ℕ → List ℕ
head_line clock survivors = ascii "clock " ++ decimal clock ++ ascii " survivors " ++ decimal survivors ++ ascii "\n"

-- `words` are the slot's contents, its key first
unfoldable pub slot_line : ℕ → ℕ → List ℕ → List ℕ
slot_line board s words = decimal s ++ spaced words ++ cond (eqb board queue_board) (ascii " queue\n") (ascii "\n")

-- the lines of the first so many slots of an image of n slots and w words of contents
unfoldable pub slot_lines : List ℕ → ℕ → ℕ → ℕ → List ℕ
slot_lines l n w zero = []
slot_lines l n w (suc s) = slot_lines l n w s ++ cond (survivor l n s) (slot_line (header l s).board s (contents l n w s)) []

unfoldable pub image_listing : List ℕ → List ℕ
image_listing l = head_line (clock_of l) (survivor_count l (slots_of l)) ++ slot_lines l (slots_of l) (width_of l) (slots_of l)

-- what is printed of the bytes that were read
unfoldable pub printed_listing : List ℕ → List ℕ
printed_listing bytes = printed (input_of bytes) (image_listing (words_of bytes))
