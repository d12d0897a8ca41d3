-- 02, No. 1: the program "prints `free F surviving S kept K new M total T`".
use Rattle.std.specs.Prelude.{ℕ, List, ◌++◌}
use Rattle.text.specs.Text.{ascii, decimal}
use Rattle.image.specs.Layout.{slots_of}
use Rattle.image.specs.Bytes.{words_of}
use Rattle.classes.specs.declared.HeadCount.{HeadCount}
use Rattle.classes.specs.Classes.{head_count, total}
use Rattle.console.specs.Console.{input_of, printed}

unfoldable pub count_line : HeadCount → List ℕ
count_line c =
    ascii "free " ++ decimal c.free ++ ascii " surviving " ++ decimal c.surviving ++ ascii " kept " ++ decimal c.kept
    ++ ascii " new " ++ decimal c.new ++ ascii " total " ++ decimal (total c) ++ ascii "\n"

unfoldable pub image_count : List ℕ → List ℕ
image_count l = count_line (head_count l (slots_of l))

-- what is printed of the bytes that were read: "with the lister's input and refusals"
unfoldable pub printed_count : List ℕ → List ℕ
printed_count bytes = printed (input_of bytes) (image_count (words_of bytes))
