-- The ways out of this program's functions: a law for each.
use Rattle.std.specs.Prelude.{ℕ, ◌≡◌, refl, List, ◌++◌}
use Rattle.std.proofs.Common.{append_assoc}
use Rattle.text.specs.Text.{ascii, decimal}
use Rattle.image.specs.Layout.{slots_of}
use Rattle.image.specs.Bytes.{words_of}
use Rattle.console.specs.Console.{input_of, printed}
use Rattle.console.specs.Requires.{takings}
use Rattle.classes.specs.declared.HeadCount.{HeadCount}
use Rattle.classes.specs.Classes.{head_count, total}
use Rattle.headcount.specs.Printed.{count_line, image_count, printed_count}
use Rattle.acceptance.specs.Checking.{fine-sized, image-fine}

-- ---- the line
line-of : (z a b c d e f g h i j k : List ℕ)
    → z ++ a ++ b ++ c ++ d ++ e ++ f ++ g ++ h ++ i ++ j ++ k ≡ z ++ (a ++ b ++ c ++ d ++ e ++ f ++ g ++ h ++ i ++ j ++ k)
line-of z a b c d e f g h i j k = simp append_assoc

pub count-pushed : (before : List ℕ) (c : HeadCount) {f s k n t : ℕ} {p q r u v w : List ℕ} → f ≡ c.free → s ≡ c.surviving → k ≡ c.kept → n ≡ c.new → t ≡ total c
    → p ≡ before ++ ascii "free " ++ decimal f → q ≡ p ++ ascii " surviving " ++ decimal s → r ≡ q ++ ascii " kept " ++ decimal k → u ≡ r ++ ascii " new " ++ decimal n
    → v ≡ u ++ ascii " total " ++ decimal t → w ≡ v ++ ascii "\n" → w ≡ before ++ count_line c
unfolding count_line
count-pushed before c ef es ek en et ep eq er eu ev ew =
    rw (ew, ev, eu, er, eq, ep, ef, es, ek, en, et)
    (line-of before (ascii "free ") (decimal c.free) (ascii " surviving ") (decimal c.surviving) (ascii " kept ") (decimal c.kept) (ascii " new ") (decimal c.new) (ascii " total ") (decimal (total c)) (ascii "\n"))

-- ---- the image, and the bytes
pub image-counted : (l before : List ℕ) {n : ℕ} {c : HeadCount} {after : List ℕ} → n ≡ slots_of l → c ≡ head_count l n → after ≡ before ++ count_line c
    → after ≡ before ++ image_count l
unfolding image_count
image-counted l before e f p = rw (← e, ← f) p

pub count-printed : (bytes : List ℕ) → printed_count bytes ≡ printed (input_of bytes) (image_count (words_of bytes))
unfolding printed_count
count-printed bytes = refl

pub ruleset laws = (fine-sized, image-fine, count-pushed, takings, image-counted)
