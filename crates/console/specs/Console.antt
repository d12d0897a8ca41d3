-- 01, "The image lister": what a program makes of the bytes it is given, and what it prints of a refusal.
use Rattle.std.specs.Prelude.{ℕ, ◌/◌, ◌≡◌, ◌≤◌, not, List, ◌++◌, length, Result, Ok, Err}
use Rattle.text.specs.Text.{ascii, decimal}
use Rattle.reply.specs.declared.Refusal.{Refusal}
use Rattle.reply.specs.declared.Refusal.TheVariants.{BadSizes}
use Rattle.reply.specs.Refusals.{refusal_number, refuse, by_check}
use Rattle.image.specs.Bytes.{words_of}
use Rattle.acceptance.specs.Accept.{image_check}
use Rattle.acceptance.specs.Questions.{bytes_ok}

-- "A byte count that fits no image is refused with 1"; then the refusals of the image; else it has so many words
unfoldable pub input_of : List ℕ → Result ℕ Refusal
input_of bytes = by_check (refuse (not (bytes_ok (length bytes))) BadSizes (image_check (words_of bytes))) Err (Ok (length bytes / 4))

unfoldable pub refused_line : Refusal → List ℕ
refused_line r = ascii "refused " ++ decimal (refusal_number r) ++ ascii "\n"

-- "on a refusal only `refused` and the number, as `refused 1`"; else the text of the image
abbrev pub printed : Result ℕ Refusal → List ℕ → List ℕ
printed (Ok k) text = text
printed (Err r) text = refused_line r

-- a run's text: behind what was there stands what the program prints of some bytes, those that were read
pub record Reported (printed_of : List ℕ → List ℕ) (before after : List ℕ) : Type 0 where
  pub bytes : List ℕ
  pub few : length bytes ≤ 53260
  pub is : after ≡ before ++ printed_of bytes
