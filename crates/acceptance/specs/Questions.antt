-- The server's questions. 01: "it hands over an image's bytes and asks for the clock and the number of surviving jobs".
use Rattle.std.specs.Prelude.{ℕ, ◌%◌, Bool, not, ◌&&◌, List, length, ◌==◌, nat_le}
use Rattle.search.specs.Count.{count}
use Rattle.reply.specs.declared.Refusal.TheVariants.{BadSizes}
use Rattle.reply.specs.Refusals.{refuse, by_check, declined_number}
use Rattle.image.specs.Layout.{jobs_board, slots_of, clock_of}
use Rattle.image.specs.Bytes.{words_of}
use Rattle.survival.specs.Survivors.{survives_on}
use Rattle.acceptance.specs.Accept.{image_check}

-- 02, No. 3: "the server counts jobs alone"
unfoldable pub job_count : List ℕ → ℕ → ℕ
job_count l n = count (survives_on l n jobs_board) n

-- "A byte count that fits no image is refused with 1": no whole words, or more than the largest image has
unfoldable pub bytes_ok : ℕ → Bool
bytes_ok len = len % 4 == 0 && nat_le len 53260

unfoldable pub clock_of_bytes : List ℕ → ℕ
clock_of_bytes bytes = by_check (refuse (not (bytes_ok (length bytes))) BadSizes (image_check (words_of bytes))) declined_number (clock_of (words_of bytes))

unfoldable pub survivors_of_bytes : List ℕ → ℕ
survivors_of_bytes bytes =
    by_check (refuse (not (bytes_ok (length bytes))) BadSizes (image_check (words_of bytes))) declined_number (job_count (words_of bytes) (slots_of (words_of bytes)))
