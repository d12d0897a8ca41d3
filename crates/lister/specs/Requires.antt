-- The parts of what is printed, as the functions push them, and the loop over the slots.
use Rattle.std.specs.Prelude.{ℕ, ◌+◌, ◌*◌, ◌≤◌, ◌≡◌, cond, List, ◌++◌, length, eqb}
use Rattle.text.specs.Text.{ascii}
use Rattle.image.specs.Layout.{queue_board}
use Rattle.lister.specs.Printed.{slot_lines}

unfoldable pub line_end : ℕ → List ℕ
line_end board = cond (eqb board queue_board) (ascii " queue\n") (ascii "\n")

-- a loop has pushed the lines of s slots
pub record Listing (before l : List ℕ) (n w s : ℕ) (text : List ℕ) : Type 0 where
  pub low : s ≤ n
  pub so_far : text ≡ before ++ slot_lines l n w s
  pub room : length text ≤ length before + 256 * s
