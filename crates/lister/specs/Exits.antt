-- The ways out of this program's functions: a law for each.
use Rattle.std.specs.Prelude.{ℕ, ◌+◌, ◌*◌, ◌-◌, ◌≤◌, ◌<◌, ◌≡◌, refl, Bool, true, false, List, ◌++◌, length, get_or, take, drop}
use Rattle.std.proofs.Common.{⊎_elim, append_assoc, append-nil, length-append, eq-eqb, ne_eqb, add-one, arith}
use Rattle.text.specs.Text.{ascii, decimal, spaced}
use Rattle.image.specs.Layout.{queue_board, contents_at, header, contents, slots_of, width_of, clock_of}
use Rattle.image.specs.Requires.{board_at, Sized, Slot, slot, slot_of, slot-header}
use Rattle.image.specs.Laws.{length-contents, part-is}
use Rattle.survival.specs.Survivors.{survivor_count}
use Rattle.survival.specs.Requires.{AllMarked, marks}
use Rattle.survival.specs.Laws.{flag_is}
use Rattle.acceptance.specs.Checking.{fine-sized, image-fine}
use Rattle.image.specs.Bytes.{words_of}
use Rattle.console.specs.Console.{input_of, printed}
use Rattle.console.specs.Requires.{takings}
use Rattle.lister.specs.Printed.{head_line, slot_line, slot_lines, image_listing, printed_listing}
use Rattle.lister.specs.Requires.{line_end, Listing}

-- ---- the first line
line-of : (z a b c d e : List ℕ) → z ++ a ++ b ++ c ++ d ++ e ≡ z ++ (a ++ b ++ c ++ d ++ e)
line-of z a b c d e = simp append_assoc

pub head-pushed : (before : List ℕ) {clock survivors x y : ℕ} {p q r : List ℕ} → x ≡ clock → y ≡ survivors → p ≡ before ++ ascii "clock " ++ decimal x
    → q ≡ p ++ ascii " survivors " ++ decimal y → r ≡ q ++ ascii "\n" → r ≡ before ++ head_line clock survivors
unfolding head_line
head-pushed before {x = x} {y} e f p q r =
    rw (r, q, p, ← e, ← f) (line-of before (ascii "clock ") (decimal x) (ascii " survivors ") (decimal y) (ascii "\n"))

-- ---- the line of a slot
module _ (before : List ℕ) {after : List ℕ} (board : ℕ) where
  pub end-entry : board ≡ queue_board → after ≡ before ++ ascii " queue\n" → after ≡ before ++ line_end board
  unfolding line_end
  end-entry e p = rw (eq-eqb board queue_board e) p

  pub end-job : (board ≡ queue_board → ⊥) → after ≡ before ++ ascii "\n" → after ≡ before ++ line_end board
  unfolding line_end
  end-job e p = rw (ne_eqb board queue_board e) p

module _ {l : List ℕ} {n w s b : ℕ} (z : Slot l n w s) (at : b ≡ contents_at n w s) where
  pub slot-end : b + w ≤ length l
  slot-end = omega (arith, z.room, z.sized.long)

  pub words-few : length (take (b + w - b) (drop b l)) ≤ 9
  words-few = rw (part-is l n w s at, length-contents z) z.sized.sizes.width-hi

  pub slot-pushed : (before : List ℕ) {board : ℕ} {p q r : List ℕ} → board ≡ board_at l s → p ≡ before ++ decimal s → q ≡ p ++ spaced (take (b + w - b) (drop b l)) → r ≡ q ++ line_end board
      → r ≡ before ++ slot_line (header l s).board s (contents l n w s)
  unfolding slot_line line_end header
  slot-pushed before {board} g e f h =
      let words = contents l n w s in
      rw (h, f, part-is l n w s at, e, ← g, append_assoc before (decimal s) (spaced words), append_assoc before (decimal s ++ spaced words) (line_end board)) refl

-- ---- the loop
pub listing-start : (before l : List ℕ) (n w : ℕ) → Listing before l n w 0 before
unfolding slot_lines
listing-start before l n w =
    record { low = omega arith; so_far = rw (append-nil before) refl; room = omega arith }

module _ {before l text : List ℕ} {n w s : ℕ} {flags : List Bool} (m : AllMarked l n w flags) (z : Listing before l n w s text) where
  pub listing-room : {room : ℕ} → s < n → length before + 256 * n ≤ room → length text + 256 ≤ room
  listing-room h most = omega (arith, z.room)

  pub listing-slot : s < n → Slot l n w s
  listing-slot h = slot {s = s} m.sized h

  pub listing-flag : s < n → s < 1024
  listing-flag h = omega (arith, m.sized.sizes.slots-hi)

  pub listing-line : {text' : List ℕ} → s < n → get_or flags s false ≡ true → text' ≡ text ++ slot_line (header l s).board s (contents l n w s)
      → length text' ≤ length text + 256 → Listing before l n w (s + 1) text'
  unfolding slot_lines
  listing-line h t p most =
      record {
        low = omega arith;
        so_far =
            rw (add-one s, flag_is m.flagged h t, p, z.so_far, append_assoc before (slot_lines l n w s) (slot_line (header l s).board s (contents l n w s))) refl;
        room = omega (arith, z.room);
      }

  pub listing-none : s < n → get_or flags s false ≡ false → Listing before l n w (s + 1) text
  unfolding slot_lines
  listing-none h f =
      record {
        low = omega arith;
        so_far = rw (add-one s, flag_is m.flagged h f, append-nil (slot_lines l n w s)) z.so_far;
        room = omega (arith, z.room);
      }

  pub listing-end : n ≤ s → text ≡ before ++ slot_lines l n w n
  listing-end h = let e : s ≡ n = omega (arith, z.low) in rw e at z.so_far

-- ---- the image, and the bytes
pub lines-room : {l : List ℕ} {n w a room : ℕ} (b : ℕ) → Sized l n w → a ≤ b + 64 → b + 262208 ≤ room → a + 256 * n ≤ room
lines-room b z h most = omega (arith, z.sizes.slots-hi)

pub image-listed : (before l : List ℕ) {n w c y : ℕ} {p q : List ℕ} → n ≡ slots_of l → w ≡ width_of l → c ≡ clock_of l → y ≡ survivor_count l n → p ≡ before ++ head_line c y
    → q ≡ p ++ slot_lines l n w n → q ≡ before ++ image_listing l
unfolding image_listing
image-listed before l {n} {w} {c} {y} e f g i h q =
    rw (q, h, append_assoc before (head_line c y) (slot_lines l n w n), i, g, f, e) refl

pub listing-printed : (bytes : List ℕ) → printed_listing bytes ≡ printed (input_of bytes) (image_listing (words_of bytes))
unfolding printed_listing
listing-printed bytes = refl

pub ruleset slots = (slot_of, slot-header, end-entry, end-job, slot-end, words-few, slot-pushed, length-append, listing-start, listing-room, listing-slot, listing-flag, listing-line, listing-none, listing-end)

pub ruleset laws = (fine-sized, image-fine, marks, takings, head-pushed, length-append, lines-room, image-listed)
