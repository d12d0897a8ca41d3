-- What a check that accepts says of the sizes, and what words the bytes of an image make.
use Rattle.std.specs.Prelude.{◌≡◌, ℕ, ◌/◌, ◌≤◌, true, false, not, List, length, take, Ok, Err}
use Rattle.std.proofs.Common.{sym, ◌∙◌, ⊎_elim, length-take-le}
use Rattle.std.proofs.lemmas.Bool.{not-false}
use Rattle.search.specs.Bools.{cases}
use Rattle.reply.specs.declared.Refusal.TheVariants.{BadSizes, BadClock}
use Rattle.reply.specs.Refusals.{refuse, by_check, not-refused, both-accepted}
use Rattle.image.specs.Layout.{slots_of, width_of, clock_of, shape_ok, clock_ok}
use Rattle.image.specs.Line.{stored}
use Rattle.image.specs.Requires.{Sized}
use Rattle.image.specs.Laws.{shaped, stored-front, length-stored}
use Rattle.image.specs.Bytes.{words_of, words-length}
use Rattle.acceptance.specs.Accept.{image_check}
use Rattle.acceptance.specs.Requires.{head_check, nameless, slots_check, Buffered, buffered, decodes}

-- the check of an image, by its parts
pub image-is : (l : List ℕ) → image_check l ≡ by_check (head_check l) Err (slots_check l (slots_of l) (width_of l))
unfolding image_check head_check slots_check nameless
image-is l =
    ⊎_elim
    (λ (s : shape_ok l ≡ true).
    ⊎_elim
    (λ (t : clock_ok (clock_of l) ≡ true). rw (s, t))
    (λ (f : clock_ok (clock_of l) ≡ false). rw (s, f))
    (cases (clock_ok (clock_of l))))
    (λ (f : shape_ok l ≡ false). rw f)
    (cases (shape_ok l))

pub head-sized : (l : List ℕ) → head_check l ≡ Ok tt → Sized l (slots_of l) (width_of l)
unfolding head_check
head-sized l a = shaped l (not-false (shape_ok l) (not-refused (not (shape_ok l)) BadSizes (refuse (not (clock_ok (clock_of l))) BadClock (Ok tt)) a).0)

pub image-sized : (l : List ℕ) → image_check l ≡ Ok tt → Sized l (slots_of l) (width_of l)
image-sized l a = head-sized l (both-accepted (head_check l) (slots_check l (slots_of l) (width_of l)) (sym (image-is l) ∙ a)).0

-- ---- the front of a buffer into which bytes were decoded
module _ (bytes words : List ℕ) {words' : List ℕ} (z : Buffered bytes words) (d : words' ≡ stored words 0 (words_of bytes) (length bytes / 4)) where
  pub prefix-fits : length bytes / 4 ≤ length words'
  prefix-fits = rw (d, length-stored words 0 (words_of bytes) (length bytes / 4)) (decodes z).room

  pub prefix-long : length bytes / 4 ≡ length (take (length bytes / 4) words')
  prefix-long = sym (length-take-le (length bytes / 4) words' prefix-fits)

  pub prefix-is : take (length bytes / 4) words' ≡ words_of bytes
  prefix-is = rw d (stored-front words (words_of bytes) (length bytes / 4) (words-length (length bytes / 4) bytes z.whole) (decodes z).room)

pub ruleset decoding = (buffered, decodes, prefix-fits, prefix-long)
