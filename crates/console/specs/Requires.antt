-- What a caller may do with the image that some bytes are: it is the first k words of the buffer, and recovery accepts it.
use Rattle.std.specs.Prelude.{ℕ, ◌≤◌, ◌<◌, ◌≡◌, List, ◌++◌, length, take, Result, Ok, Err}
use Rattle.std.proofs.Common.{sym, length-take-le, arith}
use Rattle.reply.specs.declared.Refusal.{Refusal}
use Rattle.image.specs.Layout.{slots_of, width_of}
use Rattle.image.specs.Requires.{Sized}
use Rattle.image.specs.Bytes.{words_of}
use Rattle.survival.specs.Requires.{Headers, headers-of}
use Rattle.acceptance.specs.Accept.{image_check}
use Rattle.acceptance.specs.Laws.{image-sized}
use Rattle.console.specs.Console.{input_of, refused_line, printed}

pub record Taken (bytes : List ℕ) (r : Result ℕ Refusal) (words : List ℕ) : Type 0 where
  pub is : r ≡ input_of bytes
  pub fits : (k : ℕ) → r ≡ Ok k → k ≤ length words
  pub image : (k : ℕ) → r ≡ Ok k → take k words ≡ words_of bytes
  pub accepted : (k : ℕ) → r ≡ Ok k → image_check (take k words) ≡ Ok tt

-- ---- for a caller, by the case
module _ {bytes : List ℕ} (words : List ℕ) {r : Result ℕ Refusal} {k : ℕ} (t : Taken bytes r words) (e : r ≡ Ok k) where
  pub taken-fits : k ≤ length words
  taken-fits = t.fits k e

  pub taken-long : k ≡ length (take k words)
  taken-long = sym (length-take-le k words (t.fits k e))

  pub taken-accepted : image_check (take k words) ≡ Ok tt
  taken-accepted = t.accepted k e

-- what is printed: the text of the image, or the refusal
module _ (bytes : List ℕ) {words : List ℕ} {r : Result ℕ Refusal} (text : List ℕ → List ℕ) (before : List ℕ) {after : List ℕ} (t : Taken bytes r words) where
  pub printed-image : {k : ℕ} → r ≡ Ok k → after ≡ before ++ text (take k words) → after ≡ before ++ printed (input_of bytes) (text (words_of bytes))
  printed-image {k} e p = rw (← t.is, e, ← t.image k e) p

  pub printed-refusal : {d : Refusal} → r ≡ Err d → after ≡ before ++ refused_line d → after ≡ before ++ printed (input_of bytes) (text (words_of bytes))
  printed-refusal e p = rw (← t.is, e) p

-- ---- an accepted image has its size words, and its sizes are in range
module _ (l : List ℕ) (a : image_check l ≡ Ok tt) where
  pub accepted-long : (j : ℕ) → j < 3 → j < length l
  accepted-long j h = let z = image-sized l a in omega arith

  pub accepted-headers : {n : ℕ} → n ≡ slots_of l → Headers l n
  accepted-headers e = rw e (headers-of (image-sized l a))

  pub accepted-sized : {n w : ℕ} → n ≡ slots_of l → w ≡ width_of l → Sized l n w
  accepted-sized e f = rw (e, f) (image-sized l a)

pub ruleset takings = (taken-fits, taken-long, taken-accepted, accepted-long, accepted-headers, accepted-sized)
