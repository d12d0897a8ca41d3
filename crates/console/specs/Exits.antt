-- The ways out of this crate's functions: a law for each.
use Rattle.std.specs.Prelude.{ℕ, ◌+◌, ◌/◌, ◌≡◌, ◌≤◌, Bool, true, false, take, Result, Ok, Err}
use Rattle.std.proofs.Common.{sym, ap, ◌∙◌, arith}
use mathlib.Core.List.{List, [], ◌∷◌, ◌++◌, append_assoc}
use Rattle.std.proofs.Math.ListN.{length}
use Rattle.text.specs.Text.{ascii, decimal}
use Rattle.text.specs.Putting.{Appended, Spelt, figure-ends, line-done}
use Rattle.reply.specs.declared.Refusal.{Refusal}
use Rattle.reply.specs.declared.Refusal.TheVariants.{BadSizes}
use Rattle.reply.specs.Refusals.{Check, refusal_number}
use Rattle.image.specs.Line.{stored}
use Rattle.image.specs.Bytes.{words_of}
use Rattle.acceptance.specs.Accept.{image_check}
use Rattle.acceptance.specs.Questions.{bytes_ok}
use Rattle.acceptance.specs.Requires.{buffered}
use Rattle.acceptance.specs.Laws.{prefix-fits, prefix-is, decoding}
use Rattle.console.specs.Console.{input_of, refused_line, Reported}
use Rattle.console.specs.Requires.{Taken, printed-image, printed-refusal, taken-fits, taken-long, taken-accepted}

-- ---- nothing is taken, or an image
taken_none : {bytes words : List ℕ} {r : Refusal} → Err r ≡ input_of bytes → Taken bytes (Err r) words
taken_none {r = r} e = record { is = e; fits = λ k q. impossible q; image = λ k q. impossible q; accepted = λ k q. impossible q }
  where
    impossible : {A : Type 0} {k : ℕ} → Err r ≡ Ok k → A
    impossible q = let z : ◌≡◌ {A = ℕ} 0 1 = cc in absurd (omega arith)

module _ (bytes : List ℕ) {b : Bool} (ok : b ≡ bytes_ok (length bytes)) where
  pub taken-count : (words : List ℕ) → b ≡ false → Taken bytes (Err BadSizes) words
  unfolding input_of
  taken-count words f = taken_none (rw (← ok, f))

  module _ (words : List ℕ) {words' : List ℕ} {k : Check} (t : b ≡ true) (long : length words ≡ 13315)
      (d : words' ≡ stored words 0 (words_of bytes) (length bytes / 4)) (ck : k ≡ image_check (take (length bytes / 4) words')) where
    judged : k ≡ image_check (words_of bytes)
    judged = ck ∙ ap image_check (prefix-is bytes words (buffered ok t long) d)

    pub taken_refused : {r : Refusal} → k ≡ Err r → Taken bytes (Err r) words'
    unfolding input_of
    taken_refused e = taken_none (rw (← ok, t, ← judged, e))

    pub taken-image : k ≡ Ok tt → Taken bytes (Ok (length bytes / 4)) words'
    unfolding input_of
    taken-image e =
        record {
          is = rw (← ok, t, ← judged, e);
          fits = λ j q. rw (← number q) (prefix-fits bytes words (buffered ok t long) d);
          image = λ j q. rw (← number q) (prefix-is bytes words (buffered ok t long) d);
          accepted = λ j q. rw (← number q) (sym ck ∙ e);
        }
      where
        number : {j : ℕ} → ◌≡◌ {A = Result ℕ Refusal} (Ok (length bytes / 4)) (Ok j) → length bytes / 4 ≡ j
        number q = cc

-- ---- the line of a refusal
line-of : (before word figure end : List ℕ) → before ++ word ++ figure ++ end ≡ before ++ (word ++ figure ++ end)
line-of before word figure end = simp append_assoc

pub refusal-pushed : (before : List ℕ) (r : Refusal) {x y : ℕ} {a b : List ℕ} → x ≡ y → y ≡ refusal_number r → a ≡ before ++ ascii "refused " ++ decimal x → b ≡ a ++ (10 ∷ [])
    → b ≡ before ++ refused_line r
unfolding refused_line
refusal-pushed before r {x} e f p q =
    rw (← f, ← e, q, p) (line-of before (ascii "refused ") (decimal x) (10 ∷ []))

module _ (x : ℕ) {before mid : List ℕ} {k : ℕ} (room : 64 ≤ length before) (p : Appended before 0 (ascii "refused " ++ decimal x) mid k) where
  pub refused-room : k + 1 ≤ length mid
  refused-room = omega (arith, figure-ends (ascii "refused ") x p, p.long)

  pub refused-done : (r : Refusal) {y : ℕ} {after : List ℕ} {end : ℕ} → x ≡ y → y ≡ refusal_number r → Appended mid k (10 ∷ []) after end → Spelt before (refused_line r) after end
  unfolding refused_line
  refused-done r e f q =
      rw (← f, ← e, ← append_assoc (ascii "refused ") (decimal x) (10 ∷ [])) (line-done p q (omega (arith, refused-room, p.long)))

-- ---- a run
pub run-reported : {printed_of : List ℕ → List ℕ} {before after : List ℕ} (bytes : List ℕ) → length bytes ≤ 53260 → after ≡ before ++ printed_of bytes
    → Reported printed_of before after
run-reported bytes h e = record { bytes = bytes; few = h; is = e }

pub ruleset laws = (decoding, taken-count, taken_refused, taken-image, refused-room, refused-done, refusal-pushed, taken-fits, taken-long, taken-accepted, printed-image, printed-refusal)
