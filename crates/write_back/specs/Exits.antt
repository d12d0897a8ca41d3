-- The ways out of a word written back: refusal 16, then the word.
use Rattle.std.specs.Prelude.{ℕ, ◌≤◌, ◌<◌, ◌≡◌, List, length, get_or, set, Ok, Err}
use Rattle.std.proofs.Common.{sym, ◌∙◌, arith}
use borrow.Author.Tests.{lt-ltb, le-ltb, le-leb, lt-leb}
use Rattle.reply.specs.declared.Refusal.{Refusal}
use Rattle.reply.specs.declared.Refusal.TheVariants.{NoWord}
use Rattle.transient.specs.Store.{store, Outcome, outcome}
use Rattle.transient.specs.Entry.{entry_check}
use Rattle.transient.specs.Passed.{entry-with}
use Rattle.write_back.specs.WriteBack.{write_back}
use Rattle.write_back.specs.Stages.{write_word, write-back-is}
use Rattle.reply.specs.Refusals.{Check}

pub word_room : (wk l : List ℕ) (i : ℕ) → length l ≡ length wk → i < length wk → i < length l
word_room wk l i e h = omega arith

module _ (wk l tr : List ℕ) (i : ℕ) where
  pub word-front : i < 3 → outcome (Err NoWord) wk l tr ≡ write_word (store wk l tr) i
  unfolding write_word
  word-front h = rw (lt-ltb i 3 h)

  module _ (f : 3 ≤ i) where
    pub word-past : length wk ≤ i → outcome (Err NoWord) wk l tr ≡ write_word (store wk l tr) i
    unfolding write_word
    word-past h = rw (le-ltb i 3 f, le-leb (length wk) i h)

    pub word_copied : i < length wk → outcome (Ok tt) wk (set l i (get_or wk i 0)) tr ≡ write_word (store wk l tr) i
    unfolding write_word
    word_copied h = rw (le-ltb i 3 f, lt-leb (length wk) i h)

module _ (wk l tr : List ℕ) {k : Check} (ce : k ≡ entry_check (store wk l tr)) where
  pub write-long : k ≡ Ok tt → length l ≡ length wk
  write-long a = let y = entry-with wk l tr (sym ce ∙ a) in y.persistent.long ∙ sym y.entered.shaped.working.long

  pub write-refused : (i : ℕ) {r : Refusal} → k ≡ Err r → outcome (Err r) wk l tr ≡ write_back (store wk l tr) i
  unfolding write_back
  write-refused i a = rw (← ce, a)

  pub write_goes : (i : ℕ) {x : Outcome Check} → k ≡ Ok tt → x ≡ write_word (store wk l tr) i → x ≡ write_back (store wk l tr) i
  write_goes i a h = rw (write-back-is (store wk l tr) i, ← ce, a) h

pub ruleset writes = (word_room, word-front, word-past, word_copied, write-long, write-refused, write_goes)
