-- The ways out of this crate's functions.
use Rattle.std.specs.Prelude.{ℕ, ◌≤◌, ◌≡◌, Bool, true, false, List, length, set, replicate, Ok, Err}
use Rattle.std.proofs.Common.{sym, ap, ◌∙◌}
use borrow.Author.Tests.{eq-eqb, ne_eqb}
use Rattle.reply.specs.declared.Refusal.TheVariants.{BadSizes}
use Rattle.image.specs.Layout.{most_slots, image_words, sizes_ok}
use Rattle.image.specs.Laws.{sizes-true}
use Rattle.transient.specs.Layout.{threads_ok, blank}
use Rattle.transient.specs.Store.{Store, store, outcome}
use Rattle.format.specs.Format.{fresh_image, format}
use Rattle.format.specs.Requires.{format_fits, fresh_store, format-is, Fitting, fitting, fit-blanking}

module _ (a b c n w : ℕ) {s : Bool} (sz : s ≡ sizes_ok n w) where
  pub format-sizes : s ≡ false → false ≡ format_fits a b c n w
  unfolding format_fits
  format-sizes e = rw (← sz, e)

  pub format-slots : s ≡ true → n ≤ most_slots
  format-slots t = (sizes-true n w sz t).slots-hi

  module _ {k : ℕ} (st : s ≡ true) (ke : k ≡ image_words n w) where
    pub format-working : (a ≡ k → ⊥) → false ≡ format_fits a b c n w
    unfolding format_fits
    format-working d = rw (← sz, st, ← ke, ne_eqb a k d)

    pub format-persistent : a ≡ k → (b ≡ k → ⊥) → false ≡ format_fits a b c n w
    unfolding format_fits
    format-persistent d g = rw (← sz, st, ← ke, eq-eqb a k d, ne_eqb b k g)

    pub format-threads : {r : Bool} → a ≡ k → b ≡ k → r ≡ threads_ok c n → r ≡ format_fits a b c n w
    unfolding format_fits
    format-threads d g h = rw (← sz, st, ← ke, eq-eqb a k d, eq-eqb b k g) h

pub fresh-done : (l : List ℕ) (n w : ℕ) {l' : List ℕ} → length l ≡ image_words n w → l' ≡ replicate (length l) 0 → set (set (set l' 0 n) 1 w) 2 2 ≡ fresh_image n w
unfolding fresh_image
fresh-done l n w b e = rw (e, b)

pub store-done : (len n w : ℕ) {a b d : List ℕ} → a ≡ fresh_image n w → b ≡ fresh_image n w → d ≡ blank len n 1 1 → store a b d ≡ fresh_store len n w
unfolding fresh_store
store-done len n w p q r = rw (p, q, r)

module _ (wk l tr : List ℕ) (slots words : ℕ) {n w : ℕ} {f : Bool} (ne : n ≡ slots) (we : w ≡ words) (fi : f ≡ format_fits (length wk) (length l) (length tr) n w) where
  pub format-declines : f ≡ false → outcome (Err BadSizes) wk l tr ≡ format (store wk l tr) slots words
  format-declines e = rw (format-is (store wk l tr) slots words, ← ne, ← we, ← fi, e)

  module _ (ft : f ≡ true) where
    pub format-fitting : Fitting wk l tr slots words
    format-fitting = rw (ne, we) at (fitting wk l tr n w (sym fi ∙ ft))

    pub format-done : {a b d : List ℕ} → store a b d ≡ fresh_store (length tr) slots words → outcome (Ok tt) a b d ≡ format (store wk l tr) slots words
    format-done p = rw (format-is (store wk l tr) slots words, ← ne, ← we, ← fi, ft, ne, we) (ap (λ (x : Store). record { reply = Ok tt; store = x }) p)

pub ruleset laws = (sizes-true, fit-blanking, format-sizes, format-slots, format-working, format-persistent, format-threads, fresh-done, store-done, format-declines, format-fitting, format-done)
