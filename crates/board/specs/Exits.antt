-- The ways out of the exported calls.
use Rattle.std.specs.Prelude.{ℕ, ◌≤◌, ◌<◌, ◌≡◌, Bool, true, false, List}
use borrow.Author.Tests.{le-leb, lt-leb}
use Rattle.image.specs.Layout.{sizes_ok, image_words}
use Rattle.image.specs.Laws.{sizes-true}
use Rattle.transient.specs.Layout.{transient_words}
use Rattle.transient.specs.Requires.{InReach}
use Rattle.transient.specs.Store.{Outcome, outcome}
use Rattle.board.specs.Calls.{numbered, image_length, transient_length}

-- ---- a reply as its number: of any call, and by the reply that it gave
module _ {A : Type 0} (number : A → ℕ) (o : Outcome A) {r : A} {w p t : List ℕ} (e : outcome r w p t ≡ o) where
  pub number_is : {v : ℕ} → v ≡ number r → outcome v w p t ≡ numbered number o
  unfolding numbered
  number_is h = rw (h, ← e)

  pub number_of : {x : A} {v : ℕ} → r ≡ x → v ≡ number x → outcome v w p t ≡ numbered number o
  number_of q h = number_is (rw q h)

-- ---- lengths
module _ (slots words : ℕ) {n w : ℕ} {s : Bool} (ne : n ≡ slots) (we : w ≡ words) (ok : s ≡ sizes_ok n w) where
  pub image-length : {k : ℕ} → s ≡ true → k ≡ image_words n w → k ≡ image_length slots words
  unfolding image_length
  image-length t e = rw (← ne, ← we, ← ok, t) e

  pub image-none : s ≡ false → 0 ≡ image_length slots words
  unfolding image_length
  image-none t = rw (← ne, ← we, ← ok, t)

module _ (slots threads : ℕ) {n t : ℕ} {s : Bool} (ne : n ≡ slots) (te : t ≡ threads) (ok : s ≡ sizes_ok n 2) where
  pub notes-none : s ≡ false → 0 ≡ transient_length slots threads
  unfolding transient_length
  notes-none f = rw (← ne, ← ok, f)

  pub notes-few : s ≡ true → t < 1 → 0 ≡ transient_length slots threads
  unfolding transient_length
  notes-few f h = rw (← ne, ← te, ← ok, f, lt-leb 1 t h)

  pub notes-many : s ≡ true → 1 ≤ t → 16 < t → 0 ≡ transient_length slots threads
  unfolding transient_length
  notes-many f h k = rw (← ne, ← te, ← ok, f, le-leb 1 t h, lt-leb t 16 k)

  pub notes-length : {k : ℕ} → s ≡ true → 1 ≤ t → t ≤ 16 → k ≡ transient_words n t → k ≡ transient_length slots threads
  unfolding transient_length
  notes-length f h k e = rw (← ne, ← te, ← ok, f, le-leb 1 t h, le-leb t 16 k) e

pub notes-reach : (n t : ℕ) {s : Bool} → s ≡ sizes_ok n 2 → s ≡ true → t ≤ 16 → InReach n t
notes-reach n t e f h = record { slots-hi = (sizes-true n 2 e f).slots-hi; threads-hi = h }

pub ruleset laws = (number_is, number_of, sizes-true, image-length, image-none, notes-none, notes-few, notes-many, notes-length, notes-reach)
