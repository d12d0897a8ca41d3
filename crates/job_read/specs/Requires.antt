-- What the answers of a reading require: a slot that is shown is one of the image.
use Rattle.std.specs.Prelude.{ℕ, ◌≡◌, List, Result, Ok}
use Rattle.image.specs.Layout.{slots_of, width_of}
use Rattle.image.specs.Requires.{Slot}
use Rattle.reply.specs.declared.Refusal.{Refusal}

pub record Readable (wk : List ℕ) (k : Result ℕ Refusal) : Type 0 where
  pub slot : (s : ℕ) → k ≡ Ok s → Slot wk (slots_of wk) (width_of wk) s

pub readable-slot : {wk : List ℕ} {k : Result ℕ Refusal} {s : ℕ} → Readable wk k → k ≡ Ok s → Slot wk (slots_of wk) (width_of wk) s
readable-slot {wk} {k} {s} y a = y.slot s a
