-- What a flag says.
use Rattle.std.specs.Prelude.{ℕ, ◌<◌, ◌≡◌, Bool, false, List, get_or}
use Rattle.std.proofs.Common.{sym, ◌∙◌}
use Rattle.survival.specs.Requires.{Flagged}

pub flag_is : {flags : List Bool} {p : ℕ → Bool} {n s : ℕ} {b : Bool} → Flagged flags p n → s < n → get_or flags s false ≡ b → p s ≡ b
flag_is z h e = sym (z.same _ h) ∙ e
