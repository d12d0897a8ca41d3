-- The call cut as its code is cut: what the functions inside answer.
use Rattle.std.specs.Prelude.{ℕ, ◌-◌, List, ltb, Ok}
use Rattle.reply.specs.declared.Refusal.TheVariants.{StillOpen, LastEpoch}
use Rattle.reply.specs.Refusals.{Check, refuse}
use Rattle.image.specs.Layout.{most_number, clock_of}
use Rattle.advance.specs.Stages.{any_open}

-- 14 and 15
unfoldable pub ready_check : List ℕ → List ℕ → ℕ → Check
ready_check wk tr t = refuse (any_open tr t) StillOpen (refuse (ltb (most_number - 2) (clock_of wk)) LastEpoch (Ok tt))
