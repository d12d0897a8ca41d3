-- What contracts inside are about.
use Rattle.std.specs.Prelude.{ℕ, ◌+◌, Bool, ◌&&◌, ltb}
use Rattle.image.specs.declared.header.Header.{Header}
use Rattle.image.specs.Layout.{is_filled}

-- filled, and its epoch + 2 above the clock
unfoldable pub too_new : ℕ → Header → Bool
too_new c h = is_filled h && ltb c (h.epoch + 2)
