-- What each exported call answers C: a number, and the store it leaves.
use Rattle.std.specs.Prelude.{ℕ, cond, ◌&&◌, leb}
use Rattle.image.specs.Layout.{sizes_ok, image_words}
use Rattle.transient.specs.Layout.{transient_words}
use Rattle.transient.specs.Store.{Outcome}

-- a call's reply as its number
unfoldable pub numbered : {A : Type 0} → (A → ℕ) → Outcome A → Outcome ℕ
numbered number o = record { reply = number o.reply; store = o.store }

-- the lengths to allocate
unfoldable pub image_length : ℕ → ℕ → ℕ
image_length n w = cond (sizes_ok n w) (image_words n w) 0

unfoldable pub transient_length : ℕ → ℕ → ℕ
transient_length n t = cond (sizes_ok n 2 && (leb 1 t && leb t 16)) (transient_words n t) 0

-- 0.6.0: the first number by 10,000, the second by 100, the third
abbrev pub version : ℕ
version = 900
