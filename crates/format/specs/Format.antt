-- 01: "A fresh store has clock 2, every other word after word 1 zero, next uid 1, nothing open, retired, waiting or underway."
-- 02, No. 3: "an order number given by the store .., 1 first"
use Rattle.std.specs.Prelude.{ℕ, not, ◌&&◌, List, length, set, replicate, eqb, Ok, Err}
use Rattle.reply.specs.declared.Refusal.TheVariants.{BadSizes}
use Rattle.reply.specs.Refusals.{Check, refuse}
use Rattle.image.specs.Layout.{image_words, sizes_ok}
use Rattle.transient.specs.Layout.{threads_ok, blank}
use Rattle.transient.specs.Store.{Store, Outcome, outcome, after_check}

unfoldable pub fresh_image : ℕ → ℕ → List ℕ
fresh_image n w = set (set (set (replicate (image_words n w) 0) 0 n) 1 w) 2 2

-- "fresh and recover judge only the lengths of what they fill"
unfoldable pub format : Store → ℕ → ℕ → Outcome Check
format st n w =
    after_check
    (refuse (not (sizes_ok n w && (eqb (length st.working) (image_words n w) && (eqb (length st.persistent) (image_words n w)
    && threads_ok (length st.transient) n)))) BadSizes (Ok tt))
    Err st
    (outcome (Ok tt) (fresh_image n w) (fresh_image n w) (blank (length st.transient) n 1 1))
