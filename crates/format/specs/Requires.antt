-- What functions inside format require, memory of these sizes; and format in the parts of its code.
use Rattle.std.specs.Prelude.{ℕ, ◌≤◌, ◌≡◌, refl, Bool, true, not, ◌&&◌, List, length, eqb, Ok, Err}
use Rattle.std.proofs.Common.{eqb-true, arith}
use Rattle.search.specs.Bools.{and_left, and_right}
use Rattle.reply.specs.declared.Refusal.TheVariants.{BadSizes}
use Rattle.reply.specs.Refusals.{refuse}
use Rattle.image.specs.Layout.{image_words, sizes_ok}
use Rattle.image.specs.Requires.{InRange}
use Rattle.image.specs.Laws.{sizes-true}
use Rattle.transient.specs.Layout.{head_words, threads_ok, blank}
use Rattle.transient.specs.Store.{Store, store, after_check}
use Rattle.transient.specs.Requires.{Blanking}
use Rattle.transient.specs.Laws.{threads-head}
use Rattle.format.specs.Format.{fresh_image, format}

-- ---- the parts
unfoldable pub format_fits : ℕ → ℕ → ℕ → ℕ → ℕ → Bool
format_fits working persistent transient n w =
    sizes_ok n w && (eqb working (image_words n w) && (eqb persistent (image_words n w) && threads_ok transient n))

unfoldable pub fresh_store : ℕ → ℕ → ℕ → Store
fresh_store transient n w = store (fresh_image n w) (fresh_image n w) (blank transient n 1 1)

pub format-is : (st : Store) (n w : ℕ)
    → format st n w ≡ after_check (refuse (not (format_fits (length st.working) (length st.persistent) (length st.transient) n w)) BadSizes (Ok tt)) Err st (record { reply = Ok tt; store = fresh_store (length st.transient) n w })
unfolding format format_fits fresh_store
format-is st n w = refl

-- ---- the sizes
pub record Fitting (wk l tr : List ℕ) (n w : ℕ) : Type 0 where
  pub sizes : InRange n w
  pub working : length wk ≡ image_words n w
  pub persistent : length l ≡ image_words n w
  pub notes : head_words ≤ length tr

pub fitting : (wk l tr : List ℕ) (n w : ℕ) → format_fits (length wk) (length l) (length tr) n w ≡ true → Fitting wk l tr n w
unfolding format_fits
fitting wk l tr n w e =
    let a = and_right (sizes_ok n w) _ e in
    let b = and_right (eqb (length wk) (image_words n w)) _ a in
    record {
      sizes = sizes-true n w refl (and_left (sizes_ok n w) _ e);
      working = eqb-true _ _ (and_left (eqb (length wk) (image_words n w)) _ a);
      persistent = eqb-true _ _ (and_left (eqb (length l) (image_words n w)) _ b);
      notes = threads-head (length tr) n (and_right (eqb (length l) (image_words n w)) _ b);
    }

pub fit-blanking : {wk l tr : List ℕ} {n w : ℕ} → Fitting wk l tr n w → Blanking tr n
fit-blanking y = record { some = omega (arith, y.sizes.slots-lo); room = y.notes }
