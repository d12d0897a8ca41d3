-- Format writes both images and the notes, or none of them.
use Rattle.std.specs.Prelude.{ℕ, ◌≡◌, refl, Bool, true, false, not, length, Ok, Err}
use Rattle.std.proofs.Common.{arith}
use Rattle.reply.specs.declared.Refusal.{Refusal}
use Rattle.reply.specs.declared.Refusal.TheVariants.{BadSizes}
use Rattle.reply.specs.Refusals.{Check, refuse}
use Rattle.transient.specs.Store.{Store, Outcome, after_check}
use Rattle.format.specs.Format.{format}
use Rattle.format.specs.Requires.{format_fits, fresh_store}

pub format-keeps : (st : Store) (n w : ℕ) (r : Refusal) → (format st n w).reply ≡ Err r → (format st n w).store ≡ st
unfolding format format_fits fresh_store
format-keeps st n w r e = go (format_fits (length st.working) (length st.persistent) (length st.transient) n w) e
  where
    whole : Bool → Outcome Check
    whole b = after_check (refuse (not b) BadSizes (Ok tt)) Err st (record { reply = Ok tt; store = fresh_store (length st.transient) n w })

    go : (b : Bool) → (whole b).reply ≡ Err r → (whole b).store ≡ st
    go true q = let z : ◌≡◌ {A = ℕ} 0 1 = cc in absurd (omega arith)
    go false q = refl
