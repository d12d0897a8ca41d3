-- The ways of an advance call: a refusal, which changes nothing, or its step.
use Rattle.std.specs.Prelude.{◌≡◌, refl, Result, Ok, Err}
use Rattle.reply.specs.declared.Refusal.{Refusal}
use Rattle.image.specs.Layout.{clock_of}
use Rattle.transient.specs.Store.{Store, table_of, sizes_of, Outcome, after_check}
use Rattle.transient.specs.Entry.{entry_check}
use Rattle.step.specs.declared.Advance.{Advance}
use Rattle.step.specs.Step.{Stepped, step}
use Rattle.advance.specs.Advance.{noted, advance}
use Rattle.advance.specs.Stages.{held_check, advance_sized, advance-is, noted_place}
use Rattle.reply.specs.Refusals.{Check}

-- its step, at the store's own sizes and clock
unfoldable pub next_step : Store → Stepped
next_step st = step (sizes_of (table_of st)) st (clock_of st.working) (noted_place st.transient)

pub advance-way : (P : Outcome (Result Advance Refusal) → Type 0) (st : Store) → ((r : Refusal) → P (record { reply = Err r; store = st }))
    → (entry_check st ≡ Ok tt → held_check (sizes_of (table_of st)) st.transient (clock_of st.working) ≡ Ok tt → P (noted (next_step st))) → P (advance st)
unfolding advance_sized next_step
advance-way P st declines goes = rw (advance-is st) (go (entry_check st) refl (held_check (sizes_of (table_of st)) st.transient (clock_of st.working)) refl)
  where
    go : (j : Check) → entry_check st ≡ j → (k : Check) → held_check (sizes_of (table_of st)) st.transient (clock_of st.working) ≡ k
        → P (after_check j Err st (after_check k Err st (noted (next_step st))))
    go (Err r) a k b = declines r
    go (Ok _) a (Err r) b = declines r
    go (Ok _) a (Ok _) b = goes a b
