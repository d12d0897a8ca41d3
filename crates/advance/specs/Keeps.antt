-- 01: "Every refusal leaves both images and the notes unchanged". For an advance that is plain from the definition.
use Rattle.std.specs.Prelude.{ℕ, ◌≡◌, refl, Result, Ok, Err}
use Rattle.std.proofs.Common.{arith}
use Rattle.reply.specs.declared.Refusal.{Refusal}
use Rattle.image.specs.Layout.{clock_of}
use Rattle.transient.specs.Store.{Store, table_of, sizes_of}
use Rattle.transient.specs.Entry.{entry_check}
use Rattle.transient.specs.Passed.{entry-with}
use Rattle.step.specs.declared.Advance.{Advance}
use Rattle.step.specs.Kept.{Kept, step_kept}
use Rattle.advance.specs.Advance.{advance}
use Rattle.advance.specs.Stages.{noted_place}
use Rattle.advance.specs.Ways.{next_step, advance-way}

not-declined : {A : Type 0} {a : Advance} {r : Refusal} → ◌≡◌ {A = Result Advance Refusal} (Ok a) (Err r) → A
not-declined d = let y : ◌≡◌ {A = ℕ} 0 1 = cc in absurd (omega arith)

pub next-kept : (st : Store) → entry_check st ≡ Ok tt → Kept (sizes_of (table_of st)) st (clock_of st.working) (next_step st)
unfolding next_step
next-kept st e =
    let y = entry-with st.working st.persistent st.transient e in
    step_kept _ st _ (omega (arith, y.entered.shaped.working.long)) (omega (arith, y.persistent.long)) (noted_place st.transient)

pub advance-keeps : (st : Store) (r : Refusal) → (advance st).reply ≡ Err r → (advance st).store ≡ st
advance-keeps st r = advance-way (λ x. x.reply ≡ Err r → x.store ≡ st) st (λ q d. refl) (λ a b d. not-declined d)
