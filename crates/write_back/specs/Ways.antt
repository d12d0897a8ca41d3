-- The ways of a word written back: a refusal, which changes nothing, or one word past the first three. Working and the notes stay.
use Rattle.std.specs.Prelude.{ℕ, ◌≤◌, ◌≡◌, refl, Bool, true, false, ◌||◌, length, get_or, set, leb, ltb, Ok, Err}
use Rattle.std.proofs.Common.{ltb-false}
use Rattle.search.specs.Bools.{or_left}
use Rattle.reply.specs.declared.Refusal.{Refusal}
use Rattle.reply.specs.declared.Refusal.TheVariants.{NoWord}
use Rattle.reply.specs.Refusals.{Check, refuse}
use Rattle.transient.specs.Store.{Store, table_of, Outcome, outcome, after_check}
use Rattle.transient.specs.Entry.{entry_check}
use Rattle.write_back.specs.WriteBack.{write_back}
use Rattle.write_back.specs.Stages.{write_word, write-back-is}

abbrev pub copied : Store → ℕ → Outcome Check
copied st i = outcome (Ok tt) st.working (set st.persistent i (get_or st.working i 0)) st.transient

pub back-way : (P : Outcome Check → Type 0) (st : Store) (i : ℕ) → ((r : Refusal) → P (record { reply = Err r; store = st }))
    → (3 ≤ i → P (copied st i)) → P (write_back st i)
unfolding write_word
back-way P st i declines copies = rw (write-back-is st i) (go (entry_check st) (ltb i 3 || leb (length st.working) i) refl)
  where
    go : (j : Check) (b : Bool) → ltb i 3 || leb (length st.working) i ≡ b
        → P (after_check j Err st (after_check (refuse b NoWord (Ok tt)) Err st (copied st i)))
    go (Err r) b e = declines r
    go (Ok _) true e = declines NoWord
    go (Ok _) false e = copies (ltb-false i 3 (or_left (ltb i 3) _ e))

pub back-same : (st : Store) (i : ℕ) → table_of (write_back st i).store ≡ table_of st
back-same st i = back-way (λ x. table_of x.store ≡ table_of st) st i (λ r. refl) (λ h. refl)
