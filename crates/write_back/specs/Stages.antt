-- The call cut as its code is cut: what is left of it past refusals 1 and 2, and that the call is made of it.
use Rattle.std.specs.Prelude.{ℕ, ◌≡◌, ◌||◌, length, get_or, set, leb, ltb, Ok, Err}
use Rattle.reply.specs.declared.Refusal.TheVariants.{NoWord}
use Rattle.reply.specs.Refusals.{Check, refuse}
use Rattle.transient.specs.Store.{Store, Outcome, outcome, after_check}
use Rattle.transient.specs.Entry.{entry_check}
use Rattle.transient.specs.Passed.{two-checks}
use Rattle.write_back.specs.WriteBack.{write_back}

unfoldable pub write_word : Store → ℕ → Outcome Check
write_word st i =
    after_check (refuse (ltb i 3 || leb (length st.working) i) NoWord (Ok tt)) Err st
    (outcome (Ok tt) st.working (set st.persistent i (get_or st.working i 0)) st.transient)

pub write-back-is : (st : Store) (i : ℕ) → write_back st i ≡ after_check (entry_check st) Err st (write_word st i)
unfolding write_back write_word
write-back-is st i = two-checks (entry_check st) _ Err st _
