-- 01: "The memory may copy any mark or contents line from working to lasting at any moment outside a call ..; a call stands for this."
-- 02, No. 4: "the memory may copy single words on its own; the call for this now takes the word's position in the image, from 0"
use Rattle.std.specs.Prelude.{ℕ, ◌||◌, length, get_or, set, leb, ltb, Ok, Err}
use Rattle.reply.specs.declared.Refusal.TheVariants.{NoWord}
use Rattle.reply.specs.Refusals.{Check, refuse, by_check}
use Rattle.transient.specs.Store.{Store, Outcome, outcome, after_check}
use Rattle.transient.specs.Entry.{entry_check}

-- "16 is now given for a word outside the marks and contents"; else that word, as working holds it
unfoldable pub write_back : Store → ℕ → Outcome Check
write_back st i =
    let wk = st.working in
    after_check (by_check (entry_check st) Err (refuse (ltb i 3 || leb (length wk) i) NoWord (Ok tt))) Err st
    (outcome (Ok tt) wk (set st.persistent i (get_or wk i 0)) st.transient)
