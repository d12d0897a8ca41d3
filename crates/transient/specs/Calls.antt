-- A call on the working image and the notes. 01: "Change calls never store into the lasting image."
use Rattle.std.specs.Prelude.{ℕ, List, Ok, Err}
use Rattle.reply.specs.declared.Refusal.{Refusal}
use Rattle.reply.specs.Refusals.{Check, refusal_number, by_check}
use Rattle.transient.specs.declared.sizes.Sizes.{Sizes}
use Rattle.transient.specs.Store.{Store, Table, table, table_of, sizes_of, Outcome, outcome, after_check}
use Rattle.transient.specs.Entry.{entry_check}

pub record Changed : Type 0 where
  pub reply : Check
  pub table : Table

abbrev pub changed : Check → List ℕ → List ℕ → Changed
changed r wk tr = record { reply = r; table = table wk tr }

-- "Every refusal leaves both images and the notes unchanged"
abbrev pub refused : Refusal → Table → Changed
refused r tb = record { reply = Err r; table = tb }

abbrev pub accepted : Table → Changed
accepted tb = record { reply = Ok tt; table = tb }

-- a call: refusals 1 and 2, then its own part, which is told the sizes
abbrev pub on_store : Store → (Sizes → Table → Changed) → Outcome Check
on_store st call =
    let ch = call (sizes_of (table_of st)) (table_of st) in
    after_check (entry_check st) Err st (outcome ch.reply ch.table.working st.persistent ch.table.transient)

-- the reply's number: 0 for accepted
abbrev pub check_number : Check → ℕ
check_number k = by_check k refusal_number 0
