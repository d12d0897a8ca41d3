-- A store: the two images and the notes; what a call works on, answers and leaves.
use Rattle.std.specs.Prelude.{ℕ, List, length}
use Rattle.reply.specs.declared.Refusal.{Refusal}
use Rattle.reply.specs.Refusals.{Check, by_check}
use Rattle.image.specs.Layout.{slots_of, width_of}
use Rattle.transient.specs.declared.sizes.Sizes.{Sizes}
use Rattle.transient.specs.Layout.{threads_of}

pub record Store : Type 0 where
  pub working : List ℕ
  pub persistent : List ℕ
  pub transient : List ℕ

abbrev pub store : List ℕ → List ℕ → List ℕ → Store
store wk l tr = record { working = wk; persistent = l; transient = tr }

-- what a call on jobs works on
pub record Table : Type 0 where
  pub working : List ℕ
  pub transient : List ℕ

abbrev pub table : List ℕ → List ℕ → Table
table wk tr = record { working = wk; transient = tr }

abbrev pub table_of : Store → Table
table_of st = table st.working st.transient

-- N and W as the working image has them, and T, which is what the notes' length leaves
unfoldable pub sizes_of : Table → Sizes
sizes_of tb = record { n = slots_of tb.working; w = width_of tb.working; t = threads_of (length tb.transient) (slots_of tb.working) }

-- what a call answers and leaves
pub record Outcome (A : Type 0) : Type 0 where
  pub reply : A
  pub store : Store

abbrev pub outcome : {A : Type 0} → A → List ℕ → List ℕ → List ℕ → Outcome A
outcome r wk l tr = record { reply = r; store = store wk l tr }

-- "Every refusal leaves both images and the notes unchanged"; where the check accepts, what follows
abbrev pub after_check : {A : Type 0} → Check → (Refusal → A) → Store → Outcome A → Outcome A
after_check k decline st next = by_check k (λ r. record { reply = decline r; store = st }) next
