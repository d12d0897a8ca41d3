-- A declined append changes nothing, and append never stores into the persistent image.
use Rattle.std.specs.Prelude.{ℕ, ◌≡◌, List, Option, Some, None, Result, Ok, Err}
use Rattle.std.proofs.Common.{ap, arith}
use Rattle.reply.specs.declared.Refusal.{Refusal}
use Rattle.reply.specs.declared.Refusal.TheVariants.{Full}
use Rattle.reply.specs.Refusals.{Check, by_check}
use Rattle.transient.specs.declared.sizes.Sizes.{Sizes}
use Rattle.transient.specs.Layout.{note, next_order_at}
use Rattle.transient.specs.Store.{Store, Table, Outcome}
use Rattle.jobs.specs.Keeps.{Keeps, KeepsInside, accepted-keeps, refused-keeps, shapes, call-keeps}
use Rattle.queue_append.specs.Append.{append_open, append_entry}
use Rattle.queue_append.specs.Stages.{append_at, append_in, append-open-is, append_sized, numbering, append-entry-is}

pub record AppendKeeps (st : Store) (a : Outcome (Result ℕ Refusal)) : Type 0 where
  pub when-declined : (r : Refusal) → a.reply ≡ Err r → a.store ≡ st
  pub persistent : a.store.persistent ≡ st.persistent

module _ (z : Sizes) (tb : Table) (e : ℕ) (value : List ℕ) where
  in-keeps : (g : Option ℕ) → KeepsInside tb (append_in g z tb e value)
  unfolding append_at
  in-keeps (Some s) = accepted-keeps tb _ _
  in-keeps None = refused-keeps tb Full

  open-keeps : KeepsInside tb (append_open z tb value e)
  open-keeps = rw (append-open-is z tb value e) (search (shapes, in-keeps))

sized-keeps : (thread : ℕ) (value : List ℕ) (z : Sizes) (tb : Table) → KeepsInside tb (append_sized thread value z tb)
unfolding append_sized
sized-keeps thread value z tb = search (shapes, open-keeps)

-- ---- the reply
declined-refused : (k : Check) (order : ℕ) (r : Refusal) → by_check k Err (Ok order) ≡ Err r → k ≡ Err r
declined-refused (Ok _) order r e = let z : ◌≡◌ {A = ℕ} 0 1 = cc in absurd (omega arith)
declined-refused (Err q) order r e = let x : q ≡ r = cc in ap Err x

numbering-keeps : (st : Store) (order : ℕ) (o : Outcome Check) → Keeps st o → AppendKeeps st (numbering order o)
numbering-keeps st order o y =
    record { when-declined = λ r e. y.when-refused r (declined-refused o.reply order r e); persistent = y.persistent }

pub append-keeps : (st : Store) (thread : ℕ) (value : List ℕ) → AppendKeeps st (append_entry st thread value)
append-keeps st thread value =
    rw (append-entry-is st thread value)
    (numbering-keeps st (note next_order_at st.transient) _ (call-keeps st (append_sized thread value) (sized-keeps thread value)))
