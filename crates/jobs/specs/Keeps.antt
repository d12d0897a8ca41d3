-- 01: "Every refusal leaves both images and the notes unchanged", "Change calls never store into the lasting image": what is said
-- of a call, and that it follows from the shapes that definitions are made of.
use Rattle.std.specs.Prelude.{ℕ, ◌≡◌, refl, Bool, true, false, cond, List, Option, Some, None, Result, Ok, Err}
use Rattle.std.proofs.Common.{arith}
use Rattle.reply.specs.declared.Refusal.{Refusal}
use Rattle.reply.specs.declared.Refusal.TheVariants.{Full}
use Rattle.image.specs.declared.header.Header.{Header}
use Rattle.transient.specs.declared.sizes.Sizes.{Sizes}
use Rattle.transient.specs.Store.{Store, Table, table_of, sizes_of, Outcome, after_check}
use Rattle.transient.specs.Entry.{entry_check}
use Rattle.transient.specs.Calls.{Changed, changed, refused, on_store}
use Rattle.transient.specs.Passed.{in_store}
use Rattle.jobs.specs.Job.{superseded}
use Rattle.jobs.specs.Way.{by_way}
use Rattle.reply.specs.Refusals.{Check}

pub record Keeps (st : Store) (a : Outcome Check) : Type 0 where
  pub when-refused : (r : Refusal) → a.reply ≡ Err r → a.store ≡ st
  pub persistent : a.store.persistent ≡ st.persistent

-- of the part after refusals 1 and 2
pub record KeepsInside (tb : Table) (c : Changed) : Type 0 where
  pub when-refused : (r : Refusal) → c.reply ≡ Err r → c.table ≡ tb

-- ---- by shapes
pub accepted-keeps : (tb : Table) (wk tr : List ℕ) → KeepsInside tb (changed (Ok tt) wk tr)
accepted-keeps tb wk tr = record { when-refused = λ r e. let z : ◌≡◌ {A = ℕ} 0 1 = cc in absurd (omega arith) }

pub refused-keeps : (tb : Table) (r : Refusal) → KeepsInside tb (refused r tb)
refused-keeps tb r = record { when-refused = λ q e. refl }

pub either-keeps : (tb : Table) (b : Bool) (c d : Changed) → KeepsInside tb c → KeepsInside tb d → KeepsInside tb (cond b c d)
either-keeps tb true c d x y = x
either-keeps tb false c d x y = y

pub way-keeps : (tb : Table) (k : Result ℕ Refusal) (next : ℕ → Changed) → ((e : ℕ) → KeepsInside tb (next e)) → KeepsInside tb (by_way k tb next)
way-keeps tb (Ok e) next x = x e
way-keeps tb (Err r) next x = refused-keeps tb r

pub super-keeps : (g : Option ℕ) (z : Sizes) (tb : Table) (e s : ℕ) (h : Header) (key : ℕ) (value : List ℕ) → KeepsInside tb (superseded g z tb e s h key value)
super-keeps (Some f) z tb e s h key value = accepted-keeps tb _ _
super-keeps None z tb e s h key value = refused-keeps tb Full

pub ruleset shapes = (accepted-keeps, refused-keeps, either-keeps, way-keeps, super-keeps)

-- ---- the whole call
after-keeps : (k : Check) (st : Store) (c : Changed) → KeepsInside (table_of st) c → Keeps st (after_check k Err st (in_store st c))
after-keeps (Err q) st c x = record { when-refused = λ r e. refl; persistent = refl }
after-keeps (Ok _) st c x =
    record {
      when-refused = λ r e. let y = x.when-refused r e in λ i. record { working = (y i).working; persistent = st.persistent; transient = (y i).transient };
      persistent = refl;
    }

pub call-keeps : (st : Store) (call : Sizes → Table → Changed) → ((z : Sizes) (tb : Table) → KeepsInside tb (call z tb)) → Keeps st (on_store st call)
call-keeps st call x = after-keeps (entry_check st) st _ (x (sizes_of (table_of st)) (table_of st))
