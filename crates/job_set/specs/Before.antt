-- 02, No. 8: "Every set accepted today keeps its reply and effect." The definition of before the request, and the law over both.
use Rattle.std.specs.Prelude.{ℕ, ◌≡◌, refl, ◌≢◌, ◌⊎◌, Result, Ok, Err, Option, Some, None}
use Rattle.std.proofs.Common.{inl, inr, arith}
use Rattle.reply.specs.declared.Refusal.TheVariants.{NoJob}
use Rattle.image.specs.Name.{job_name}
use Rattle.transient.specs.declared.sizes.Sizes.{Sizes}
use Rattle.transient.specs.Store.{Store, Table, table_of, sizes_of, Outcome, after_check}
use Rattle.transient.specs.Entry.{entry_check}
use Rattle.transient.specs.Calls.{Changed, refused, check_number}
use Rattle.transient.specs.Passed.{in_store}
use Rattle.table.specs.Find.{by_lookup, lookup}
use Rattle.jobs.specs.Job.{Job, bad_job}
use Rattle.jobs.specs.Way.{way_in, by_way, on_job}
use Rattle.job_set.specs.Set.{set_at, set_live, set_job}
use Rattle.job_set.specs.Stages.{live-way}
use Rattle.reply.specs.declared.Refusal.{Refusal}
use Rattle.reply.specs.Refusals.{Check}

-- `set_job` as it was
abbrev pub set_before : Store → ℕ → Job → Outcome Check
set_before st thread j = on_job st thread j.key (λ z. bad_job z j) (λ z tb e s. set_at z tb e s j) (λ z tb e. refused NoJob tb)

-- what did not give 13 is as it was; what did is as it was too, or accepted with nothing changed
pub record Widened (st : Store) (before now : Outcome Check) : Type 0 where
  pub kept : check_number before.reply ≢ 13 → now ≡ before
  pub full : check_number before.reply ≡ 13 → (now ≡ before) ⊎ (now ≡ record { reply = Ok tt; store = st })

widened_same : (st : Store) (o : Outcome Check) → Widened st o o
widened_same st o = record { kept = λ _. refl; full = λ _. inl refl }

-- ---- at the live slot, by what the look-up found, and the whole call
module _ (st : Store) (j : Job) where
  abbrev tb : Table
  tb = table_of st

  abbrev z : Sizes
  z = sizes_of tb

  live-widened : (e s : ℕ) → Widened st (in_store st (set_at z tb e s j)) (in_store st (set_live z tb e s j))
  live-widened e s =
      live-way (λ c. Widened st (in_store st (set_at z tb e s j)) (in_store st c)) z tb e s j
      (λ p q. record { kept = λ d. absurd (d p); full = λ _. inr refl })
      (widened_same st _)

  looked-widened : (e : ℕ) (k : Result (Option ℕ) Refusal)
      → Widened st (in_store st (by_lookup k (λ r. refused r tb) (λ s. set_at z tb e s j) (refused NoJob tb)))
      (in_store st (by_lookup k (λ r. refused r tb) (λ s. set_live z tb e s j) (refused NoJob tb)))
  looked-widened e (Err r) = widened_same st _
  looked-widened e (Ok (Some s)) = live-widened e s
  looked-widened e (Ok None) = widened_same st _

  way-widened : (k : Result ℕ Refusal) (f g : ℕ → Changed) → ((e : ℕ) → Widened st (in_store st (f e)) (in_store st (g e))) → Widened st (in_store st (by_way k tb f)) (in_store st (by_way k tb g))
  way-widened (Ok e) f g h = h e
  way-widened (Err r) f g h = widened_same st _

check-widened : (st : Store) (k : Check) (f g : Outcome Check) → Widened st f g → Widened st (after_check k Err st f) (after_check k Err st g)
check-widened st (Ok _) f g h = h
check-widened st (Err r) f g h = widened_same st _

pub set_widened : (st : Store) (thread : ℕ) (j : Job) → Widened st (set_before st thread j) (set_job st thread j)
unfolding set_job
set_widened st thread j =
    check-widened st (entry_check st) _ _ (way-widened st j (way_in (sizes_of (table_of st)) st.transient thread (bad_job (sizes_of (table_of st)) j)) _ _
    (λ e. looked-widened st j e (lookup (sizes_of (table_of st)) (table_of st) (job_name j.key) e)))

-- what was accepted has the same reply and effect
pub accepted-kept : (st : Store) (thread : ℕ) (j : Job) → (set_before st thread j).reply ≡ Ok tt → set_job st thread j ≡ set_before st thread j
accepted-kept st thread j a = (set_widened st thread j).kept (λ q. let y : check_number (Ok tt) ≡ 13 = rw a at q in absurd (omega arith))
