-- What every call of an open operation asks first, and how new, set, delete and take go on.
use Rattle.std.specs.Prelude.{ℕ, Bool, cond, List, leb, eqb, Result, Ok, Err, Option}
use Rattle.reply.specs.declared.Refusal.TheVariants.{NoThread, NotOpen, BadArgument}
use Rattle.image.specs.Name.{job_name}
use Rattle.transient.specs.declared.sizes.Sizes.{Sizes}
use Rattle.transient.specs.Layout.{open_epoch}
use Rattle.transient.specs.Store.{Store, Table, Outcome}
use Rattle.transient.specs.Calls.{Changed, refused, on_store}
use Rattle.table.specs.Find.{by_lookup, lookup}
use Rattle.reply.specs.declared.Refusal.{Refusal}
use Rattle.reply.specs.Refusals.{Check}

-- 5: "thread number not below T"; 7: "no operation open"; 8 where the arguments are bad; else "e the caller's open epoch"
unfoldable pub way_in : Sizes → List ℕ → ℕ → Bool → Result ℕ Refusal
way_in z tr thread bad =
    cond (leb z.t thread) (Err NoThread)
    (cond (eqb (open_epoch tr thread) 0) (Err NotOpen)
    (cond bad (Err BadArgument) (Ok (open_epoch tr thread))))

abbrev pub by_way : Result ℕ Refusal → Table → (ℕ → Changed) → Changed
by_way (Ok e) tb next = next e
by_way (Err r) tb next = refused r tb

-- a change of what is looked up: refusals 1, 2, 5, 7, 8 and 9, then the call's own, told sizes, table and epoch
abbrev pub on_found : Store → ℕ → (Sizes → Bool) → (Sizes → Table → ℕ → Result (Option ℕ) Refusal) → (Sizes → Table → ℕ → ℕ → Changed) → (Sizes → Table → ℕ → Changed) → Outcome Check
on_found st thread bad look live absent =
    on_store st (λ z tb. by_way (way_in z tb.transient thread (bad z)) tb
    (λ e. by_lookup (look z tb e) (λ r. refused r tb) (live z tb e) (absent z tb e)))

-- new, set and delete of a key
abbrev pub on_job : Store → ℕ → ℕ → (Sizes → Bool) → (Sizes → Table → ℕ → ℕ → Changed) → (Sizes → Table → ℕ → Changed) → Outcome Check
on_job st thread key bad live absent = on_found st thread bad (λ z tb e. lookup z tb (job_name key) e) live absent
