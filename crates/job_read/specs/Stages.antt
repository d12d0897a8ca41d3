-- Read in the stages of its code: past refusals 5 and 8, with the open epoch.
use Rattle.std.specs.Prelude.{ℕ, ◌≡◌, refl, cond, leb, eqb, Result, Ok, Err, Option}
use Rattle.reply.specs.declared.Refusal.TheVariants.{NoThread, BadArgument, NoJob}
use Rattle.image.specs.Name.{job_name}
use Rattle.transient.specs.declared.sizes.Sizes.{Sizes}
use Rattle.transient.specs.Layout.{open_epoch}
use Rattle.transient.specs.Store.{Table}
use Rattle.table.specs.Find.{live_slot, by_lookup, lookup}
use Rattle.job_read.specs.Read.{read_sized}
use Rattle.reply.specs.declared.Refusal.{Refusal}

abbrev pub read_looked : Result (Option ℕ) Refusal → Result ℕ Refusal
read_looked k = by_lookup k Err Ok (Err NoJob)

-- with no operation open refusal 9 is not asked
unfoldable pub read_open : Sizes → Table → ℕ → ℕ → Result ℕ Refusal
read_open z tb key e = read_looked (cond (eqb e 0) (Ok (live_slot z tb (job_name key))) (lookup z tb (job_name key) e))

pub read-sized-is : (thread key : ℕ) (z : Sizes) (tb : Table)
    → read_sized thread key z tb ≡ cond (leb z.t thread) (Err NoThread) (cond (eqb key 0) (Err BadArgument) (read_open z tb key (open_epoch tb.transient thread)))
unfolding read_sized read_open
read-sized-is thread key z tb = refl
