-- New in the stages of its code: at a slot, with the slot found, with what the look-up found, within an open operation, with the sizes.
use Rattle.reply.specs.declared.Refusal.{Refusal}
use Rattle.std.specs.Prelude.{ℕ, ◌≡◌, refl, cond, ltb, Option, Result}
use Rattle.search.specs.First.{where_found}
use Rattle.reply.specs.declared.Refusal.TheVariants.{JobExists, NoUid, Full}
use Rattle.image.specs.Layout.{most_number}
use Rattle.image.specs.Name.{job_name}
use Rattle.transient.specs.declared.sizes.Sizes.{Sizes}
use Rattle.transient.specs.Layout.{note, next_uid_at}
use Rattle.transient.specs.Store.{Table}
use Rattle.transient.specs.Calls.{Changed, refused, accepted}
use Rattle.table.specs.Find.{by_lookup, lookup, room}
use Rattle.jobs.specs.Job.{Job, bad_job, made}
use Rattle.jobs.specs.Way.{way_in, by_way}
use Rattle.job_new.specs.New.{new_absent}

-- the slot s holds the new job
unfoldable pub new_at : Sizes → Table → ℕ → ℕ → Job → Changed
new_at z tb e s j = accepted (made z tb e s (job_name j.key) j.value)

abbrev pub new_in : Option ℕ → Sizes → Table → ℕ → Job → Changed
new_in f z tb e j = where_found f (λ s. new_at z tb e s j) (refused Full tb)

pub new-absent-is : (z : Sizes) (tb : Table) (e : ℕ) (j : Job)
    → new_absent z tb e j ≡ cond (ltb most_number (note next_uid_at tb.transient)) (refused NoUid tb) (new_in (room z tb 2) z tb e j)
unfolding new_absent new_at
new-absent-is z tb e j = refl

abbrev pub new_looked : Result (Option ℕ) Refusal → Sizes → Table → ℕ → Job → Changed
new_looked k z tb e j = by_lookup k (λ r. refused r tb) (λ s. refused JobExists tb) (new_absent z tb e j)

unfoldable pub new_open : Sizes → Table → Job → ℕ → Changed
new_open z tb j e = new_looked (lookup z tb (job_name j.key) e) z tb e j

unfoldable pub new_sized : ℕ → Job → Sizes → Table → Changed
new_sized thread j z tb = by_way (way_in z tb.transient thread (bad_job z j)) tb (new_open z tb j)
