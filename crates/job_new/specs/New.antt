-- 01: "New takes a free slot: ALLOC, label e, the next uid." 02, No. 2: "the board, 1 for jobs"
use Rattle.std.specs.Prelude.{ℕ, cond, ltb}
use Rattle.search.specs.First.{where_found}
use Rattle.reply.specs.declared.Refusal.TheVariants.{JobExists, NoUid, Full}
use Rattle.image.specs.Layout.{most_number}
use Rattle.image.specs.Name.{job_name}
use Rattle.transient.specs.declared.sizes.Sizes.{Sizes}
use Rattle.transient.specs.Layout.{note, next_uid_at}
use Rattle.transient.specs.Store.{Store, Table, Outcome}
use Rattle.transient.specs.Calls.{Changed, refused, accepted}
use Rattle.table.specs.Find.{room}
use Rattle.jobs.specs.Job.{Job, bad_job, made}
use Rattle.jobs.specs.Way.{on_job}
use Rattle.reply.specs.Refusals.{Check}

-- 12: "next uid above 4,000,000,000"; 13: "table full: too few free slots, where one is needed"; else a slot holds the new job
unfoldable pub new_absent : Sizes → Table → ℕ → Job → Changed
new_absent z tb e j =
    cond (ltb most_number (note next_uid_at tb.transient)) (refused NoUid tb)
    (where_found (room z tb 2) (λ s. accepted (made z tb e s (job_name j.key) j.value)) (refused Full tb))

-- 11: "a live job of that key"
unfoldable pub new_job : Store → ℕ → Job → Outcome Check
new_job st thread j = on_job st thread j.key (λ z. bad_job z j) (λ z tb e s. refused JobExists tb) (λ z tb e. new_absent z tb e j)
