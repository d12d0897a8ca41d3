-- Delete of a job.
use Rattle.std.specs.Prelude.{ℕ, ◌-◌, cond, replicate, eqb, Ok}
use Rattle.reply.specs.declared.Refusal.TheVariants.{NoJob}
use Rattle.image.specs.Layout.{header, free_header, anti_header}
use Rattle.image.specs.Line.{header_line, store_line}
use Rattle.image.specs.Name.{name_of}
use Rattle.transient.specs.declared.sizes.Sizes.{Sizes}
use Rattle.transient.specs.Layout.{set_waiting}
use Rattle.transient.specs.Store.{Store, Table, Outcome}
use Rattle.transient.specs.Calls.{Changed, changed, refused}
use Rattle.table.specs.Find.{room}
use Rattle.table.specs.Fill.{freed}
use Rattle.jobs.specs.Job.{superseded}
use Rattle.jobs.specs.Way.{on_job}
use Rattle.reply.specs.Refusals.{Check}

-- "Delete of an ALLOC labelled e frees the working slot at once. An UPDATE labelled e becomes DELETE in its own slot, contents
-- kept. For an older payload a free slot takes a DELETE (label e, same uid and key, value words 0), and the payload is retired in e."
-- "Every slot that these calls change .. joins the waiting list of e, the slot freed at once included."
unfoldable pub delete_at : Sizes → Table → ℕ → ℕ → ℕ → Changed
delete_at z tb e s key =
    cond (eqb (header tb.working s).epoch e)
    (cond (eqb (header tb.working s).kind 1)
    (changed (Ok tt) (store_line tb.working (header_line s free_header)) (freed z tb.transient e s (name_of (header tb.working s).board key)))
    (changed (Ok tt) (store_line tb.working (header_line s (anti_header e (header tb.working s)))) (set_waiting tb.transient e s)))
    (superseded (room z tb 1) z tb e s (anti_header e (header tb.working s)) key (replicate (z.w - 1) 0))

-- 10
unfoldable pub delete_job : Store → ℕ → ℕ → Outcome Check
delete_job st thread key = on_job st thread key (λ z. eqb key 0) (λ z tb e s. delete_at z tb e s key) (λ z tb e. refused NoJob tb)
