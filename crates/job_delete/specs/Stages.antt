-- Delete in the stages of its code: the three ways at the live slot, with what the look-up found, within an open operation, with
-- the sizes.
use Rattle.reply.specs.declared.Refusal.{Refusal}
use Rattle.std.specs.Prelude.{ℕ, ◌-◌, ◌≡◌, refl, cond, replicate, eqb, Ok, Option, Result}
use Rattle.reply.specs.declared.Refusal.TheVariants.{NoJob}
use Rattle.image.specs.Layout.{header, free_header, anti_header}
use Rattle.image.specs.Line.{header_line, store_line}
use Rattle.image.specs.Name.{job_name, name_of}
use Rattle.transient.specs.declared.sizes.Sizes.{Sizes}
use Rattle.transient.specs.Layout.{set_waiting}
use Rattle.transient.specs.Store.{Table}
use Rattle.transient.specs.Calls.{Changed, changed, refused}
use Rattle.table.specs.Find.{by_lookup, lookup, room}
use Rattle.table.specs.Fill.{freed}
use Rattle.jobs.specs.Job.{superseded}
use Rattle.jobs.specs.Way.{way_in, by_way}
use Rattle.job_delete.specs.Delete.{delete_at}

-- an ALLOC labelled e
unfoldable pub freed_at : Sizes → Table → ℕ → ℕ → ℕ → Changed
freed_at z tb e s key =
    changed (Ok tt) (store_line tb.working (header_line s free_header)) (freed z tb.transient e s (name_of (header tb.working s).board key))

-- an UPDATE labelled e
unfoldable pub turned : Sizes → Table → ℕ → ℕ → Changed
turned z tb e s =
    changed (Ok tt) (store_line tb.working (header_line s (anti_header e (header tb.working s)))) (set_waiting tb.transient e s)

-- an older payload
unfoldable pub covered : Sizes → Table → ℕ → ℕ → ℕ → Changed
covered z tb e s key =
    superseded (room z tb 1) z tb e s (anti_header e (header tb.working s)) key (replicate (z.w - 1) 0)

pub delete-at-is : (z : Sizes) (tb : Table) (e s key : ℕ)
    → delete_at z tb e s key ≡ cond (eqb (header tb.working s).epoch e) (cond (eqb (header tb.working s).kind 1) (freed_at z tb e s key) (turned z tb e s)) (covered z tb e s key)
unfolding delete_at freed_at turned covered
delete-at-is z tb e s key = refl

abbrev pub delete_looked : Result (Option ℕ) Refusal → Sizes → Table → ℕ → ℕ → Changed
delete_looked k z tb e key = by_lookup k (λ r. refused r tb) (λ s. delete_at z tb e s key) (refused NoJob tb)

unfoldable pub delete_open : Sizes → Table → ℕ → ℕ → Changed
delete_open z tb key e = delete_looked (lookup z tb (job_name key) e) z tb e key

unfoldable pub delete_sized : ℕ → ℕ → Sizes → Table → Changed
delete_sized thread key z tb = by_way (way_in z tb.transient thread (eqb key 0)) tb (delete_open z tb key)
