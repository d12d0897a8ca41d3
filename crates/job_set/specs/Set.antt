-- 01: "Set on a payload labelled e rewrites the value in its slot. On an older one it takes a free slot for an UPDATE (label e,
-- same uid and key) and retires the old one in e."
use Rattle.std.specs.Prelude.{ℕ, ◌+◌, ◌-◌, Bool, cond, ◌&&◌, List, get_or, eqb, Ok}
use Rattle.search.specs.Some.{every}
use Rattle.reply.specs.declared.Refusal.TheVariants.{NoJob}
use Rattle.image.specs.Layout.{contents_at, header, value_at, updated_header}
use Rattle.image.specs.Line.{store_line}
use Rattle.transient.specs.declared.sizes.Sizes.{Sizes}
use Rattle.transient.specs.Layout.{set_waiting}
use Rattle.transient.specs.Store.{Store, Table, Outcome}
use Rattle.transient.specs.Calls.{Changed, changed, accepted, refused, check_number}
use Rattle.table.specs.Find.{room}
use Rattle.jobs.specs.Job.{Job, bad_job, superseded}
use Rattle.jobs.specs.Way.{on_job}
use Rattle.reply.specs.Refusals.{Check}

-- the live slot s: in place, or by a new version
unfoldable pub set_at : Sizes → Table → ℕ → ℕ → Job → Changed
set_at z tb e s j =
    cond (eqb (header tb.working s).epoch e)
    (changed (Ok tt) (store_line tb.working (record { at = contents_at z.n z.w s + 1; words = j.value })) (set_waiting tb.transient e s))
    (superseded (room z tb 2) z tb e s (updated_header e (header tb.working s)) j.key j.value)

-- "the new value equals the present one": each of its V words, in working
unfoldable pub same_value : Sizes → List ℕ → ℕ → List ℕ → Bool
same_value z wk s value = every (λ i. eqb (get_or value i 0) (get_or (value_at wk z.n z.w s) i 0)) (z.w - 1)

-- 02, No. 8: "A set that would give 13 is now accepted when the new value equals the present one. It then changes no image and no note."
unfoldable pub set_live : Sizes → Table → ℕ → ℕ → Job → Changed
set_live z tb e s j =
    let o = set_at z tb e s j in cond (eqb (check_number o.reply) 13 && same_value z tb.working s j.value) (accepted tb) o

-- 10: "no live job of that key"
unfoldable pub set_job : Store → ℕ → Job → Outcome Check
set_job st thread j = on_job st thread j.key (λ z. bad_job z j) (λ z tb e s. set_live z tb e s j) (λ z tb e. refused NoJob tb)
