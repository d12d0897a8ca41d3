-- Begin and end with the sizes, as their code is told them.
use Rattle.std.specs.Prelude.{ℕ, not, false, cond, leb, eqb, Ok}
use Rattle.reply.specs.declared.Refusal.TheVariants.{NoThread, AlreadyOpen}
use Rattle.image.specs.Layout.{clock_of}
use Rattle.transient.specs.declared.sizes.Sizes.{Sizes}
use Rattle.transient.specs.Layout.{open_epoch, set_open}
use Rattle.transient.specs.Store.{Table}
use Rattle.transient.specs.Calls.{Changed, changed, refused}
use Rattle.jobs.specs.Way.{way_in, by_way}

unfoldable pub begin_sized : ℕ → Sizes → Table → Changed
begin_sized thread z tb =
    cond (leb z.t thread) (refused NoThread tb)
    (cond (not (eqb (open_epoch tb.transient thread) 0)) (refused AlreadyOpen tb)
    (changed (Ok tt) tb.working (set_open tb.transient thread (clock_of tb.working))))

unfoldable pub end_sized : ℕ → Sizes → Table → Changed
end_sized thread z tb = by_way (way_in z tb.transient thread false) tb (λ e. changed (Ok tt) tb.working (set_open tb.transient thread 0))
