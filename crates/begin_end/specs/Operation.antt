-- 01: "Begin opens an operation in the clock's epoch; end closes it."
use Rattle.std.specs.Prelude.{ℕ, not, false, cond, leb, eqb, Ok}
use Rattle.reply.specs.declared.Refusal.TheVariants.{NoThread, AlreadyOpen}
use Rattle.image.specs.Layout.{clock_of}
use Rattle.transient.specs.Layout.{open_epoch, set_open}
use Rattle.transient.specs.Store.{Store, Outcome}
use Rattle.transient.specs.Calls.{changed, refused, on_store}
use Rattle.jobs.specs.Way.{way_in, by_way}
use Rattle.reply.specs.Refusals.{Check}

-- 5: "thread number not below T"; 6: "operation already open"
unfoldable pub begin : Store → ℕ → Outcome Check
begin st thread =
    on_store st (λ z tb. cond (leb z.t thread) (refused NoThread tb)
    (cond (not (eqb (open_epoch tb.transient thread) 0)) (refused AlreadyOpen tb)
    (changed (Ok tt) tb.working (set_open tb.transient thread (clock_of tb.working)))))

-- 5; 7: "no operation open"
unfoldable pub end : Store → ℕ → Outcome Check
end st thread =
    on_store st (λ z tb. by_way (way_in z tb.transient thread false) tb (λ e. changed (Ok tt) tb.working (set_open tb.transient thread 0)))
