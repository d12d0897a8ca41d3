-- Look in the stages of its code: past refusal 5, with the open epoch.
use Rattle.std.specs.Prelude.{ℕ, ◌≡◌, refl, cond, leb, Result, Ok, Err, Option}
use Rattle.reply.specs.declared.Refusal.TheVariants.{NoThread, QueueEmpty}
use Rattle.transient.specs.declared.sizes.Sizes.{Sizes}
use Rattle.transient.specs.Layout.{open_epoch}
use Rattle.transient.specs.Store.{Table}
use Rattle.table.specs.Find.{by_lookup}
use Rattle.queue.specs.Front.{front_lookup}
use Rattle.queue_look.specs.Look.{look_sized}
use Rattle.reply.specs.declared.Refusal.{Refusal}

abbrev pub look_looked : Result (Option ℕ) Refusal → Result ℕ Refusal
look_looked k = by_lookup k Err Ok (Err QueueEmpty)

unfoldable pub look_open : Sizes → Table → ℕ → Result ℕ Refusal
look_open z tb e = look_looked (front_lookup z tb e)

pub look-sized-is : (thread : ℕ) (z : Sizes) (tb : Table)
    → look_sized thread z tb ≡ cond (leb z.t thread) (Err NoThread) (look_open z tb (open_epoch tb.transient thread))
unfolding look_sized look_open
look-sized-is thread z tb = refl
