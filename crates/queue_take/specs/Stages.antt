-- Take in the stages of its code: with what the look-up found, within an open operation, with the sizes.
use Rattle.reply.specs.declared.Refusal.{Refusal}
use Rattle.std.specs.Prelude.{ℕ, false, Option, Result}
use Rattle.reply.specs.declared.Refusal.TheVariants.{QueueEmpty}
use Rattle.image.specs.Layout.{key_at}
use Rattle.transient.specs.declared.sizes.Sizes.{Sizes}
use Rattle.transient.specs.Store.{Table}
use Rattle.transient.specs.Calls.{Changed, refused}
use Rattle.table.specs.Find.{by_lookup}
use Rattle.jobs.specs.Way.{way_in, by_way}
use Rattle.job_delete.specs.Delete.{delete_at}
use Rattle.queue.specs.Front.{front_lookup}

abbrev pub take_looked : Result (Option ℕ) Refusal → Sizes → Table → ℕ → Changed
take_looked k z tb e = by_lookup k (λ r. refused r tb) (λ s. delete_at z tb e s (key_at tb.working z.n z.w s)) (refused QueueEmpty tb)

unfoldable pub take_open : Sizes → Table → ℕ → Changed
take_open z tb e = take_looked (front_lookup z tb e) z tb e

unfoldable pub take_sized : ℕ → Sizes → Table → Changed
take_sized thread z tb = by_way (way_in z tb.transient thread false) tb (take_open z tb)
