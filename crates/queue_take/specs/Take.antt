-- 02, No. 3: "take follows the rules of delete".
use Rattle.std.specs.Prelude.{ℕ, false}
use Rattle.reply.specs.declared.Refusal.TheVariants.{QueueEmpty}
use Rattle.image.specs.Layout.{key_at}
use Rattle.transient.specs.Store.{Store, Outcome}
use Rattle.transient.specs.Calls.{refused}
use Rattle.jobs.specs.Way.{on_found}
use Rattle.job_delete.specs.Delete.{delete_at}
use Rattle.queue.specs.Front.{front_lookup}
use Rattle.reply.specs.Refusals.{Check}

-- "17 for take and look on an empty queue"
unfoldable pub take_entry : Store → ℕ → Outcome Check
take_entry st thread =
    on_found st thread (λ z. false) front_lookup (λ z tb e s. delete_at z tb e s (key_at tb.working z.n z.w s)) (λ z tb e. refused QueueEmpty tb)
