-- 02, No. 3: "look follows the rules of read": the front's value as a part of the working image, with no need of an open operation.
use Rattle.std.specs.Prelude.{ℕ, cond, leb, Result, Ok, Err}
use Rattle.reply.specs.declared.Refusal.TheVariants.{NoThread, QueueEmpty}
use Rattle.reply.specs.Refusals.{by_check}
use Rattle.transient.specs.declared.sizes.Sizes.{Sizes}
use Rattle.transient.specs.Layout.{open_epoch}
use Rattle.transient.specs.Store.{Store, Table, table_of, sizes_of}
use Rattle.transient.specs.Entry.{entry_check}
use Rattle.table.specs.Find.{by_lookup}
use Rattle.queue.specs.Front.{front_lookup}
use Rattle.reply.specs.declared.Refusal.{Refusal}

-- 5, then 9 and 17
unfoldable pub look_sized : ℕ → Sizes → Table → Result ℕ Refusal
look_sized thread z tb =
    cond (leb z.t thread) (Err NoThread)
    (by_lookup (front_lookup z tb (open_epoch tb.transient thread)) Err Ok (Err QueueEmpty))

unfoldable pub look_entry : Store → ℕ → Result ℕ Refusal
look_entry st thread = by_check (entry_check st) Err (look_sized thread (sizes_of (table_of st)) (table_of st))
