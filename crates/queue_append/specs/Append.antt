-- 02, No. 3: "append at the back". "The key is an order number given by the store and returned by append, 1 first and one more at
-- each append".
use Rattle.std.specs.Prelude.{ℕ, ◌+◌, ◌-◌, not, cond, ◌||◌, List, length, ltb, eqb, Result, Ok, Err}
use Rattle.search.specs.First.{where_found}
use Rattle.search.specs.Some.{any_of}
use Rattle.reply.specs.declared.Refusal.TheVariants.{Newer, NoUid, Full}
use Rattle.reply.specs.Refusals.{declined_number, by_check}
use Rattle.image.specs.Layout.{most_number}
use Rattle.image.specs.Name.{entry_name}
use Rattle.transient.specs.declared.sizes.Sizes.{Sizes}
use Rattle.transient.specs.Layout.{note, next_uid_at, next_order_at, set_note}
use Rattle.transient.specs.Store.{Store, Table, table, Outcome}
use Rattle.transient.specs.Calls.{Changed, refused, accepted, on_store}
use Rattle.table.specs.Find.{room}
use Rattle.jobs.specs.Job.{made}
use Rattle.jobs.specs.Way.{way_in, by_way}
use Rattle.queue.specs.Front.{entry_newer_at}
use Rattle.reply.specs.declared.Refusal.{Refusal}

-- 9; 12: "append gives 12", "judge the next order number as the next uid"; 13: "Append needs two free slots"; else an entry of the
-- next order number, which goes up by one
unfoldable pub append_open : Sizes → Table → List ℕ → ℕ → Changed
append_open z tb value e =
    let order = note next_order_at tb.transient in
    cond (any_of (entry_newer_at tb.working e) z.n) (refused Newer tb)
    (cond (ltb most_number (note next_uid_at tb.transient) || ltb most_number order) (refused NoUid tb)
    (where_found (room z tb 2)
    (λ s. accepted (table (made z tb e s (entry_name order) value).working (set_note next_order_at (made z tb e s (entry_name order) value).transient (order + 1))))
    (refused Full tb)))

-- "8 for the value length"; the reply is the number that the entry was given
unfoldable pub append_entry : Store → ℕ → List ℕ → Outcome (Result ℕ Refusal)
append_entry st thread value =
    let o = on_store st (λ z tb. by_way (way_in z tb.transient thread (not (eqb (length value) (z.w - 1)))) tb (append_open z tb value)) in
    record { reply = by_check o.reply Err (Ok (note next_order_at st.transient)); store = o.store }

-- for C: the order number, or 2^32 plus the refusal
abbrev pub append_number : Result ℕ Refusal → ℕ
append_number (Ok order) = order
append_number (Err r) = declined_number r
