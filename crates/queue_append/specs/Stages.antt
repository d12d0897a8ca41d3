-- Append in the stages of its code: at a slot, with the slot found, with the sizes, and the number that it gives.
use Rattle.std.specs.Prelude.{ℕ, ◌+◌, ◌-◌, ◌≡◌, refl, Bool, not, cond, ◌||◌, List, length, ltb, eqb, Option, Result, Ok, Err}
use Rattle.search.specs.First.{where_found}
use Rattle.search.specs.Some.{any_of}
use Rattle.reply.specs.declared.Refusal.TheVariants.{Newer, NoUid, Full}
use Rattle.reply.specs.Refusals.{Check, by_check}
use Rattle.image.specs.Layout.{most_number}
use Rattle.image.specs.Name.{entry_name}
use Rattle.transient.specs.declared.sizes.Sizes.{Sizes}
use Rattle.transient.specs.Layout.{note, next_uid_at, next_order_at, set_note}
use Rattle.transient.specs.Store.{Store, Table, table, sizes_of, Outcome}
use Rattle.transient.specs.Calls.{Changed, refused, accepted, on_store}
use Rattle.table.specs.Find.{room}
use Rattle.jobs.specs.Job.{made}
use Rattle.jobs.specs.Way.{way_in, by_way}
use Rattle.queue.specs.Front.{entry_newer_at}
use Rattle.queue_append.specs.Append.{append_open, append_entry}
use Rattle.reply.specs.declared.Refusal.{Refusal}

-- 8
unfoldable pub bad_value : Sizes → List ℕ → Bool
bad_value z value = not (eqb (length value) (z.w - 1))

-- 12
unfoldable pub no_number : List ℕ → Bool
no_number tr = ltb most_number (note next_uid_at tr) || ltb most_number (note next_order_at tr)

-- the slot s holds the entry
unfoldable pub append_at : Sizes → Table → ℕ → ℕ → List ℕ → Changed
append_at z tb e s value =
    let order = note next_order_at tb.transient in
    accepted (table (made z tb e s (entry_name order) value).working (set_note next_order_at (made z tb e s (entry_name order) value).transient (order + 1)))

abbrev pub append_in : Option ℕ → Sizes → Table → ℕ → List ℕ → Changed
append_in f z tb e value = where_found f (λ s. append_at z tb e s value) (refused Full tb)

pub append-open-is : (z : Sizes) (tb : Table) (value : List ℕ) (e : ℕ)
    → append_open z tb value e
    ≡ cond (any_of (entry_newer_at tb.working e) z.n) (refused Newer tb) (cond (no_number tb.transient) (refused NoUid tb) (append_in (room z tb 2) z tb e value))
unfolding append_open append_at no_number
append-open-is z tb value e = refl

unfoldable pub append_sized : ℕ → List ℕ → Sizes → Table → Changed
append_sized thread value z tb = by_way (way_in z tb.transient thread (bad_value z value)) tb (append_open z tb value)

-- ---- the reply: the order number as it stood before, or why there is none
abbrev pub numbering : ℕ → Outcome Check → Outcome (Result ℕ Refusal)
numbering order o = record { reply = by_check o.reply Err (Ok order); store = o.store }

pub append-entry-is : (st : Store) (thread : ℕ) (value : List ℕ) → append_entry st thread value ≡ numbering (note next_order_at st.transient) (on_store st (append_sized thread value))
unfolding append_entry append_sized bad_value
append-entry-is st thread value = refl

-- with the working image and the notes that the call leaves
pub record Appended : Type 0 where
  pub reply : Result ℕ Refusal
  pub table : Table

abbrev pub given : Result ℕ Refusal → List ℕ → List ℕ → Appended
given r wk tr = record { reply = r; table = table wk tr }

unfoldable pub append_given : ℕ → List ℕ → Table → Appended
append_given thread value tb =
    let ch = append_sized thread value (sizes_of tb) tb in
    record { reply = by_check ch.reply Err (Ok (note next_order_at tb.transient)); table = ch.table }
