-- A job as a call is given it, and how a first version, a later one or an anti-payload takes a slot.
use Rattle.std.specs.Prelude.{ℕ, ◌+◌, ◌-◌, Bool, not, ◌||◌, List, ◌∷◌, length, eqb, Option, Ok}
use Rattle.search.specs.First.{where_found}
use Rattle.reply.specs.declared.Refusal.TheVariants.{Full}
use Rattle.image.specs.declared.header.Header.{Header}
use Rattle.image.specs.Layout.{fresh_header}
use Rattle.image.specs.declared.name.Name.{Name}
use Rattle.image.specs.Name.{name_of}
use Rattle.transient.specs.declared.sizes.Sizes.{Sizes}
use Rattle.transient.specs.Layout.{note, next_uid_at, set_note, set_retired}
use Rattle.transient.specs.Store.{Table, table}
use Rattle.transient.specs.Calls.{Changed, changed, refused}
use Rattle.table.specs.Fill.{filled_slot, taken}

pub record Job : Type 0 where
  pub key : ℕ
  pub value : List ℕ

abbrev pub job : ℕ → List ℕ → Job
job key value = record { key = key; value = value }

-- 8: "key 0; for new and set, value length not V"
unfoldable pub bad_job : Sizes → Job → Bool
bad_job z j = eqb j.key 0 || not (eqb (length j.value) (z.w - 1))

-- "New takes a free slot: ALLOC, label e, the next uid.": slot s holds the first version of what has that name;
-- "N contents of W words: key, then V = W − 1 value words."
unfoldable pub made : Sizes → Table → ℕ → ℕ → Name → List ℕ → Table
made z tb e s name value =
    table (filled_slot z tb.working s (fresh_header e (note next_uid_at tb.transient) name.board) (name.key ∷ value))
    (set_note next_uid_at (taken z tb.transient e s name) (note next_uid_at tb.transient + 1))

-- 13 where no slot is found; else the slot f is filled, and the old one "retires .. in e"
abbrev pub superseded : Option ℕ → Sizes → Table → ℕ → ℕ → Header → ℕ → List ℕ → Changed
superseded found z tb e s h key value =
    where_found found (λ f. changed (Ok tt) (filled_slot z tb.working f h (key ∷ value)) (set_retired z (taken z tb.transient e f (name_of h.board key)) s e))
    (refused Full tb)
