-- 02, No. 3: "We need a queue as board 2: append at the back, take the front, look at the front." What its calls look up.
use Rattle.reply.specs.declared.Refusal.TheVariants.{Newer}
use Rattle.reply.specs.declared.Refusal.{Refusal}
use Rattle.std.specs.Prelude.{ℕ, Bool, not, cond, ◌&&◌, List, ltb, eqb, Option, Result, Ok, Err}
use Rattle.search.specs.Some.{any_of}
use Rattle.search.specs.Least.{least_of}
use Rattle.image.specs.Layout.{queue_board, is_filled, is_payload, header, key_at}
use Rattle.transient.specs.declared.sizes.Sizes.{Sizes}
use Rattle.transient.specs.Layout.{retired_in}
use Rattle.transient.specs.Store.{Table}

-- refusal 9 of all three: "with an operation open, .. if any filled board 2 slot is labelled above its epoch"; e is 0 for none open
unfoldable pub entry_newer_at : List ℕ → ℕ → ℕ → Bool
entry_newer_at wk e s = is_filled (header wk s) && (eqb (header wk s).board queue_board && (ltb e (header wk s).epoch && not (eqb e 0)))

-- "A payload is live when its kind is 1 or 2 and it is not retired.": an entry of the queue
unfoldable pub entry_at : Sizes → Table → ℕ → Bool
entry_at z tb s =
    is_payload (header tb.working s) && (eqb (retired_in z tb.transient s) 0 && eqb (header tb.working s).board queue_board)

-- "the front is the live entry with the smallest" order number; of several the lowest slot
unfoldable pub front_slot : Sizes → Table → Option ℕ
front_slot z tb = least_of (entry_at z tb) (key_at tb.working z.n z.w) z.n

-- refusal 9 first, then the front
unfoldable pub front_lookup : Sizes → Table → ℕ → Result (Option ℕ) Refusal
front_lookup z tb e = cond (any_of (entry_newer_at tb.working e) z.n) (Err Newer) (Ok (front_slot z tb))
