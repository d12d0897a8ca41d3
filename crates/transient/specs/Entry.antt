-- 01, "Where each call can decline": refusals 1 and 2 of every call but fresh and recover.
use Rattle.std.specs.Prelude.{ℕ, ◌+◌, Bool, not, ◌&&◌, ◌||◌, List, length, ◌==◌, nat_le, nat_lt, Ok}
use Rattle.search.specs.Some.{every}
use Rattle.reply.specs.declared.Refusal.TheVariants.{BadSizes, BadClock}
use Rattle.reply.specs.Refusals.{Check, refuse}
use Rattle.image.specs.Layout.{most_number, slots_of, width_of, clock_of, shape_ok, clock_ok}
use Rattle.transient.specs.Layout.{threads_ok, note, slots_at, last_at, next_uid_at, next_order_at, place_at, open_epoch}
use Rattle.transient.specs.Store.{Store, table_of, sizes_of}

-- 1: "N, W or T outside its range; image length wrong; the images or notes differ in sizes;"
unfoldable pub images_fit : List ℕ → List ℕ → Bool
images_fit wk l = shape_ok wk && (shape_ok l && (slots_of l == slots_of wk && width_of l == width_of wk))

-- "a next uid outside 1 to 4,000,000,001"; 02, No. 3: "1 and 12 judge the next order number as the next uid"
unfoldable pub next_ok : ℕ → Bool
next_ok x = nat_le 1 x && nat_le x (most_number + 1)

-- "a note naming a slot not below N, or a next uid" or order number out of range
unfoldable pub notes_fit : List ℕ → ℕ → Bool
notes_fit tr n = note slots_at tr == n && (nat_lt (note last_at tr) n && (nat_lt (note place_at tr) n
    && (next_ok (note next_uid_at tr) && next_ok (note next_order_at tr))))

-- 2: "an open epoch that is neither the clock nor one below it"
unfoldable pub opens_ok : List ℕ → ℕ → ℕ → Bool
opens_ok tr t c = every (λ thread. (open_epoch tr thread == 0) || (open_epoch tr thread == c || open_epoch tr thread + 1 == c)) t

-- "clock outside 2 to 4,000,000,000; .. the two clocks unequal"
unfoldable pub entry_check : Store → Check
entry_check st =
    let wk = st.working in let l = st.persistent in let tr = st.transient in
    refuse (not (images_fit wk l && (threads_ok (length tr) (slots_of wk) && notes_fit tr (slots_of wk)))) BadSizes
    (refuse (not (clock_ok (clock_of wk) && (clock_of l == clock_of wk && opens_ok tr (sizes_of (table_of st)).t (clock_of wk)))) BadClock (Ok tt))
