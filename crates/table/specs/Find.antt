-- What a call looks up in the working table.
use Rattle.reply.specs.declared.Refusal.TheVariants.{Newer}
use Rattle.reply.specs.declared.Refusal.{Refusal}
use Rattle.std.specs.Prelude.{ℕ, Bool, not, cond, ◌&&◌, List, leb, ltb, eqb, Option, None, Some, Result, Ok, Err}
use Rattle.search.specs.First.{first_of}
use Rattle.search.specs.Some.{any_of}
use Rattle.search.specs.Count.{count}
use Rattle.search.specs.Ring.{first_round}
use Rattle.image.specs.Layout.{is_filled, is_payload, header}
use Rattle.image.specs.declared.name.Name.{Name}
use Rattle.image.specs.Name.{name_at, same_name}
use Rattle.transient.specs.declared.sizes.Sizes.{Sizes}
use Rattle.transient.specs.Layout.{note, last_at, retired_in}
use Rattle.transient.specs.Store.{Table}
use Rattle.index.specs.Index.{bucket_of, on_chain}

-- refusal 9: "a filled slot with this key is labelled above e"
unfoldable pub newer_at : Sizes → List ℕ → Name → ℕ → ℕ → Bool
newer_at z wk name e s = is_filled (header wk s) && (same_name (name_at wk z.n z.w s) name && ltb e (header wk s).epoch)

-- "A payload is live when its kind is 1 or 2 and it is not retired."
unfoldable pub live_at : Sizes → Table → Name → ℕ → Bool
live_at z tb name s =
    is_payload (header tb.working s) && (eqb (retired_in z tb.transient s) 0 && same_name (name_at tb.working z.n z.w s) name)

-- 02, No. 6: "no read should walk every slot": a name is looked for among the slots on the chain of its bucket
unfoldable pub listed : Sizes → List ℕ → Name → ℕ → Bool
listed z tr name s = on_chain z tr (bucket_of z.n name) s

unfoldable pub newer_on : Sizes → Table → Name → ℕ → ℕ → Bool
newer_on z tb name e s = listed z tb.transient name s && newer_at z tb.working name e s

unfoldable pub live_on : Sizes → Table → Name → ℕ → Bool
live_on z tb name s = listed z tb.transient name s && live_at z tb name s

-- "of several live slots with one key, the lowest"
unfoldable pub live_slot : Sizes → Table → Name → Option ℕ
live_slot z tb name = first_of (live_on z tb name) z.n

-- by what a key finds: a later epoch has it, a live slot holds it, or neither
abbrev pub by_lookup : {A : Type 0} → Result (Option ℕ) Refusal → (Refusal → A) → (ℕ → A) → A → A
by_lookup (Err r) declined live absent = declined r
by_lookup (Ok (Some s)) declined live absent = live s
by_lookup (Ok None) declined live absent = absent

-- refusal 9 first, then the live job
unfoldable pub lookup : Sizes → Table → Name → ℕ → Result (Option ℕ) Refusal
lookup z tb name e = cond (any_of (newer_on z tb name e) z.n) (Err Newer) (Ok (live_slot z tb name))

-- "Calls other than recover take a kind above 3 as free"
unfoldable pub free_at : List ℕ → ℕ → Bool
free_at wk s = not (is_filled (header wk s))

-- "The free slot taken is the first met going up from the slot after the last one taken, round past the end"; k must be free:
-- "New and set need two free slots when they take one, delete needs one"
unfoldable pub room : Sizes → Table → ℕ → Option ℕ
room z tb k =
    cond (leb k (count (free_at tb.working) z.n)) (first_round (free_at tb.working) z.n (note last_at tb.transient) z.n) None
