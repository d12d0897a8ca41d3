-- 01, "Advance and sync": "One advance call stores one lasting line. For an advance from clock c the order is:"
use Rattle.std.specs.Prelude.{ℕ, ◌+◌, ◌-◌, Bool, not, cond, ◌&&◌, ◌||◌, List, leb, ltb, eqb}
use Rattle.search.specs.First.{first_of, where_found}
use Rattle.image.specs.Layout.{has_zero, is_payload, header, contents, free_header}
use Rattle.image.specs.Line.{header_line, contents_line, clock_line, store_line}
use Rattle.image.specs.Name.{name_at}
use Rattle.transient.specs.declared.sizes.Sizes.{Sizes}
use Rattle.transient.specs.Layout.{retired_in, is_waiting, set_retired, emptied}
use Rattle.transient.specs.Store.{Store, Table, store, table_of}
use Rattle.index.specs.Index.{removed}
use Rattle.step.specs.declared.Place.{Place}
use Rattle.step.specs.declared.Advance.{Advance}
use Rattle.step.specs.declared.Advance.TheVariants.{WentOn, Ticked}

-- ---- "the place an advance has reached"
-- the phases: slots to reclaim; contents next; a header next; only the clock left; in any other none is underway
abbrev pub idle : ℕ
idle = 0

abbrev pub reclaim_next : ℕ
reclaim_next = 1

abbrev pub contents_next : ℕ
contents_next = 2

abbrev pub header_next : ℕ
header_next = 3

abbrev pub clock_next : ℕ
clock_next = 4

abbrev pub place : ℕ → ℕ → Place
place phase slot = record { phase = phase; slot = slot }

-- a step that passes the last slot goes to the next phase at slot 0
unfoldable pub passing : ℕ → ℕ → ℕ → ℕ → Place
passing n s phase next = cond (ltb (s + 1) n) (place phase (s + 1)) (place next 0)

-- what one step leaves
pub record Stepped : Type 0 where
  pub reply : Advance
  pub store : Store
  pub place : Place

abbrev pub stepped : Advance → List ℕ → List ℕ → List ℕ → Place → Stepped
stepped r wk l tr p = record { reply = r; store = store wk l tr; place = p }

-- ---- step 1: "In slot order, each payload retired in c − 2 and each DELETE labelled c − 3 becomes free in both images."
unfoldable pub due : Sizes → Table → ℕ → ℕ → Bool
due z tb c s =
    (is_payload (header tb.working s) && (not (eqb (retired_in z tb.transient s) 0) && eqb (retired_in z tb.transient s + 2) c))
    || (not (has_zero (header tb.working s)) && (eqb (header tb.working s).kind 3 && eqb ((header tb.working s).epoch + 3) c))

-- it is no longer retired, nor in the index
unfoldable pub reclaimed : Sizes → Store → ℕ → Stepped
reclaimed z st s =
    stepped WentOn (store_line st.working (header_line s free_header)) (store_line st.persistent (header_line s free_header))
    (removed z (set_retired z st.transient s 0) (name_at st.working z.n z.w s) s) (passing z.n s reclaim_next contents_next)

-- ---- step 2: "In slot order, each slot of the waiting list of c − 1: its contents line, then its mark line, as working holds
-- them then."
unfoldable pub contents_flushed : Sizes → Store → ℕ → Stepped
contents_flushed z st s =
    stepped WentOn st.working (store_line st.persistent (contents_line z.n z.w s (contents st.working z.n z.w s))) st.transient
    (place header_next s)

unfoldable pub header_flushed : Sizes → Store → ℕ → Stepped
header_flushed z st s =
    stepped WentOn st.working (store_line st.persistent (header_line s (header st.working s))) st.transient
    (passing z.n s contents_next clock_next)

-- ---- step 3: "The clock becomes c + 1 in both images and that list is emptied."
unfoldable pub ticking : Sizes → Store → ℕ → Stepped
ticking z st c =
    stepped Ticked (store_line st.working (clock_line (c + 1))) (store_line st.persistent (clock_line (c + 1)))
    (emptied st.transient (c - 1)) (place idle 0)

-- ---- the next line, from a place on
unfoldable pub flush_from : Sizes → Store → ℕ → ℕ → Stepped
flush_from z st c p = where_found (first_of (λ s. leb p s && is_waiting st.transient (c - 1) s) z.n) (contents_flushed z st) (ticking z st c)

unfoldable pub reclaim_from : Sizes → Store → ℕ → ℕ → Stepped
reclaim_from z st c p = where_found (first_of (λ s. leb p s && due z (table_of st) c s) z.n) (reclaimed z st) (flush_from z st c 0)

-- one step from a place; where none is underway an advance begins
unfoldable pub step : Sizes → Store → ℕ → Place → Stepped
step z st c p =
    cond (eqb p.phase reclaim_next) (reclaim_from z st c p.slot)
    (cond (eqb p.phase contents_next) (flush_from z st c p.slot)
    (cond (eqb p.phase header_next) (header_flushed z st p.slot)
    (cond (eqb p.phase clock_next) (ticking z st c)
    (reclaim_from z st c 0))))
