-- The call cut as its code is cut: what the functions inside answer, and that the call is made of it.
use Rattle.std.specs.Prelude.{ℕ, ◌+◌, ◌*◌, ◌≡◌, Bool, not, ◌&&◌, List, leb, eqb, Result, Ok, Err}
use Rattle.search.specs.Some.{any_of}
use Rattle.reply.specs.declared.Refusal.TheVariants.{StillOpen, LastEpoch}
use Rattle.reply.specs.Refusals.{Check, refuse}
use Rattle.image.specs.Layout.{most_number, clock_of}
use Rattle.transient.specs.declared.sizes.Sizes.{Sizes}
use Rattle.transient.specs.Layout.{note, phase_at, place_at, open_epoch}
use Rattle.transient.specs.Store.{Store, table_of, sizes_of, Outcome, after_check}
use Rattle.transient.specs.Entry.{entry_check}
use Rattle.transient.specs.Passed.{two-checks}
use Rattle.step.specs.declared.Place.{Place}
use Rattle.step.specs.declared.Advance.{Advance}
use Rattle.step.specs.Step.{reclaim_next, clock_next, place, step}
use Rattle.advance.specs.Advance.{noted, advance_check, advance}
use Rattle.reply.specs.declared.Refusal.{Refusal}

-- the lines of one advance at most
abbrev pub most_lines : ℕ → ℕ
most_lines n = 3 * n + 1

-- the place that the notes have
abbrev pub noted_place : List ℕ → Place
noted_place tr = place (note phase_at tr) (note place_at tr)

unfoldable pub underway : List ℕ → Bool
underway tr = leb reclaim_next (note phase_at tr) && leb (note phase_at tr) clock_next

-- an operation open in clock − 1
unfoldable pub open_below : List ℕ → ℕ → ℕ → Bool
open_below tr t c = any_of (λ thread. eqb (open_epoch tr thread + 1) c) t

unfoldable pub held_open : Sizes → List ℕ → ℕ → Bool
held_open z tr c = not (underway tr) && open_below tr z.t c

-- 14 and 15
unfoldable pub held_check : Sizes → List ℕ → ℕ → Check
held_check z tr c = refuse (not (underway tr) && open_below tr z.t c) StillOpen (refuse (eqb c most_number) LastEpoch (Ok tt))

unfoldable pub advance_sized : Sizes → Store → Outcome (Result Advance Refusal)
advance_sized z st =
    after_check (held_check z st.transient (clock_of st.working)) Err st
    (noted (step z st (clock_of st.working) (place (note phase_at st.transient) (note place_at st.transient))))

pub advance-is : (st : Store) → advance st ≡ after_check (entry_check st) Err st (advance_sized (sizes_of (table_of st)) st)
unfolding advance advance_check advance_sized held_check underway open_below
advance-is st = two-checks (entry_check st) _ Err st _

-- ---- operations that an advance or a sync has to wait for
unfoldable pub is_open : List ℕ → ℕ → Bool
is_open tr thread = not (eqb (open_epoch tr thread) 0)

unfoldable pub is_open_below : List ℕ → ℕ → ℕ → Bool
is_open_below tr c thread = eqb (open_epoch tr thread + 1) c

-- any operation open, which holds a sync
unfoldable pub any_open : List ℕ → ℕ → Bool
any_open tr t = any_of (λ thread. not (eqb (open_epoch tr thread) 0)) t
