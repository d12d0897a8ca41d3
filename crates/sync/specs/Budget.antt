-- How many lines a sync can still store: each advance call lowers it, so the calls that the definition of sync allows are enough.
use Prim.Native.Nat.{ℕ, zero, suc, ◌+◌, ◌*◌, ◌≤◌, ◌<◌}
use Rattle.std.specs.Prelude.{◌≡◌, Result, Ok}
use Rattle.std.proofs.Common.{mul-suc, arith}
use Rattle.image.specs.Layout.{slots_of}
use Rattle.transient.specs.Layout.{note, place_at}
use Rattle.transient.specs.Store.{Store, Table, table_of, Outcome}
use Rattle.step.specs.declared.Advance.{Advance}
use Rattle.step.specs.declared.Advance.TheVariants.{WentOn, Ticked}
use Rattle.advance.specs.Stages.{most_lines, noted_place}
use Rattle.advance.specs.Left.{Moves, lines_left, left-top, left-low}
use Rattle.reply.specs.declared.Refusal.{Refusal}

-- the lines that can still come until so many ticks
unfoldable pub budget : Table → ℕ → ℕ
budget tb zero = 0
budget tb (suc k) = lines_left tb + most_lines (slots_of tb.working) * k

-- a sync's calls are enough for two ticks
pub budget-top : (tb : Table) → budget tb 2 ≤ 2 * most_lines (slots_of tb.working)
unfolding budget
budget-top tb = omega (arith, left-top (slots_of tb.working) (noted_place tb.transient))

-- until there was a tick there is a line to come
pub budget-low : (tb : Table) (k : ℕ) → note place_at tb.transient < slots_of tb.working → 1 ≤ budget tb (suc k)
unfolding budget
budget-low tb k h = omega (arith, left-low (slots_of tb.working) (noted_place tb.transient) h)

-- each call lowers it
module _ {st : Store} {x : Outcome (Result Advance Refusal)} (m : Moves st x) (k : ℕ) where
  pub budget-on : x.reply ≡ Ok WentOn → budget (table_of x.store) (suc k) < budget (table_of st) (suc k)
  unfolding budget
  budget-on e = let d = rw m.slots at (m.on e) in rw m.slots (omega arith)

  pub budget-tick : x.reply ≡ Ok Ticked → budget (table_of x.store) k < budget (table_of st) (suc k)
  unfolding budget
  budget-tick e = from k
    where
      n : ℕ
      n = slots_of st.working

      low : 1 ≤ lines_left (table_of st)
      low = (m.tick e).1

      from : (j : ℕ) → budget (table_of x.store) j < budget (table_of st) (suc j)
      from zero = omega (arith, low)
      from (suc j) =
          let more : most_lines n * suc j ≡ most_lines n * j + most_lines n = mul-suc (most_lines n) j in
          rw (m.slots, more) (omega (arith, low, left-top n (noted_place x.store.transient)))
