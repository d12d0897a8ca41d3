-- The invariant of a run: the crash invariant of the store seen as a table, with sizes that never change.
use Rattle.std.specs.Prelude.{ℕ, ◌+◌, ◌≤◌, ◌<◌, ◌≡◌, false}
use mathlib.Core.List.{List, [], Memᴰ}
use Rattle.image.specs.Layout.{most_number, slots_of, width_of, clock_of}
use Rattle.image.specs.Requires.{Sized}
use Rattle.transient.specs.declared.sizes.Sizes.{Sizes}
use Rattle.transient.specs.Layout.{note, next_uid_at, next_order_at, phase_at, place_at, open_epoch}
use Rattle.transient.specs.Requires.{Notes}
use Rattle.transient.specs.Store.{Store}
use Rattle.index.specs.Indexed.{Indexed}
use Rattle.crash.specs.Reference.{Jobs, Fifo}
use Rattle.crash.specs.Slots.{State, Inv}
use Rattle.advance.specs.Stages.{underway}
use Rattle.guarantee.specs.Trace.{Plain, plain, Moment}
use Rattle.guarantee.specs.View.{view, progress}

-- the reference map beside the store that a run begins with
abbrev pub start_of : Store → Moment
start_of st = record { store = st; plain = plain (clock_of st.persistent) (λ _. 0) [] [] [] }

-- the clock is the reference map's: that both images have it is a line of the invariant
abbrev pub state_of : Sizes → Jobs → Store → Plain → State
state_of sz start st p =
    record {
      slots = view st sz p.clock;
      clock = p.clock;
      uid = note next_uid_at st.transient;
      order = note next_order_at st.transient;
      place = progress sz.n (note phase_at st.transient) (note place_at st.transient);
      start = start;
      row = p.row;
    }

-- J7: an image of n slots and w words, with the clock
pub record Image (sz : Sizes) (c : ℕ) (l : List ℕ) : Type 0 where
  pub sized : Sized l sz.n sz.w
  pub slots-is : slots_of l ≡ sz.n
  pub width_is : width_of l ≡ sz.w
  pub clock-is : clock_of l ≡ c

-- the threads: each one's open epoch is what the reference map has, the clock or one below it;
-- K2: none is open in c − 1 while an advance is underway
pub record Opens (sz : Sizes) (tr : List ℕ) (p : Plain) : Type 0 where
  pub same : (thread : ℕ) → thread < sz.t → open_epoch tr thread ≡ p.operation thread
  pub least : (thread : ℕ) → thread < sz.t → 1 ≤ open_epoch tr thread → 2 ≤ open_epoch tr thread
  pub low : (thread : ℕ) → thread < sz.t → 1 ≤ open_epoch tr thread → p.clock ≤ open_epoch tr thread + 1
  pub high : (thread : ℕ) → thread < sz.t → open_epoch tr thread ≤ p.clock
  pub quiet : (thread : ℕ) → thread < sz.t → open_epoch tr thread + 1 ≡ p.clock → underway tr ≡ false

-- operations that have ended, and those that a sync has made durable
pub record Past (p : Plain) : Type 0 where
  pub ended-hi : (e : ℕ) → Memᴰ e p.ended → e ≤ p.clock
  pub durable-hi : (e : ℕ) → Memᴰ e p.durable → e + 2 ≤ p.clock

pub record Good (sz : Sizes) (start : Jobs) (st : Store) (p : Plain) : Type 0 where
  pub clock-hi : p.clock ≤ most_number
  pub working : Image sz p.clock st.working
  pub persistent : Image sz p.clock st.persistent
  pub notes : Notes st.transient sz
  pub opens : Opens sz st.transient p
  pub past : Past p
  -- 02, No. 6: the index "holds each filled slot under its board and key, and no other slot, as it must in every run"
  pub index : Indexed sz st.working st.transient
  pub inv : Inv (state_of sz start st p)
  pub fifo : (e : ℕ) → Fifo e start p.row
