-- The ways out of this crate's functions.
use Rattle.std.specs.Prelude.{ℕ, ◌≤◌, ◌<◌, ◌≡◌, List, Result, Ok, Err}
use Rattle.std.proofs.Math.Bool.{false}
use borrow.Author.Tests.{le-leb, lt-leb, eq-eqb, ne_eqb}
use Rattle.reply.specs.declared.Refusal.{Refusal}
use Rattle.reply.specs.declared.Refusal.TheVariants.{NoThread, AlreadyOpen}
use Rattle.image.specs.Layout.{clock_of}
use Rattle.transient.specs.declared.sizes.Sizes.{Sizes}
use Rattle.transient.specs.Layout.{open_epoch, set_open}
use Rattle.transient.specs.Store.{store, table, sizes_of, outcome}
use Rattle.transient.specs.Entry.{entry_check}
use Rattle.transient.specs.Calls.{changed, refused}
use Rattle.transient.specs.Requires.{thread-of, entered-notes, entered-front}
use Rattle.transient.specs.Passed.{on-declined, on-passed, passing}
use Rattle.jobs.specs.Way.{way_in}
use Rattle.jobs.specs.Laws.{way-within, way-declined, way-open}
use Rattle.begin_end.specs.Operation.{begin, end}
use Rattle.begin_end.specs.Stages.{begin_sized, end_sized}
use Rattle.reply.specs.Refusals.{Check}

module _ (z : Sizes) (wk tr : List ℕ) (thread : ℕ) where
  pub begin-thread : z.t ≤ thread → refused NoThread (table wk tr) ≡ begin_sized thread z (table wk tr)
  unfolding begin_sized
  begin-thread h = rw (le-leb z.t thread h)

  module _ {e : ℕ} (h : thread < z.t) (q : e ≡ open_epoch tr thread) where
    pub begin-open : (e ≡ 0 → ⊥) → refused AlreadyOpen (table wk tr) ≡ begin_sized thread z (table wk tr)
    unfolding begin_sized
    begin-open d = rw (lt-leb z.t thread h, ← q, ne_eqb e 0 d)

    pub begin-done : {c : ℕ} {tr' : List ℕ} → e ≡ 0 → c ≡ clock_of wk → tr' ≡ set_open tr thread c → changed (Ok tt) wk tr' ≡ begin_sized thread z (table wk tr)
    unfolding begin_sized
    begin-done d k p = rw (lt-leb z.t thread h, ← q, eq-eqb e 0 d, p, k)

  module _ {k : Result ℕ Refusal} (way : k ≡ way_in z tr thread false) where
    pub end-declined : {r : Refusal} → k ≡ Err r → refused r (table wk tr) ≡ end_sized thread z (table wk tr)
    unfolding end_sized
    end-declined a = way-declined z (table wk tr) thread false _ way a

    pub end-done : {e : ℕ} {tr' : List ℕ} → k ≡ Ok e → tr' ≡ set_open tr thread 0 → changed (Ok tt) wk tr' ≡ end_sized thread z (table wk tr)
    unfolding end_sized
    end-done a p = way-open z (table wk tr) thread false _ way a (rw p)

-- 1 and 2
module _ (wk l tr : List ℕ) (thread : ℕ) {k : Check} (c : k ≡ entry_check (store wk l tr)) where
  pub begin-refused : {r : Refusal} → k ≡ Err r → outcome (Err r) wk l tr ≡ begin (store wk l tr) thread
  unfolding begin begin_sized
  begin-refused a = on-declined wk l tr c (begin_sized thread) a

  pub end_refused : {r : Refusal} → k ≡ Err r → outcome (Err r) wk l tr ≡ end (store wk l tr) thread
  unfolding end end_sized
  end_refused a = on-declined wk l tr c (end_sized thread) a

  module _ {z : Sizes} {th : ℕ} {q : Check} {tr' : List ℕ} (a : k ≡ Ok tt) (e : z ≡ sizes_of (table wk tr)) (i : th ≡ thread) where
    pub begin-enters : changed q wk tr' ≡ begin_sized th z (table wk tr) → outcome q wk l tr' ≡ begin (store wk l tr) thread
    unfolding begin begin_sized
    begin-enters h = on-passed wk l tr c (begin_sized thread) a (rw (i, e) at h)

    pub end-enters : changed q wk tr' ≡ end_sized th z (table wk tr) → outcome q wk l tr' ≡ end (store wk l tr) thread
    unfolding end end_sized
    end-enters h = on-passed wk l tr c (end_sized thread) a (rw (i, e) at h)

pub ruleset laws = (thread-of, entered-notes, entered-front, way-within, begin-thread, begin-open, begin-done, end-declined, end-done, begin-refused, begin-enters, end_refused, end-enters, passing)
