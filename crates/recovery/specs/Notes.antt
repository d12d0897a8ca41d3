-- What the notes say that a finished recovery leaves: all but the index is blank, and the index holds the image's filled slots.
use Rattle.std.specs.Prelude.{ℕ, ◌+◌, ◌*◌, ◌≤◌, ◌<◌, ◌≡◌, true, List, length, leb}
use Rattle.std.proofs.Common.{◌∙◌, leb-true, arith}
use Rattle.search.specs.Bools.{and_left, and_right}
use Rattle.image.specs.Layout.{most_slots}
use Rattle.transient.specs.Layout.{head_words, threads_of, threads_ok, note, next_uid_at, next_order_at, phase_at, open_epoch, retired_in, blank}
use Rattle.transient.specs.Requires.{Notes}
use Rattle.transient.specs.Laws.{IndexOnly, beside-front, beside-slots, threads-head, blank-length, blank-uid, blank-order, blank-phase, blank-open, blank-retired, blank-index}
use Rattle.index.specs.Laws.{rebuilt-only}
use Rattle.index.specs.Indexed.{Indexed, indexed-rebuilt}
use Rattle.recovery.specs.Recover.{next_uid, next_order, recovered_notes}
use Rattle.recovery.specs.Requires.{sizes_in}

-- ---- notes of 1 to 16 threads
pub record ThreadsIn (len n : ℕ) : Type 0 where
  pub lo : head_words + 3 * n + 1 ≤ len
  pub hi : threads_of len n ≤ 16

pub threads-some : (len n : ℕ) → threads_ok len n ≡ true → ThreadsIn len n
unfolding threads_ok
threads-some len n e =
    let t = threads_of len n in
    record { lo = omega (arith, leb-true 1 t (and_left (leb 1 t) _ e)); hi = leb-true t 16 (and_right (leb 1 t) _ e) }

pub threads-notes : (tr : List ℕ) (n w : ℕ) → n ≤ most_slots → threads_ok (length tr) n ≡ true → Notes tr (sizes_in (length tr) n w)
threads-notes tr n w h e =
    let t = threads-some (length tr) n e in
    record { long = omega (arith, t.lo); slots-hi = h; threads-hi = t.hi }

-- ---- what is left of so many words
module _ (l : List ℕ) (len n w : ℕ) where
  pub recovered-only : IndexOnly (sizes_in len n w) (blank len n (next_uid l n) (next_order l n w)) (recovered_notes l len n w)
  unfolding recovered_notes
  recovered-only = rebuilt-only (sizes_in len n w) l (blank len n (next_uid l n) (next_order l n w)) n

  pub recovered-long : length (recovered_notes l len n w) ≡ len
  recovered-long = recovered-only.long ∙ blank-length len n (next_uid l n) (next_order l n w)

  pub recovered-phase : note phase_at (recovered_notes l len n w) ≡ 0
  recovered-phase = (beside-front recovered-only).head.phase ∙ blank-phase len n (next_uid l n) (next_order l n w)

  pub recovered-open : (thread : ℕ) → thread < threads_of len n → open_epoch (recovered_notes l len n w) thread ≡ 0
  recovered-open thread h = (beside-front recovered-only).head.opens thread h ∙ blank-open len n (next_uid l n) (next_order l n w) thread

  pub recovered-retired : (s : ℕ) → s < n → retired_in (sizes_in len n w) (recovered_notes l len n w) s ≡ 0
  recovered-retired s h = (beside-slots recovered-only s h).retired ∙ blank-retired len n (next_uid l n) (next_order l n w) (sizes_in len n w) s

  module _ (e : threads_ok len n ≡ true) where
    pub recovered-uid : note next_uid_at (recovered_notes l len n w) ≡ next_uid l n
    recovered-uid = (beside-front recovered-only).uid ∙ blank-uid len n (next_uid l n) (next_order l n w) (threads-head len n e)

    pub recovered-order : note next_order_at (recovered_notes l len n w) ≡ next_order l n w
    recovered-order = (beside-front recovered-only).order ∙ blank-order len n (next_uid l n) (next_order l n w) (threads-head len n e)

    -- 02, No. 6: "It is rebuilt by recovery"
    pub recovered-indexed : n ≤ most_slots → Indexed (sizes_in len n w) l (recovered_notes l len n w)
    unfolding recovered_notes
    recovered-indexed h =
        let x = next_order l n w in
        let u = next_uid l n in
        let long = blank-length len n u x in
        let y : Notes (blank len n u x) (sizes_in len n w) = rw long at (threads-notes (blank len n u x) n w h (rw long e)) in
        indexed-rebuilt y (blank-index len n u x (sizes_in len n w))
