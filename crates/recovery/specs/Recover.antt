-- 01, "Recovery": one recover call, from a store to a reply and a store.
use Rattle.std.specs.Prelude.{ℕ, ◌+◌, Bool, not, ◌&&◌, List, length, eqb, Option, Some, None, Result, Ok, Err}
use Rattle.search.specs.First.{first_of, where_found}
use Rattle.search.specs.Largest.{largest}
use Rattle.reply.specs.declared.Refusal.TheVariants.{BadSizes}
use Rattle.reply.specs.Refusals.{Check, refuse, declined_number}
use Rattle.image.specs.Layout.{queue_board, is_blank, header, key_at, slots_of, width_of, clock_of, free_header}
use Rattle.image.specs.Line.{header_line, store_line}
use Rattle.transient.specs.Store.{Store, Outcome, outcome, after_check}
use Rattle.transient.specs.Layout.{threads_of, threads_ok, blank}
use Rattle.index.specs.Index.{rebuilt}
use Rattle.survival.specs.Survivors.{kept, survivor, survives_on}
use Rattle.acceptance.specs.Accept.{image_check}
use Rattle.recovery.specs.declared.Recovery.{Recovery}
use Rattle.recovery.specs.declared.Recovery.TheVariants.{WentOn, Done}
use Rattle.reply.specs.declared.Refusal.{Refusal}

-- a kept DELETE
unfoldable pub anti_at : List ℕ → ℕ → Bool
anti_at l s = kept (clock_of l) (header l s) && eqb (header l s).kind 3

-- "every filled slot that neither survives nor is a kept DELETE"; 02, No. 4: "Recovery's first pass zeroes what is left of such marks
-- too", that is of those that count as free
unfoldable pub stale : List ℕ → ℕ → ℕ → Bool
stale l n s = not (is_blank (header l s)) && (not (survivor l n s) && not (anti_at l s))

-- "frees lasting marks one at a time: first, in slot order, every filled slot that neither survives nor is a kept DELETE;
-- then, in slot order, the kept DELETEs"
unfoldable pub next_freed : List ℕ → ℕ → Option ℕ
next_freed l n = where_found (first_of (stale l n) n) Some (first_of (anti_at l) n)

-- "The next uid is one more than the largest surviving uid, 1 if none."
unfoldable pub next_uid : List ℕ → ℕ → ℕ
next_uid l n = largest (survivor l n) (λ s. (header l s).uid) n + 1

-- 02, No. 3: "After recovery it continues one above the largest surviving order number, from 1 if none."
unfoldable pub next_order : List ℕ → ℕ → ℕ → ℕ
next_order l n w = largest (survives_on l n queue_board) (key_at l n w) n + 1

-- "fresh and recover judge only the lengths of what they fill"
unfoldable pub lengths_fit : ℕ → List ℕ → ℕ → Bool
lengths_fit working l transient = eqb working (length l) && threads_ok transient (slots_of l)

unfoldable pub recover_check : Store → Check
recover_check st = refuse (not (lengths_fit (length st.working) st.persistent (length st.transient))) BadSizes (image_check st.persistent)

-- the notes that it leaves of so many words: blank, with the index over the slots that are left (02, No. 6: "It is rebuilt by recovery")
unfoldable pub recovered_notes : List ℕ → ℕ → ℕ → ℕ → List ℕ
recovered_notes l len n w =
    rebuilt (record { n = n; w = w; t = threads_of len n }) l (blank len n (next_uid l n) (next_order l n w)) n

-- "frees the next such mark, leaves working and notes alone and replies went on. The call that finds none to free replies done;
-- only there does working become a copy and are the notes set."
abbrev pub freeing : Option ℕ → Store → ℕ → ℕ → Outcome (Result Recovery Refusal)
freeing (Some s) st n w = outcome (Ok WentOn) st.working (store_line st.persistent (header_line s free_header)) st.transient
freeing None st n w = outcome (Ok Done) st.persistent st.persistent (recovered_notes st.persistent (length st.transient) n w)

unfoldable pub recover : Store → Outcome (Result Recovery Refusal)
recover st =
    let n = slots_of st.persistent in
    after_check (recover_check st) Err st (freeing (next_freed st.persistent n) st n (width_of st.persistent))

-- the reply as one number: 0 went on, 1 done, or 2^32 plus the refusal
abbrev pub recovery_number : Result Recovery Refusal → ℕ
recovery_number (Ok WentOn) = 0
recovery_number (Ok Done) = 1
recovery_number (Err r) = declined_number r
