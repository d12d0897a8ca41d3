-- 01: "Sync equals advance calls repeated until two ticks have happened (one underway counts), and reports done with the number of
-- lines stored."
use Rattle.std.specs.Prelude.{ℕ, zero, suc, ◌+◌, ◌*◌, ◌-◌, not, ltb, eqb, Result, Ok, Err}
use Rattle.search.specs.Some.{any_of}
use Rattle.reply.specs.declared.Refusal.{Refusal}
use Rattle.reply.specs.declared.Refusal.TheVariants.{StillOpen, LastEpoch}
use Rattle.reply.specs.Refusals.{Check, refuse, by_check, declined_number}
use Rattle.image.specs.Layout.{most_number, slots_of, clock_of}
use Rattle.transient.specs.Layout.{open_epoch}
use Rattle.transient.specs.Store.{Store, table_of, sizes_of, Outcome, after_check}
use Rattle.transient.specs.Entry.{entry_check}
use Rattle.step.specs.declared.Advance.{Advance}
use Rattle.step.specs.declared.Advance.TheVariants.{WentOn, Ticked}
use Rattle.advance.specs.Advance.{advance}

-- 14: "sync: any operation open"; 15: "sync: clock above 3,999,999,998"
unfoldable pub sync_check : Store → Check
sync_check st =
    by_check (entry_check st) Err
    (refuse (any_of (λ thread. not (eqb (open_epoch st.transient thread) 0)) (sizes_of (table_of st)).t) StillOpen
    (refuse (ltb (most_number - 2) (clock_of st.working)) LastEpoch (Ok tt)))

-- by an advance call's reply
abbrev pub by_reply : {S A : Type 0} → Result Advance Refusal → (S → A) → (S → A) → (Refusal → S → A) → S → A
by_reply (Ok WentOn) on tick declined s = on s
by_reply (Ok Ticked) on tick declined s = tick s
by_reply (Err r) on tick declined s = declined r s

-- advance calls until so many more ticks have happened; `more` bounds the calls, and is never used up
unfoldable pub sync_from : ℕ → ℕ → ℕ → Store → Outcome (Result ℕ Refusal)
sync_from more zero lines st = record { reply = Ok lines; store = st }
sync_from zero (suc ticks) lines st = record { reply = Err LastEpoch; store = st }
sync_from (suc more) (suc ticks) lines st =
    by_reply (advance st).reply (sync_from more (suc ticks) (suc lines)) (sync_from more ticks (suc lines))
    (λ r s. record { reply = Err r; store = s }) (advance st).store

-- an advance stores at most one line for a slot it reclaims, two for one it writes back, and one for the clock
unfoldable pub sync : Store → Outcome (Result ℕ Refusal)
sync st = after_check (sync_check st) Err st (sync_from (2 * (3 * slots_of st.working + 1)) 2 0 st)

-- the reply as one number: the lines stored, or 2^32 plus the refusal
abbrev pub sync_number : Result ℕ Refusal → ℕ
sync_number (Ok lines) = lines
sync_number (Err r) = declined_number r
