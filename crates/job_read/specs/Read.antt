-- 01: "Read shows the live job's value as a part of the working image. It needs no open operation. A second call with the same
-- arguments gives its refusal number, 0 for none."
use Rattle.std.specs.Prelude.{ℕ, ◌+◌, cond, List, [], leb, eqb, Result, Ok, Err}
use Rattle.reply.specs.declared.Refusal.TheVariants.{NoThread, BadArgument, NoJob}
use Rattle.reply.specs.Refusals.{refusal_number, declined_number, by_check}
use Rattle.image.specs.Layout.{contents_at, value_at, slots_of, width_of}
use Rattle.image.specs.Name.{job_name}
use Rattle.transient.specs.declared.sizes.Sizes.{Sizes}
use Rattle.transient.specs.Layout.{open_epoch}
use Rattle.transient.specs.Store.{Store, Table, table_of, sizes_of}
use Rattle.transient.specs.Entry.{entry_check}
use Rattle.table.specs.Find.{live_slot, by_lookup, lookup}
use Rattle.reply.specs.declared.Refusal.{Refusal}

-- 5, 8, then 9 and 10: "no live job of that key"; with no operation open refusal 9 is not asked
unfoldable pub read_sized : ℕ → ℕ → Sizes → Table → Result ℕ Refusal
read_sized thread key z tb =
    cond (leb z.t thread) (Err NoThread)
    (cond (eqb key 0) (Err BadArgument)
    (by_lookup (cond (eqb (open_epoch tb.transient thread) 0) (Ok (live_slot z tb (job_name key)))
    (lookup z tb (job_name key) (open_epoch tb.transient thread))) Err Ok (Err NoJob)))

unfoldable pub read_job : Store → ℕ → ℕ → Result ℕ Refusal
read_job st thread key = by_check (entry_check st) Err (read_sized thread key (sizes_of (table_of st)) (table_of st))

-- "the value's V words come back .. empty on refusal"
abbrev pub shown_value : Result ℕ Refusal → List ℕ → List ℕ
shown_value (Ok s) wk = value_at wk (slots_of wk) (width_of wk) s
shown_value (Err r) wk = []

abbrev pub read_number : Result ℕ Refusal → ℕ
read_number (Ok s) = 0
read_number (Err r) = refusal_number r

-- for C: where in the working image the value stands
abbrev pub read_position : Result ℕ Refusal → List ℕ → ℕ
read_position (Ok s) wk = contents_at (slots_of wk) (width_of wk) s + 1
read_position (Err r) wk = declined_number r
