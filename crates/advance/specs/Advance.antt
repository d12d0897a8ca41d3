-- 01, "Advance and sync": "One advance call stores one lasting line." It is a step from the place that the notes have.
use Rattle.std.specs.Prelude.{ℕ, ◌+◌, not, ◌&&◌, leb, eqb, Result, Ok, Err}
use Rattle.search.specs.Some.{any_of}
use Rattle.reply.specs.declared.Refusal.TheVariants.{StillOpen, LastEpoch}
use Rattle.reply.specs.Refusals.{Check, refuse, by_check, declined_number}
use Rattle.image.specs.Layout.{most_number, clock_of}
use Rattle.transient.specs.Layout.{note, phase_at, place_at, open_epoch, set_place}
use Rattle.transient.specs.Store.{Store, table_of, sizes_of, Outcome, outcome, after_check}
use Rattle.transient.specs.Entry.{entry_check}
use Rattle.step.specs.declared.Advance.{Advance}
use Rattle.step.specs.declared.Advance.TheVariants.{WentOn, Ticked}
use Rattle.step.specs.Step.{reclaim_next, clock_next, place, Stepped, step}
use Rattle.reply.specs.declared.Refusal.{Refusal}

-- 14: "advance, none underway: an operation open in clock − 1"; 15: "advance: clock 4,000,000,000"
unfoldable pub advance_check : Store → Check
advance_check st =
    let tr = st.transient in let c = clock_of st.working in
    by_check (entry_check st) Err
    (refuse (not (leb reclaim_next (note phase_at tr) && leb (note phase_at tr) clock_next) && any_of (λ thread. eqb (open_epoch tr thread + 1) c) (sizes_of (table_of st)).t) StillOpen
    (refuse (eqb c most_number) LastEpoch (Ok tt)))

-- the notes keep the place
abbrev pub noted : Stepped → Outcome (Result Advance Refusal)
noted s = outcome (Ok s.reply) s.store.working s.store.persistent (set_place s.store.transient s.place.phase s.place.slot)

unfoldable pub advance : Store → Outcome (Result Advance Refusal)
advance st =
    after_check (advance_check st) Err st
    (noted (step (sizes_of (table_of st)) st (clock_of st.working) (place (note phase_at st.transient) (note place_at st.transient))))

-- the reply as one number: 0 went on, 1 ticked, or 2^32 plus the refusal
abbrev pub advance_number : Result Advance Refusal → ℕ
advance_number (Ok WentOn) = 0
advance_number (Ok Ticked) = 1
advance_number (Err r) = declined_number r
