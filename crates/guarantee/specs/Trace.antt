-- A run of calls on one store, and beside it the reference map (01: "the plain board"), fed the calls' arguments and replies.
use Rattle.std.specs.Prelude.{ℕ, zero, suc, ◌+◌, ◌*◌, cond, List, [], ◌∷◌, ◌++◌, eqb, Option, Result, Ok, Err, None, Some}
use Rattle.search.specs.First.{where_found}
use Rattle.reply.specs.Refusals.{Check, by_check}
use Rattle.image.specs.Layout.{key_at, slots_of, clock_of}
use Rattle.image.specs.declared.name.Name.{Name}
use Rattle.image.specs.Name.{job_name, entry_name}
use Rattle.transient.specs.declared.sizes.Sizes.{Sizes}
use Rattle.transient.specs.Store.{Store, table_of, sizes_of, Outcome}
use Rattle.begin_end.specs.Operation.{begin, end}
use Rattle.jobs.specs.Job.{Job}
use Rattle.job_new.specs.New.{new_job}
use Rattle.job_set.specs.Set.{set_job}
use Rattle.job_delete.specs.Delete.{delete_job}
use Rattle.job_batch.specs.Batch.{change_at, kind_of, job_of, batch_jobs}
use Rattle.queue.specs.Front.{front_slot}
use Rattle.queue_append.specs.Append.{append_entry}
use Rattle.queue_take.specs.Take.{take_entry}
use Rattle.step.specs.declared.Advance.{Advance}
use Rattle.advance.specs.Advance.{advance}
use Rattle.sync.specs.Sync.{sync_check, by_reply}
use Rattle.write_back.specs.WriteBack.{write_back}
use Rattle.crash.specs.Reference.{Change}
use Rattle.reply.specs.declared.Refusal.{Refusal}

-- a call with its arguments; a sync also with the words that the memory writes back before each of its advance calls, the first
-- being number 0: each word by its position
pub data Call : Type 0 where
  begins : (thread : ℕ) → Call
  ends : (thread : ℕ) → Call
  news : (thread : ℕ) (j : Job) → Call
  sets : (thread : ℕ) (j : Job) → Call
  deletes : (thread : ℕ) (key : ℕ) → Call
  batches : (thread : ℕ) (list : List ℕ) → Call
  reads : (thread : ℕ) (key : ℕ) → Call
  appends : (thread : ℕ) (value : List ℕ) → Call
  takes : (thread : ℕ) → Call
  looks : (thread : ℕ) → Call
  advances : Call
  syncs : (words : ℕ → List ℕ) → Call
  writes_back : (position : ℕ) → Call

-- ---- the reference map
-- "It keeps a clock (first the store's), each thread's open operation (first none) and a row of changes (first empty)."
-- An operation is its epoch, 0 for none. Beside it: the operations that have ended, and those that had when a sync last reported done.
pub record Plain : Type 0 where
  pub clock : ℕ
  pub operation : ℕ → ℕ
  pub row : List Change
  pub ended : List ℕ
  pub durable : List ℕ

abbrev pub plain : ℕ → (ℕ → ℕ) → List Change → List ℕ → List ℕ → Plain
plain c operation row ended durable = record { clock = c; operation = operation; row = row; ended = ended; durable = durable }

-- "An accepted begin opens an operation whose epoch is that clock; an accepted end ends it."
abbrev pub told_begin : ℕ → Check → Plain → Plain
told_begin thread k p = by_check k (λ _. p) (plain p.clock (λ u. cond (eqb u thread) p.clock (p.operation u)) p.row p.ended p.durable)

abbrev pub told_end : ℕ → Check → Plain → Plain
told_end thread k p =
    by_check k (λ _. p) (plain p.clock (λ u. cond (eqb u thread) 0 (p.operation u)) p.row (p.operation thread ∷ p.ended) p.durable)

-- "An accepted new, set or delete adds its kind, key, value and operation to the row." A delete leaves the key no value.
abbrev pub told_change : ℕ → Name → Option (List ℕ) → Check → Plain → Plain
told_change thread name v k p =
    by_check k (λ _. p)
    (plain p.clock p.operation (p.row ++ (record { epoch = p.operation thread; name = name; value = v } ∷ [])) p.ended p.durable)

-- 02, No. 5: "for the guarantee after a cut it counts as these": the first k changes of a list, each as its own call's
unfoldable pub told_changes : Sizes → ℕ → List ℕ → ℕ → Plain → Plain
told_changes z thread list zero p = p
told_changes z thread list (suc k) p =
    let c = change_at z list k in
    told_change thread (job_name (job_of c).key) (cond (eqb (kind_of c) 3) None (Some (job_of c).value)) (Ok tt) (told_changes z thread list k p)

-- 02, No. 3: "each entry under the order number that its append was given": an accepted append adds the entry of its reply
abbrev pub told_append : ℕ → List ℕ → Result ℕ Refusal → Plain → Plain
told_append thread value (Ok order) p = told_change thread (entry_name order) (Some value) (Ok tt) p
told_append thread value (Err r) p = p

-- .. and an accepted take takes away the entry that stood at the front; that its number is the smallest is a claim (`Promise.fifo`)
abbrev pub front_order : Store → ℕ
front_order st = let z = sizes_of (table_of st) in where_found (front_slot z (table_of st)) (key_at st.working z.n z.w) 0

-- "Ticked, from an advance call or one within a sync, adds 1 to the clock. All else, any refused call too, changes nothing."
abbrev pub told_advance : Result Advance Refusal → Plain → Plain
told_advance r p = by_reply r (λ q. q) (λ q. plain (suc q.clock) q.operation q.row q.ended q.durable) (λ _ q. q) p

-- ---- moments: a store, and the reference map beside it
pub record Moment : Type 0 where
  pub store : Store
  pub plain : Plain

-- what a call leaves, the reference map being told its reply
abbrev pub told : {A : Type 0} → Outcome A → (A → Plain → Plain) → Moment → Moment
told o tell m = record { store = o.store; plain = tell o.reply m.plain }

-- ---- a trace: the moments passed, in order, after each single store into the persistent image; and the last of them
pub record Trace : Type 0 where
  pub passed : List Moment
  pub last : Moment

abbrev pub stay : Moment → Trace
stay m = record { passed = []; last = m }

abbrev pub one : Moment → Trace
one m = record { passed = m ∷ []; last = m }

abbrev pub followed : Trace → (Moment → Trace) → Trace
followed p next = record { passed = p.passed ++ (next p.last).passed; last = (next p.last).last }

-- ---- an advance call; a word written back, of which the reference map does not hear
unfoldable pub after_advance : Moment → Moment
after_advance m = told (advance m.store) told_advance m

unfoldable pub after_word : ℕ → Moment → Moment
after_word i m = told (write_back m.store i) (λ _ p. p) m

unfoldable pub after_words : List ℕ → Moment → Trace
after_words [] m = stay m
after_words (i ∷ is) m = followed (one (after_word i m)) (after_words is)

-- ---- sync: "in a run it stands for those advance calls, so that a cut, or a line written back, may fall after any of them"
-- words written back, an advance call, and so on by its reply until so many more ticks have happened: then what has ended is durable.
-- At most `more` advance calls; a declined one ends the sync
unfoldable pub syncing : ℕ → ℕ → ℕ → (ℕ → List ℕ) → Moment → Trace
syncing more zero k words m =
    one (record { store = m.store; plain = plain m.plain.clock m.plain.operation m.plain.row m.plain.ended m.plain.ended })
syncing zero (suc ticks) k words m = stay m
syncing (suc more) (suc ticks) k words m =
    followed (after_words (words k) m) (λ x. followed (one (after_advance x))
    (by_reply (advance x.store).reply (syncing more (suc ticks) (suc k) words) (syncing more ticks (suc k) words) (λ _. stay)))

-- ---- a call, and a list of calls
unfoldable pub through : Call → Moment → Trace
through (begins thread) m = one (told (begin m.store thread) (told_begin thread) m)
through (ends thread) m = one (told (end m.store thread) (told_end thread) m)
through (news thread j) m = one (told (new_job m.store thread j) (told_change thread (job_name j.key) (Some j.value)) m)
through (sets thread j) m = one (told (set_job m.store thread j) (told_change thread (job_name j.key) (Some j.value)) m)
through (deletes thread key) m = one (told (delete_job m.store thread key) (told_change thread (job_name key) None) m)
through (batches thread list) m =
    one (told (batch_jobs m.store thread list) (λ b. told_changes (sizes_of (table_of m.store)) thread list b.accepted) m)
through (reads thread key) m = one m
through (appends thread value) m = one (told (append_entry m.store thread value) (told_append thread value) m)
through (takes thread) m = one (told (take_entry m.store thread) (told_change thread (entry_name (front_order m.store)) None) m)
through (looks thread) m = one m
through advances m = one (after_advance m)
through (syncs words) m = by_check (sync_check m.store) (λ _. stay m) (syncing (2 * (3 * slots_of m.store.working + 1)) 2 0 words m)
through (writes_back position) m = one (after_word position m)

unfoldable pub run : List Call → Moment → Trace
run [] m = stay m
run (c ∷ cs) m = followed (through c m) (run cs)

-- "Its first call gets what fresh left, or the recover that replied done", and the plain board's clock is "first the store's".
-- "A cut falls before, between or after a run's calls": before the first, or at any moment passed ..
unfoldable pub moments : Store → List Call → List Moment
moments st calls =
    let start : Moment = record { store = st; plain = plain (clock_of st.persistent) (λ _. 0) [] [] [] } in start ∷ (run calls start).passed

-- .. 02, No. 4: or within the line store that leads from a moment to the next
pub data Around : List Moment → Moment → Moment → Type 0 where
  at : {m : Moment} {ms : List Moment} → Around (m ∷ ms) m m
  within : {m x : Moment} {ms : List Moment} → Around (m ∷ x ∷ ms) m x
  later : {y m x : Moment} {ms : List Moment} → Around ms m x → Around (y ∷ ms) m x

-- the plain board beside an image that such a cut leaves: with the new clock word the advance counts as made
abbrev pub beside : List ℕ → Moment → Moment → Plain
beside l before after = cond (eqb (clock_of l) after.plain.clock) after.plain before.plain
