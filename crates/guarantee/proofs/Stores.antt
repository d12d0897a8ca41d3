-- The moments of a run are one after each single store into persistent: from each to the next at most one line changes there.
use Rattle.std.specs.Prelude.{ℕ, zero, suc, ◌+◌, ◌*◌, ◌<◌, ◌≡◌, List, [], ◌∷◌, ◌++◌, get_or, set, Result, Ok, Err}
use Rattle.std.proofs.Math.Path.{refl}
use Rattle.reply.specs.Refusals.{Check, by_check}
use Rattle.image.specs.Layout.{slots_of, free_header}
use Rattle.image.specs.Line.{header_line, clock_line, store_line}
use Rattle.image.specs.Requires.{held_header, held_contents}
use Rattle.transient.specs.declared.sizes.Sizes.{Sizes}
use Rattle.transient.specs.Store.{Store, Table, table_of, sizes_of}
use Rattle.transient.specs.Calls.{Changed, on_store}
use Rattle.transient.specs.Passed.{on-persistent}
use Rattle.begin_end.specs.Operation.{begin, end}
use Rattle.begin_end.specs.Stages.{begin_sized, end_sized}
use Rattle.job_new.specs.New.{new_job}
use Rattle.job_new.specs.Stages.{new_open, new_sized}
use Rattle.job_set.specs.Set.{set_job}
use Rattle.job_set.specs.Stages.{set_opened, set_sized}
use Rattle.job_delete.specs.Delete.{delete_job}
use Rattle.job_delete.specs.Stages.{delete_open, delete_sized}
use Rattle.job_batch.specs.Ways.{batch-persistent}
use Rattle.queue_append.specs.Append.{append_entry}
use Rattle.queue_append.specs.Stages.{bad_value, append_sized}
use Rattle.queue_take.specs.Take.{take_entry}
use Rattle.queue_take.specs.Stages.{take_open, take_sized}
use Rattle.step.specs.declared.Place.{Place}
use Rattle.step.specs.declared.Advance.{Advance}
use Rattle.step.specs.declared.Advance.TheVariants.{WentOn, Ticked}
use Rattle.step.specs.Step.{Stepped, reclaimed, contents_flushed, header_flushed, ticking, step}
use Rattle.step.specs.Ways.{every_way}
use Rattle.advance.specs.Advance.{noted, advance}
use Rattle.advance.specs.Stages.{most_lines}
use Rattle.advance.specs.Ways.{next_step, advance-way}
use Rattle.sync.specs.Sync.{sync_check, by_reply}
use Rattle.write_back.specs.Ways.{back-way}
use Rattle.guarantee.specs.Trace.{Call, begins, ends, news, sets, deletes, batches, reads, appends, takes, looks, advances, syncs, writes_back, Plain, Moment, Trace, stay, one, followed, told, told_advance, after_advance, after_word, after_words, syncing, through, run}
use Rattle.reply.specs.declared.Refusal.{Refusal}

-- what a call stores: nothing, a slot's header or contents as working holds them, a word of it, a header of zeros, or the clock
pub data OneStore (m x : Moment) : Type 0 where
  nothing : x.store.persistent ≡ m.store.persistent → OneStore m x
  head : (s : ℕ) → x.store.persistent ≡ store_line m.store.persistent (held_header m.store.working s) → x.plain ≡ m.plain → OneStore m x
  line : (n w s : ℕ) → x.store.persistent ≡ store_line m.store.persistent (held_contents m.store.working n w s) → x.plain ≡ m.plain → OneStore m x
  word : (i : ℕ) → x.store.persistent ≡ set m.store.persistent i (get_or m.store.working i 0) → x.plain ≡ m.plain → OneStore m x
  zeros : (s : ℕ) → s < slots_of m.store.working → x.store.persistent ≡ store_line m.store.persistent (header_line s free_header) → x.plain ≡ m.plain → OneStore m x
  ticked : (c : ℕ) → x.store.persistent ≡ store_line m.store.persistent (clock_line c) → x.plain.clock ≡ suc m.plain.clock → OneStore m x

-- ---- the calls
-- an advance call that made the step x
abbrev step_to : Moment → Stepped → Moment
step_to m x = told (noted x) told_advance m

module _ (m : Moment) (c : ℕ) where
  abbrev st : Store
  st = m.store

  abbrev z : Sizes
  z = sizes_of (table_of st)

  contents-one : (s : ℕ) → OneStore m (step_to m (contents_flushed z st s))
  unfolding contents_flushed
  contents-one s = line z.n z.w s refl refl

  header-one : (s : ℕ) → OneStore m (step_to m (header_flushed z st s))
  unfolding header_flushed
  header-one s = head s refl refl

  tick-one : OneStore m (step_to m (ticking z st c))
  unfolding ticking
  tick-one = ticked (c + 1) refl refl

  reclaim-one : (s : ℕ) → s < z.n → OneStore m (step_to m (reclaimed z st s))
  unfolding reclaimed sizes_of
  reclaim-one s h = zeros s h refl refl

  step-one : (p : Place) → OneStore m (step_to m (step z st c p))
  step-one = every_way (λ x. OneStore m (step_to m x)) z st c reclaim-one contents-one header-one tick-one

-- "One advance call stores one lasting line."
pub advance-one : (m : Moment) → OneStore m (after_advance m)
unfolding after_advance next_step
advance-one m =
    advance-way (λ o. OneStore m (told o told_advance m)) m.store (λ r. nothing refl) (λ a b. step-one m _ _)

pub word-one : (m : Moment) (i : ℕ) → OneStore m (after_word i m)
unfolding after_word
word-one m i = back-way (λ o. OneStore m (told o (λ _ p. p) m)) m.store i (λ r. nothing refl) (λ h. word i refl refl)

-- "Change calls never store into the lasting image."
job-none : {p : Plain} (m : Moment) (call : Sizes → Table → Changed) → OneStore m (record { store = (on_store m.store call).store; plain = p })
job-none m call = nothing (on-persistent m.store call)

-- ---- a trace: from m through the moments of the list to the last one
pub data Chain : Moment → List Moment → Moment → Type 0 where
  stays : {m : Moment} → Chain m [] m
  goes : {m x y : Moment} {xs : List Moment} → OneStore m x → Chain x xs y → Chain m (x ∷ xs) y

abbrev pub Chained : Moment → Trace → Type 0
Chained m tr = Chain m tr.passed tr.last

chain-then : {m x y : Moment} (xs ys : List Moment) → Chain m xs x → Chain x ys y → Chain m (xs ++ ys) y
chain-then xs ys stays b = b
chain-then (z ∷ zs) ys (goes o a) b = goes o (chain-then zs ys a b)

chained-then : {m : Moment} (tr : Trace) (next : Moment → Trace) → Chained m tr → Chained tr.last (next tr.last) → Chained m (followed tr next)
chained-then tr next a b = chain-then tr.passed (next tr.last).passed a b

one-step : {m x : Moment} → OneStore m x → Chained m (one x)
one-step o = goes o stays

words-chained : (is : List ℕ) (m : Moment) → Chained m (after_words is m)
unfolding after_words
words-chained [] m = stays
words-chained (i ∷ is) m = chained-then (one (after_word i m)) (after_words is) (one-step (word-one m i)) (words-chained is (after_word i m))

going-chained : (r : Result Advance Refusal) (on tick : Moment → Trace) (m : Moment) → ((x : Moment) → Chained x (on x)) → ((x : Moment) → Chained x (tick x)) → Chained m (by_reply r on tick (λ _. stay) m)
going-chained (Ok WentOn) on tick m a b = a m
going-chained (Ok Ticked) on tick m a b = b m
going-chained (Err r) on tick m a b = stays

syncing-chained : (more ticks k : ℕ) (words : ℕ → List ℕ) (m : Moment) → Chained m (syncing more ticks k words m)
unfolding syncing
syncing-chained more zero k words m = one-step (nothing refl)
syncing-chained zero (suc ticks) k words m = stays
syncing-chained (suc more) (suc ticks) k words m =
    let on = syncing more (suc ticks) (suc k) words in
    let tick = syncing more ticks (suc k) words in
    let x = (after_words (words k) m).last in
    chained-then (after_words (words k) m) (λ y. followed (one (after_advance y)) (by_reply (advance y.store).reply on tick (λ _. stay)))
    (words-chained (words k) m)
    (goes (advance-one x)
    (going-chained (advance x.store).reply on tick (after_advance x) (syncing-chained more (suc ticks) (suc k) words) (syncing-chained more ticks (suc k) words)))

through-chained : (c : Call) (m : Moment) → Chained m (through c m)
unfolding through begin begin_sized end end_sized new_job new_sized new_open set_job set_sized set_opened delete_job delete_sized delete_open append_entry append_sized bad_value take_entry take_sized take_open
through-chained (begins thread) m = one-step (job-none m (begin_sized thread))
through-chained (ends thread) m = one-step (job-none m (end_sized thread))
through-chained (news thread j) m = one-step (job-none m (new_sized thread j))
through-chained (sets thread j) m = one-step (job-none m (set_sized thread j))
through-chained (deletes thread key) m = one-step (job-none m (delete_sized thread key))
through-chained (batches thread list) m = one-step (nothing (batch-persistent m.store thread list))
through-chained (reads thread key) m = one-step (nothing refl)
through-chained (appends thread value) m = one-step (job-none m (append_sized thread value))
through-chained (takes thread) m = one-step (job-none m (take_sized thread))
through-chained (looks thread) m = one-step (nothing refl)
through-chained advances m = one-step (advance-one m)
through-chained (syncs words) m = go (sync_check m.store)
  where
    go : (k : Check) → Chained m (by_check k (λ _. stay m) (syncing (2 * most_lines (slots_of m.store.working)) 2 0 words m))
    go (Err r) = stays
    go (Ok _) = syncing-chained (2 * most_lines (slots_of m.store.working)) 2 0 words m
through-chained (writes_back position) m = one-step (word-one m position)

-- ---- of every run
pub run-chained : (calls : List Call) (m : Moment) → Chained m (run calls m)
unfolding run
run-chained [] m = stays
run-chained (c ∷ cs) m = chained-then (through c m) (run cs) (through-chained c m) (run-chained cs (through c m).last)
