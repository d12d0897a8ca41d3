-- Every moment of a run keeps the invariant.
use Prim.Native.Nat.{ℕ, zero, suc, ◌+◌, ◌*◌, ◌≤◌}
use Rattle.std.specs.Prelude.{◌≡◌, Result, Ok, Err}
use Rattle.std.proofs.Math.Path.{refl}
use Rattle.std.proofs.Common.{⊎_elim, arith}
use mathlib.Core.List.Memᴰ
use mathlib.Core.List.{List, [], ◌∷◌, Memᴰ}
use Rattle.reply.specs.Refusals.{Check, by_check}
use Rattle.image.specs.Layout.{slots_of}
use Rattle.transient.specs.declared.sizes.Sizes.{Sizes}
use Rattle.transient.specs.Store.{Store, table_of, sizes_of}
use Rattle.step.specs.declared.Advance.{Advance}
use Rattle.step.specs.declared.Advance.TheVariants.{WentOn, Ticked}
use Rattle.advance.specs.Advance.{advance}
use Rattle.advance.specs.Stages.{most_lines}
use Rattle.sync.specs.Sync.{sync_check, by_reply}
use Rattle.crash.specs.Reference.{Jobs}
use Rattle.guarantee.specs.Trace.{Call, begins, ends, news, sets, deletes, batches, reads, appends, takes, looks, advances, syncs, writes_back, Plain, plain, told_advance, Moment, Trace, stay, one, followed, after_advance, after_word, after_words, syncing, through, run, moments}
use Rattle.guarantee.specs.Promise.{jobs_of, Started}
use Rattle.guarantee.proofs.Good.{Good, start_of}
use Rattle.guarantee.proofs.Opening.{begin-good, end-good}
use Rattle.guarantee.proofs.Making.{new-good}
use Rattle.guarantee.proofs.Replacing.{set-good, delete-good}
use Rattle.guarantee.proofs.Batching.{batch-good}
use Rattle.guarantee.proofs.Queueing.{append-good, take-good}
use Rattle.guarantee.proofs.Copying.{write-back-good}
use Rattle.guarantee.proofs.Advancing.{advance-good}
use Rattle.guarantee.proofs.Starting.{start-good}
use Rattle.reply.specs.declared.Refusal.{Refusal}

module _ (sz : Sizes) (start : Jobs) where
  abbrev pub GoodAt : Moment → Type 0
  GoodAt m = Good sz start m.store m.plain

  pub record GoodTrace (tr : Trace) : Type 0 where
    pub passed : (m : Moment) → Memᴰ m tr.passed → GoodAt m
    pub last : GoodAt tr.last

  good-stay : (m : Moment) → GoodAt m → GoodTrace (stay m)
  good-stay m g = record { passed = λ x i. absurd (Memᴰ.not-nil i); last = g }

  good-one : (m : Moment) → GoodAt m → GoodTrace (one m)
  good-one m g = record { passed = λ x i. rw (Memᴰ.eq_of_singleton i) g; last = g }

  good-then : (tr : Trace) (next : Moment → Trace) → GoodTrace tr → GoodTrace (next tr.last) → GoodTrace (followed tr next)
  good-then tr next a b =
      record {
        passed = λ x i. ⊎_elim (λ j. a.passed x j) (λ j. b.passed x j) (Memᴰ.append_cases tr.passed i);
        last = b.last;
      }

  -- ---- words written back: the reference map does not hear of them
  word_good : (k : ℕ) (m : Moment) → GoodAt m → GoodAt (after_word k m)
  unfolding after_word
  word_good k m g = write-back-good k g

  words-good : (ks : List ℕ) (m : Moment) → GoodAt m → GoodTrace (after_words ks m)
  unfolding after_words
  words-good [] m g = good-stay m g
  words-good (k ∷ ks) m g = good-then (one (after_word k m)) (after_words ks) (good-one (after_word k m) (word_good k m g)) (words-good ks (after_word k m) (word_good k m g))

  words-plain : (ks : List ℕ) (m : Moment) → (after_words ks m).last.plain ≡ m.plain
  unfolding after_words after_word
  words-plain [] m = refl
  words-plain (k ∷ ks) m = words-plain ks (after_word k m)

  -- ---- advance and sync
  advanced-good : (m : Moment) → GoodAt m → GoodAt (after_advance m)
  unfolding after_advance
  advanced-good m g = advance-good g

  -- what has ended is two epochs below the clock once so many more ticks have happened
  abbrev Ahead : ℕ → Plain → Type 0
  Ahead ticks p = (e : ℕ) → Memᴰ e p.ended → e + 2 ≤ p.clock + ticks

  done-good : (m : Moment) → GoodAt m → Ahead 0 m.plain → Good sz start m.store (plain m.plain.clock m.plain.operation m.plain.row m.plain.ended m.plain.ended)
  done-good m g h =
      record {
        clock-hi = g.clock-hi;
        working = g.working;
        persistent = g.persistent;
        notes = g.notes;
        opens = let o = g.opens in record { same = o.same; least = o.least; low = o.low; high = o.high; quiet = o.quiet };
        past = record { ended-hi = g.past.ended-hi; durable-hi = λ e i. omega (arith, h e i) };
        index = g.index;
        inv = g.inv;
        fifo = g.fifo;
      }

  -- after an advance call, by its reply
  advances-good : (ticks : ℕ) (on tick : Moment → Trace) (m : Moment) → GoodAt m → Ahead (suc ticks) m.plain
      → ((x : Moment) → GoodAt x → Ahead (suc ticks) x.plain → GoodTrace (on x))
      → ((x : Moment) → GoodAt x → Ahead ticks x.plain → GoodTrace (tick x))
      → GoodTrace (followed (one (after_advance m)) (by_reply (advance m.store).reply on tick (λ _. stay)))
  unfolding after_advance
  advances-good ticks on tick m g h a b =
      good-then (one (after_advance m)) (by_reply (advance m.store).reply on tick (λ _. stay)) (good-one (after_advance m) (advanced-good m g))
      (go (advance m.store).reply (advance-good g))
    where
      go : (r : Result Advance Refusal) → Good sz start (advance m.store).store (told_advance r m.plain)
          → GoodTrace (by_reply r on tick (λ _. stay) (record { store = (advance m.store).store; plain = told_advance r m.plain }))
      go (Ok WentOn) i = a _ i h
      go (Ok Ticked) i = b _ i (λ e j. omega (arith, h e j))
      go (Err r) i = good-stay _ i

  syncing-good : (more ticks k : ℕ) (words : ℕ → List ℕ) (m : Moment) → GoodAt m → Ahead ticks m.plain → GoodTrace (syncing more ticks k words m)
  unfolding syncing
  syncing-good more zero k words m g h = good-one _ (done-good m g h)
  syncing-good zero (suc ticks) k words m g h = good-stay m g
  syncing-good (suc more) (suc ticks) k words m g h =
      let a = words-good (words k) m g in
      let on = syncing more (suc ticks) (suc k) words in
      let tick = syncing more ticks (suc k) words in
      good-then (after_words (words k) m) (λ x. followed (one (after_advance x)) (by_reply (advance x.store).reply on tick (λ _. stay))) a
      (advances-good ticks on tick (after_words (words k) m).last a.last (rw (words-plain (words k) m) h)
      (syncing-good more (suc ticks) (suc k) words) (syncing-good more ticks (suc k) words))

  synced-good : (k : Check) (words : ℕ → List ℕ) (m : Moment) → GoodAt m → GoodTrace (by_check k (λ _. stay m) (syncing (2 * most_lines (slots_of m.store.working)) 2 0 words m))
  synced-good (Err r) words m g = good-stay m g
  synced-good (Ok _) words m g =
      syncing-good (2 * most_lines (slots_of m.store.working)) 2 0 words m g (λ e i. omega (arith, g.past.ended-hi e i))

  -- ---- calls, and lists of calls
  through-good : (c : Call) (m : Moment) → GoodAt m → GoodTrace (through c m)
  unfolding through
  through-good (begins thread) m g = good-one _ (begin-good thread g)
  through-good (ends thread) m g = good-one _ (end-good thread g)
  through-good (news thread j) m g = good-one _ (new-good thread j g)
  through-good (sets thread j) m g = good-one _ (set-good thread g j)
  through-good (deletes thread key) m g = good-one _ (delete-good thread g key)
  through-good (batches thread list) m g = good-one _ (batch-good thread list g)
  through-good (reads thread key) m g = good-one _ g
  through-good (appends thread value) m g = good-one _ (append-good thread value g)
  through-good (takes thread) m g = good-one _ (take-good thread g)
  through-good (looks thread) m g = good-one _ g
  through-good advances m g = good-one _ (advanced-good m g)
  through-good (syncs words) m g = synced-good (sync_check m.store) words m g
  through-good (writes_back position) m g = good-one _ (word_good position m g)

  pub run-good : (calls : List Call) (m : Moment) → GoodAt m → GoodTrace (run calls m)
  unfolding run
  run-good [] m g = good-stay m g
  run-good (c ∷ cs) m g = let a = through-good c m g in good-then (through c m) (run cs) a (run-good cs (through c m).last a.last)

-- ---- from a start
pub moments-good : {st : Store} → Started st → (calls : List Call) (m : Moment) → Memᴰ m (moments st calls)
    → Good (sizes_of (table_of st)) (jobs_of st.persistent) m.store m.plain
unfolding moments
moments-good {st} s calls m i =
    let all = run-good (sizes_of (table_of st)) (jobs_of st.persistent) calls (start_of st) (start-good s) in
    ⊎_elim (λ q. at-start q (start-good s)) (λ j. all.passed m j) (Memᴰ.cases_cons i)
  where
    at-start : {sz : Sizes} {jobs : Jobs} → m ≡ start_of st → Good sz jobs st (start_of st).plain → Good sz jobs m.store m.plain
    at-start q g = rw q g
