-- The ways out of this crate's functions.
use Prim.Native.Nat.{ℕ, suc, ◌+◌, ◌*◌, ◌-◌, ◌/◌, ◌%◌, ◌≤◌, ◌<◌}
use Rattle.std.specs.Prelude.{◌≡◌, Bool, true, false, cond, not, List, length, take, drop, eqb, Result, Ok, Err}
use Rattle.std.proofs.Math.Path.{refl, sym}
use Rattle.std.proofs.Common.{ap, ◌∙◌, length-drop, take_all, Fits, add-one, arith}
use Rattle.std.specs.Int.{w32, w64}
use borrow.Author.Tests.{lt-ltb, le-ltb, eq-eqb, ne_eqb}
use Rattle.reply.specs.declared.Refusal.{Refusal}
use Rattle.reply.specs.declared.Refusal.TheVariants.{BadArgument}
use Rattle.reply.specs.Refusals.{Check}
use Rattle.transient.specs.declared.sizes.Sizes.{Sizes}
use Rattle.transient.specs.Store.{Table, store, table, sizes_of, outcome}
use Rattle.transient.specs.Entry.{entry_check}
use Rattle.transient.specs.Calls.{Changed, changed, refused}
use Rattle.transient.specs.Requires.{Entered, entered-notes}
use Rattle.transient.specs.Passed.{passing}
use Rattle.transient.specs.Again.{kept-entered}
use Rattle.jobs.specs.Job.{job}
use Rattle.jobs.specs.Way.{way_in}
use Rattle.jobs.specs.Laws.{way-operating}
use Rattle.job_new.specs.Stages.{new_open}
use Rattle.job_set.specs.Stages.{set_opened}
use Rattle.job_delete.specs.Stages.{delete_open}
use Rattle.job_batch.specs.declared.Batch.{Batch}
use Rattle.job_batch.specs.declared.Kind.{Kind}
use Rattle.job_batch.specs.declared.Kind.TheVariants.{New, Set, Delete}
use Rattle.job_batch.specs.Batch.{change_at, kind_of, job_of, bad_list, batch_jobs}
use Rattle.job_batch.specs.Stages.{Batched, batched, by_kind, kind_in, ended_at, change_open, changes_open, batch_sized}
use Rattle.job_batch.specs.Requires.{Changing, Narrow, Whole, Listed, entered-narrow, list-whole, change-room, change-words, change-entered, change-long, change-valued}
use Rattle.job_batch.specs.OneByOne.{change-kept, beside, batch-is}

-- ---- the list's shape
module _ (z : Sizes) (list : List ℕ) where
  pub list-many : 64 * (z.w + 1) < length list → true ≡ bad_list z list
  unfolding bad_list
  list-many h = rw (lt-ltb (64 * (z.w + 1)) (length list) h)

  pub list-parts : length list ≤ 64 * (z.w + 1) → not (eqb (length list % (z.w + 1)) 0) ≡ bad_list z list
  unfolding bad_list
  list-parts h = rw (le-ltb (64 * (z.w + 1)) (length list) h)

pub narrow-words : {z : Sizes} → Narrow z → Fits w64 (z.w + 1)
narrow-words y = omega (arith, y.width-hi)

pub narrow-list : {z : Sizes} → Narrow z → Fits w64 (64 * (z.w + 1))
narrow-list y = omega (arith, y.width-hi)

-- ---- a change
pub change-first : {wk tr : List ℕ} {z : Sizes} {c : List ℕ} → Changing wk tr z c → 0 < length c
change-first y = omega (arith, change-long y)

pub change-second : {wk tr : List ℕ} {z : Sizes} {c : List ℕ} → Changing wk tr z c → 1 < length c
change-second y = omega (arith, change-long y)

rest-is : (c : List ℕ) → take (length c - 2) (drop 2 c) ≡ drop 2 c
rest-is c = take_all (length c - 2) (drop 2 c) (simp length-drop (omega arith))

-- by what its kind is read as
abbrev by_read : {A : Type 0} → Result Kind Refusal → A → A → A → (Refusal → A) → A
by_read (Ok New) new set delete declined = new
by_read (Ok Set) new set delete declined = set
by_read (Ok Delete) new set delete declined = delete
by_read (Err r) new set delete declined = declined r

kind-read : {A : Type 0} (x : ℕ) (new set delete : A) (declined : Refusal → A)
    → by_kind x new set delete (declined BadArgument) ≡ by_read (kind_in x) new set delete declined
kind-read x new set delete declined = go (eqb x 1) (eqb x 2) (eqb x 3)
  where
    go : (a b c : Bool)
        → cond a new (cond b set (cond c delete (declined BadArgument)))
        ≡ by_read (cond a (Ok New) (cond b (Ok Set) (cond c (Ok Delete) (Err BadArgument)))) new set delete declined
    go true b c = refl
    go false true c = refl
    go false false true = refl
    go false false false = refl

module _ (z : Sizes) (tb : Table) (e : ℕ) (c : List ℕ) where
  pub change-nameless : (job_of c).key ≡ 0 → refused BadArgument tb ≡ change_open z tb e c
  unfolding change_open
  change-nameless k = rw (eq-eqb (job_of c).key 0 k)

  module _ {q : Result Kind Refusal} (k : (job_of c).key ≡ 0 → ⊥) (qe : q ≡ kind_in (kind_of c)) where
    -- `declined` is free but for what it makes of BadArgument, the one refusal that a kind has
    change-by : (declined : Refusal → Changed) → declined BadArgument ≡ refused BadArgument tb
        → change_open z tb e c ≡ by_read q (new_open z tb (job_of c) e) (set_opened z tb (job_of c) e) (delete_open z tb (job_of c).key e) declined
    unfolding change_open
    change-by declined same = rw (ne_eqb (job_of c).key 0 k, qe, ← same) (kind-read (kind_of c) _ _ _ declined)

    by-kind : change_open z tb e c ≡ by_read q (new_open z tb (job_of c) e) (set_opened z tb (job_of c) e) (delete_open z tb (job_of c).key e) (λ r. refused r tb)
    by-kind = change-by (λ r. refused r tb) refl

    pub change-unknown : {r : Refusal} → q ≡ Err r → refused r tb ≡ change_open z tb e c
    change-unknown d = rw (by-kind, d)

    -- .. and the refusal of a kind is always this one
    pub change-refused : {r : Refusal} → q ≡ Err r → refused BadArgument tb ≡ change_open z tb e c
    change-refused d = rw (change-by (λ r. refused BadArgument tb) refl, d)

    module _ {x : Changed} where
      pub change-new : q ≡ Ok New → x ≡ new_open z tb (job (job_of c).key (take (length c - 2) (drop 2 c))) e → x ≡ change_open z tb e c
      change-new a h = rw (by-kind, a) (rw (rest-is c) at h)

      pub change-set : q ≡ Ok Set → x ≡ set_opened z tb (job (job_of c).key (take (length c - 2) (drop 2 c))) e → x ≡ change_open z tb e c
      change-set a h = rw (by-kind, a) (rw (rest-is c) at h)

      pub change-delete : q ≡ Ok Delete → x ≡ delete_open z tb (job_of c).key e → x ≡ change_open z tb e c
      change-delete a h = rw (by-kind, a) h

-- ---- the changes so far: `more` are to come, and the rest from here is the whole
pub record Batching (z : Sizes) (e : ℕ) (list wk₀ tr₀ : List ℕ) (k : ℕ) (wk tr : List ℕ) : Type 0 where
  pub more : ℕ
  pub working : length wk ≡ length wk₀
  pub transient : length tr ≡ length tr₀
  pub entered : Entered wk tr z
  pub all : k + more ≡ length list / (z.w + 1)
  pub whole : Whole z list (length list / (z.w + 1))
  pub same : changes_open z e list 0 (length list / (z.w + 1)) (table wk₀ tr₀) ≡ changes_open z e list k more (table wk tr)

pub batch-start : {z : Sizes} (e : ℕ) {list wk tr : List ℕ} → Listed wk tr z list → Batching z e list wk tr 0 wk tr
batch-start {z} e {list} y =
    record { more = length list / (z.w + 1); working = refl; transient = refl; entered = y.entered; all = omega arith; whole = y.whole; same = refl }

module _ {z : Sizes} {e : ℕ} {list wk₀ tr₀ : List ℕ} {k : ℕ} {wk tr : List ℕ} (y : Batching z e list wk₀ tr₀ k wk tr) where
  pub batch-done : length list / (z.w + 1) ≤ k
      → batched (record { accepted = length list / (z.w + 1); ended = Ok tt }) wk tr ≡ changes_open z e list 0 (length list / (z.w + 1)) (table wk₀ tr₀)
  unfolding changes_open
  batch-done h =
      let none : y.more ≡ 0 = omega (arith, y.all) in
      let end : k ≡ length list / (z.w + 1) = omega (arith, y.all) in
      sym (y.same ∙ rw (none, end))

  pub batch-fits : k < length list / (z.w + 1) → Fits w32 k
  batch-fits h = omega (arith, y.whole.few)

  module _ (h : k < length list / (z.w + 1)) where
    again : suc (y.more - 1) ≡ y.more
    again = omega (arith, y.all)

    pub batch-room : (z.w + 1) * k + z.w + 1 ≤ length list
    batch-room = omega (arith, change-room y.whole k h)

    part-is : take ((z.w + 1) * k + z.w + 1 - (z.w + 1) * k) (drop ((z.w + 1) * k) list) ≡ change_at z list k
    part-is = let q : (z.w + 1) * k + z.w + 1 - (z.w + 1) * k ≡ z.w + 1 = omega arith in rw q

    pub batch-changing : Changing wk tr z (take ((z.w + 1) * k + z.w + 1 - (z.w + 1) * k) (drop ((z.w + 1) * k) list))
    batch-changing = record { entered = y.entered; words = ap length part-is ∙ change-words y.whole k h }

    module _ {r : Check} {wk' tr' : List ℕ} (x : changed r wk' tr' ≡ change_open z (table wk tr) e (take ((z.w + 1) * k + z.w + 1 - (z.w + 1) * k) (drop ((z.w + 1) * k) list))) where
      is : changed r wk' tr' ≡ change_open z (table wk tr) e (change_at z list k)
      is = rw part-is at x

      next-on : (more : ℕ) → r ≡ Ok tt → changes_open z e list k (suc more) (table wk tr) ≡ changes_open z e list (suc k) more (table wk' tr')
      unfolding changes_open
      next-on more q = rw (← is, q)

      next-refused : (more : ℕ) {d : Refusal} → r ≡ Err d → changes_open z e list k (suc more) (table wk tr) ≡ ended_at k (Err d) (table wk' tr')
      unfolding changes_open
      next-refused more q = rw (← is, q)

      pub batch-on : length wk' ≡ length wk → length tr' ≡ length tr → r ≡ Ok tt → Batching z e list wk₀ tr₀ (k + 1) wk' tr'
      batch-on a d q =
          record {
            more = y.more - 1;
            working = a ∙ y.working;
            transient = d ∙ y.transient;
            entered = kept-entered y.entered (rw (← is) at (change-kept y.entered e (change_at z list k)));
            all = omega (arith, y.all);
            whole = y.whole;
            same = rw (add-one k) (rw (← again) at y.same ∙ next-on (y.more - 1) q);
          }

      pub batch-ends : {d : Refusal} → r ≡ Err d → batched (record { accepted = k; ended = Err d }) wk' tr' ≡ changes_open z e list 0 (length list / (z.w + 1)) (table wk₀ tr₀)
      batch-ends q = sym (rw (← again) at y.same ∙ next-refused (y.more - 1) q)

-- what the code asks of the numbers
pub list-fits : {wk tr : List ℕ} {z : Sizes} {list : List ℕ} → Listed wk tr z list → Fits w32 (length list / (z.w + 1))
list-fits y = omega (arith, y.whole.few)

-- ---- 5, 7 and 8 for the whole list
module _ (z : Sizes) (tb : Table) (thread : ℕ) (list : List ℕ) (b : Bool) {k : Result ℕ Refusal} (be : b ≡ bad_list z list) (way : k ≡ way_in z tb.transient thread b) where
  pub list-declined : {r : Refusal} → k ≡ Err r → ended_at 0 (Err r) tb ≡ batch_sized thread list z tb
  unfolding batch_sized
  list-declined a = rw (← be, ← way, a)

  pub list-goes : {e : ℕ} {x : Batched} → k ≡ Ok e → x ≡ changes_open z e list 0 (length list / (z.w + 1)) tb → x ≡ batch_sized thread list z tb
  unfolding batch_sized
  list-goes a p = rw (← be, ← way, a) p

pub list-listed : {wk tr : List ℕ} {z : Sizes} (thread : ℕ) (list : List ℕ) (b : Bool) {k : Result ℕ Refusal} {e : ℕ} → b ≡ bad_list z list → k ≡ way_in z tr thread b → k ≡ Ok e → Entered wk tr z → Listed wk tr z list
list-listed {tr = tr} {z} thread list b be way a y =
    record { entered = y; whole = list-whole z list (sym be ∙ (way-operating z tr thread b (sym way ∙ a)).fine) }

-- ---- 1 and 2
module _ (wk l tr : List ℕ) (thread : ℕ) (list : List ℕ) {k : Check} (c : k ≡ entry_check (store wk l tr)) where
  pub batch-refused : {r : Refusal} → k ≡ Err r → outcome (record { accepted = 0; ended = Err r }) wk l tr ≡ batch_jobs (store wk l tr) thread list
  unfolding batch_jobs
  batch-refused a = rw (← c, a)

  pub batch-enters : {z : Sizes} {th : ℕ} {q : Batch} {wk' tr' : List ℕ} → k ≡ Ok tt → z ≡ sizes_of (table wk tr) → th ≡ thread
      → batched q wk' tr' ≡ batch_sized th list z (table wk tr) → outcome q wk' l tr' ≡ batch_jobs (store wk l tr) thread list
  batch-enters a e i h = ap (beside (store wk l tr)) (rw (i, e) at h) ∙ sym (batch-is (store wk l tr) thread list (sym c ∙ a))

pub ruleset laws = (entered-notes, entered-narrow, narrow-words, narrow-list, list-many, list-parts, change-first, change-second, change-entered, change-long, change-valued, change-nameless, change-new, change-set, change-delete, change-unknown, change-refused, list-fits, batch-start, batch-done, batch-room, batch-fits, batch-changing, batch-on, batch-ends, list-declined, list-goes, list-listed)

-- the whole call
pub ruleset entering = (batch-refused, batch-enters, passing)
