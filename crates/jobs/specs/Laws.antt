-- What a way in says, and how a call goes on by it.
use Rattle.std.specs.Prelude.{ℕ, ◌-◌, ◌<◌, ◌≡◌, refl, ◌≢◌, Bool, true, false, cond, List, length, leb, eqb, Result, Ok, Err}
use Rattle.std.proofs.Common.{sym, ◌∙◌, arith}
use borrow.Author.Tests.{leb-false, eqb-true, eqb-false, not-false}
use Rattle.search.specs.Bools.{or_left, or_right}
use Rattle.reply.specs.declared.Refusal.{Refusal}
use Rattle.reply.specs.declared.Refusal.TheVariants.{NoThread, NotOpen, BadArgument}
use Rattle.transient.specs.declared.sizes.Sizes.{Sizes}
use Rattle.transient.specs.Layout.{open_epoch}
use Rattle.transient.specs.Store.{Table}
use Rattle.transient.specs.Calls.{Changed, refused}
use Rattle.transient.specs.Requires.{Entered}
use Rattle.jobs.specs.Job.{Job, job, bad_job}
use Rattle.jobs.specs.Way.{way_in, by_way}
use Rattle.jobs.specs.Requires.{Valued}

-- ---- a job that is not bad
module _ (z : Sizes) (j : Job) (fine : bad_job z j ≡ false) where
  pub job-named : j.key ≢ 0
  unfolding bad_job
  job-named = eqb-false j.key 0 (or_left (eqb j.key 0) _ fine)

  pub job-words : length j.value ≡ z.w - 1
  unfolding bad_job
  job-words = eqb-true (length j.value) (z.w - 1) (not-false _ (or_right (eqb j.key 0) _ fine))

-- ---- past refusals 5, 7 and 8
pub record Operating (z : Sizes) (tr : List ℕ) (thread : ℕ) (bad : Bool) (e : ℕ) : Type 0 where
  pub within : thread < z.t
  pub epoch : open_epoch tr thread ≡ e
  pub some : e ≢ 0
  pub fine : bad ≡ false

pub way-operating : (z : Sizes) (tr : List ℕ) (thread : ℕ) (bad : Bool) {e : ℕ} → way_in z tr thread bad ≡ Ok e → Operating z tr thread bad e
unfolding way_in
way-operating z tr thread bad {e} h = go (leb z.t thread) (eqb (open_epoch tr thread) 0) bad refl refl refl h
  where
    go : (a b c : Bool) → leb z.t thread ≡ a → eqb (open_epoch tr thread) 0 ≡ b → bad ≡ c
        → cond a (Err NoThread) (cond b (Err NotOpen) (cond c (Err BadArgument) (Ok (open_epoch tr thread)))) ≡ Ok e → Operating z tr thread bad e
    go true b c p q r w = let x : ◌≡◌ {A = ℕ} 0 1 = cc in absurd (omega arith)
    go false true c p q r w = let x : ◌≡◌ {A = ℕ} 0 1 = cc in absurd (omega arith)
    go false false true p q r w = let x : ◌≡◌ {A = ℕ} 0 1 = cc in absurd (omega arith)
    go false false false p q r w =
        let x : open_epoch tr thread ≡ e = cc in
        record { within = leb-false z.t thread p; epoch = x; some = rw x at (eqb-false (open_epoch tr thread) 0 q); fine = r }

module _ (z : Sizes) (tr : List ℕ) (thread : ℕ) (b : Bool) {e : ℕ} {k : Result ℕ Refusal} (way : k ≡ way_in z tr thread b) (a : k ≡ Ok e) where
  pub way-within : thread < z.t
  way-within = (way-operating z tr thread b (sym way ∙ a)).within

  pub way-valued : {wk : List ℕ} (key : ℕ) (value : List ℕ) → b ≡ bad_job z (job key value) → Entered wk tr z → Valued wk tr z value
  way-valued key value be y =
      record { entered = y; words = job-words z (job key value) (sym be ∙ (way-operating z tr thread b (sym way ∙ a)).fine) }

-- ---- a call goes on by its way
module _ (z : Sizes) (tb : Table) (thread : ℕ) (bad : Bool) (next : ℕ → Changed) {k : Result ℕ Refusal} (way : k ≡ way_in z tb.transient thread bad) where
  pub way-declined : {r : Refusal} → k ≡ Err r → refused r tb ≡ by_way (way_in z tb.transient thread bad) tb next
  way-declined a = rw (← way, a)

  pub way-open : {e : ℕ} {x : Changed} → k ≡ Ok e → x ≡ next e → x ≡ by_way (way_in z tb.transient thread bad) tb next
  way-open a p = rw (← way, a) p

-- ---- a condition that refuses, or what follows
pub declines-way : (P : Changed → Type 0) (tb : Table) (b : Bool) (r : Refusal) (next : Changed) → P (refused r tb) → (b ≡ false → P next)
    → P (cond b (refused r tb) next)
declines-way P tb true r next g h = g
declines-way P tb false r next g h = h refl
