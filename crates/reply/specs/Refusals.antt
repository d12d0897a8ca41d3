-- The numbers of refusals, and the order in which a call asks for them.
use Rattle.std.specs.Prelude.{ℕ, ◌+◌, ◌≡◌, refl, Bool, true, false, cond, Option, Some, None, Result, Ok, Err, ok_or}
use Rattle.std.proofs.Common.{sym, ◌∙◌, arith}
use Rattle.reply.specs.declared.Refusal.{Refusal}
use Rattle.reply.specs.declared.Refusal.TheVariants.{BadSizes, BadClock, BadSlot, Duplicate, NoThread, AlreadyOpen, NotOpen, BadArgument, Newer, NoJob, JobExists, NoUid, Full, StillOpen, LastEpoch, NoWord, QueueEmpty}

-- 01, "Where each call can decline": the column "No."; 02, No. 3: "17 for take and look on an empty queue"
abbrev pub refusal_number : Refusal → ℕ
refusal_number BadSizes = 1
refusal_number BadClock = 2
refusal_number BadSlot = 3
refusal_number Duplicate = 4
refusal_number NoThread = 5
refusal_number AlreadyOpen = 6
refusal_number NotOpen = 7
refusal_number BadArgument = 8
refusal_number Newer = 9
refusal_number NoJob = 10
refusal_number JobExists = 11
refusal_number NoUid = 12
refusal_number Full = 13
refusal_number StillOpen = 14
refusal_number LastEpoch = 15
refusal_number NoWord = 16
refusal_number QueueEmpty = 17

-- a case of the enum, told apart
pub number_of : {r q : Refusal} {k : ℕ} → r ≡ q → k ≡ refusal_number q → k ≡ refusal_number r
number_of e h = rw e h

-- a check's answer: accepted, or why not
abbrev pub Check : Type 0
Check = Result (Unit {0}) Refusal

-- 01: "Each comes back as one 64-bit number, or 4,294,967,296 plus the number of the recovery refusal."
abbrev pub declined_number : Refusal → ℕ
declined_number r = 4294967296 + refusal_number r

-- 01: "Within a call the lowest number that applies is returned": where the condition holds that refusal, else what follows
abbrev pub refuse : Bool → Refusal → Check → Check
refuse b r rest = cond b (Err r) rest

-- by a check's verdict: what a refusal gives, or what follows
abbrev pub by_check : {A : Type 0} → Check → (Refusal → A) → A → A
by_check (Ok _) declined next = next
by_check (Err r) declined next = declined r

-- an accepted check went past each condition
pub not-refused : (b : Bool) (r : Refusal) (next : Check) → refuse b r next ≡ Ok tt → (b ≡ false) × (next ≡ Ok tt)
not-refused true r next e = let z : ◌≡◌ {A = ℕ} 0 1 = cc in absurd (omega arith)
not-refused false r next e = (refl, e)

-- two checks in a row both accepted
pub both-accepted : (a b : Check) → by_check a Err b ≡ Ok tt → (a ≡ Ok tt) × (b ≡ Ok tt)
both-accepted (Ok _) b e = (refl, e)
both-accepted (Err r) b e = let z : ◌≡◌ {A = ℕ} 0 1 = cc in absurd (omega arith)

-- what `ok_or` answered, told apart
module _ {A : Type 0} (o : Option A) (d : Refusal) {k : Result A Refusal} (e : k ≡ ok_or o d) where
  pub ok-some : {x : A} → k ≡ Ok x → o ≡ Some x
  ok-some {x} a = go o (sym a ∙ e)
    where
      go : (p : Option A) → Ok x ≡ ok_or p d → p ≡ Some x
      go (Some y) q = let u : x ≡ y = cc in rw u
      go None q = let z : ◌≡◌ {A = ℕ} 0 1 = cc in absurd (omega arith)

  pub ok-none : {r : Refusal} → k ≡ Err r → (o ≡ None) × (r ≡ d)
  ok-none {r} a = go o (sym a ∙ e)
    where
      go : (p : Option A) → Err r ≡ ok_or p d → (p ≡ None) × (r ≡ d)
      go (Some y) q = let z : ◌≡◌ {A = ℕ} 0 1 = cc in absurd (omega arith)
      go None q = let u : r ≡ d = cc in (refl, u)
