-- What follows of one slot alone, and `Live` as omega reads it.
use Rattle.std.specs.Prelude.{ℕ, suc, ◌+◌, ◌-◌, ◌≤◌, min, ◌≡◌, ◌≢◌}
use Rattle.std.proofs.Common.{inl, inr, arith}
use Rattle.std.proofs.Math.Decide.{ℕ_discrete}
use Rattle.image.specs.Name.{names-meet}
use Rattle.image.specs.Whole.{Whole}
use Rattle.crash.specs.Slots.{Entry, Slot, Filled, Proper, Worded, head_of, SameHead, SameLine, Live, Waits, Flushed, Underway}
use Rattle.crash.specs.Steps.{at_rest}

-- `Live` as a linear statement, so that omega reads it and proves it
pub live-num : (e r : ℕ) → Live e r → min r (suc e - r) ≡ 0
live-num e r (inl h) = omega arith
live-num e r (inr h) = omega arith

-- .. and back
pub num-live : (e r : ℕ) → min r (suc e - r) ≡ 0 → Live e r
num-live e r h = elim (ℕ_discrete r 0) [ yes z ↦ inl z | no z ↦ inr (omega arith) ]

-- for omega
pub ruleset slotty = (arith, live-num, num-live)

-- an entry with an epoch is filled
pub proper-filled : {c : ℕ} {x : Entry} → Proper c x → 1 ≤ x.epoch → Filled x
proper-filled {c} {x} p h = elim (ℕ_discrete x.kind 0) [ yes z ↦ absurd (omega (arith, p.free-epoch z)) | no z ↦ omega arith ]

-- an entry with the header of a proper one has each word within its bounds
pub proper-worded : {c : ℕ} {x y : Entry} → SameHead x y → Proper c y → Worded c x
proper-worded {c} {x} {y} q p =
    record {
      kind-hi = omega (arith, p.kind-hi);
      epoch-lo = λ h. rw q.epoch-is (p.epoch-lo (proper-filled p (omega arith)));
      epoch-hi = omega (arith, p.epoch-hi);
      uid-hi = omega (arith, p.uid-hi);
      board-hi = omega (arith, p.board-hi);
    }

-- .. and of one that is filled none is 0
pub proper-whole : {c : ℕ} {x : Entry} → Proper c x → Filled x → Whole (head_of x)
proper-whole p f = record { kind-lo = f; epoch-lo = omega (arith, p.epoch-lo f); uid-lo = p.uid-lo f; board-lo = p.board-lo f }

-- a header and contents make the name
pub same-named : {x y : Entry} → SameHead x y → SameLine x y → x.name ≡ y.name
same-named h l = names-meet h.board-is l.key-is

-- an old entry waits in no list
pub old-waits : {c : ℕ} {x : Entry} {a : Slot} → x.epoch + 2 ≤ c → Waits c x a
old-waits h = record { in-now = λ e. absurd (omega arith); in-before = λ e. absurd (omega arith) }

-- with no entry of c - 1 a slot is written back
pub quiet-flushed : {c : ℕ} {a : Slot} → a.working.epoch + 1 ≢ c → a.persistent.epoch + 1 ≢ c → Flushed c a
quiet-flushed p q = record { head = λ h. absurd (p h); line = λ h. absurd (p h); stray = λ h. absurd (q h) }

-- at rest nothing is owed
pub rest-underway : {c s : ℕ} {a : Slot} → Underway c at_rest s a
rest-underway = record { swept = λ h. absurd (omega arith); flushed = λ h. absurd (omega arith); half = λ h. absurd (omega arith) }
