-- A whole recovery: its calls repeated, whatever working and notes hold before each, with cuts as often as may be.
use Rattle.std.specs.Prelude.{ℕ, zero, suc, ◌≡◌, true, ◌⊎◌, List, length, Result, Ok}
use Rattle.image.specs.Torn.{Torn}
use Rattle.transient.specs.Store.{store, Outcome}
use Rattle.recovery.specs.Recover.{lengths_fit, recover}
use Rattle.recovery.specs.declared.Recovery.{Recovery}
use Rattle.recovery.specs.declared.Recovery.TheVariants.{WentOn, Done}
use Rattle.reply.specs.declared.Refusal.{Refusal}

-- "working and notes hold any words. So too in recovery": what they hold before a call, of lengths that fit the lasting image l
pub record AnyWords (l : List ℕ) : Type 0 where
  pub working : List ℕ
  pub transient : List ℕ
  pub fit : lengths_fit (length working) l (length transient) ≡ true

abbrev pub call : (l : List ℕ) → AnyWords l → Outcome (Result Recovery Refusal)
call l any = recover (store any.working l any.transient)

-- the lasting image that a call leaves
abbrev pub left : (l : List ℕ) → AnyWords l → List ℕ
left l any = (call l any).store.persistent

-- recovery "completes when no recover call declines and at most N reply went on before one replies done": here at most `more`
unfoldable pub Completes : ℕ → List ℕ → Type 0
Completes zero l = (any : AnyWords l) → (call l any).reply ≡ Ok Done
Completes (suc more) l = (any : AnyWords l) → ((call l any).reply ≡ Ok Done) ⊎ (((call l any).reply ≡ Ok WentOn) × Completes more (left l any))

-- 02, No. 4, "in recovery too": what a recovery from l has come to, k calls having replied "went on". One that is cut within its store
-- has not replied, and leaves each word as it found it or as it would have left it
pub data Reached (l : List ℕ) : ℕ → List ℕ → Type 0 where
  at_first : Reached l 0 l
  went_on : {k : ℕ} {a : List ℕ} → Reached l k a → (any : AnyWords a) → (call a any).reply ≡ Ok WentOn → Reached l (suc k) (left a any)
  was-cut : {k : ℕ} {a b : List ℕ} → Reached l k a → (any : AnyWords a) → Torn a (left a any) b → Reached l k b
