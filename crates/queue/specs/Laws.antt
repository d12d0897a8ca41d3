-- What a look-up of the front says; and that the front is a slot of the table.
use Rattle.reply.specs.declared.Refusal.TheVariants.{Newer}
use Rattle.std.specs.Prelude.{ℕ, ◌<◌, true, false, Option, Some, None, Ok, Err}
use Rattle.std.proofs.Math.Path.{◌≡◌}
use Rattle.std.proofs.Math.Logic.{⊎_elim}
use Rattle.std.proofs.Common.{arith}
use Rattle.search.specs.Bools.{cases}
use Rattle.search.specs.Some.{any_of}
use Rattle.search.specs.Least.{least-found}
use Rattle.transient.specs.declared.sizes.Sizes.{Sizes}
use Rattle.transient.specs.Store.{Table}
use Rattle.table.specs.Requires.{looked_up}
use Rattle.queue.specs.Front.{entry_newer_at, entry_at, front_slot, front_lookup}

module _ (z : Sizes) (tb : Table) where
  pub front_below : (s : ℕ) → front_slot z tb ≡ Some s → s < z.n
  unfolding front_slot
  front_below s e = (least-found (entry_at z tb) _ z.n s e).below

  -- a front that is looked up: refusal 9 is passed, and the slot is the front's
  pub record Faced (e s : ℕ) : Type 0 where
    pub newest : any_of (entry_newer_at tb.working e) z.n ≡ false
    pub found : front_slot z tb ≡ Some s

  pub front-faced : (e s : ℕ) → front_lookup z tb e ≡ Ok (Some s) → Faced e s
  unfolding front_lookup
  front-faced e s h =
      ⊎_elim
      (λ (y : any_of (entry_newer_at tb.working e) z.n ≡ true). let q : Err Newer ≡ Ok (Some s) = rw y at h in let x : ◌≡◌ {A = ℕ} 0 1 = cc in absurd (omega arith))
      (λ (y : any_of (entry_newer_at tb.working e) z.n ≡ false). record { newest = y; found = go (front_slot z tb) (rw y at h) })
      (cases (any_of (entry_newer_at tb.working e) z.n))
    where
      go : (f : Option ℕ) → looked_up f ≡ Ok (Some s) → f ≡ Some s
      go (Some u) r = let x : u ≡ s = cc in rw x
      go None r = let x : ◌≡◌ {A = ℕ} 0 1 = cc in absurd (omega arith)

  pub front-lookup-below : (e s : ℕ) → front_lookup z tb e ≡ Ok (Some s) → s < z.n
  front-lookup-below e s h = front_below s (front-faced e s h).found
