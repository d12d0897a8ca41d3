-- The two searches of an advance: what is due, and what waits.
use Rattle.std.specs.Prelude.{ℕ, ◌-◌, ◌≡◌, List, Option, Some}
use Rattle.search.specs.From.{first_from, Between, found_between}
use Rattle.transient.specs.declared.sizes.Sizes.{Sizes}
use Rattle.transient.specs.Layout.{is_waiting}
use Rattle.transient.specs.Store.{Table}
use Rattle.step.specs.Step.{due}
use Rattle.step.specs.Stages.{due_from, waiting_from}

pub due-is : (z : Sizes) (tb : Table) (c p : ℕ) {f : Option ℕ} → f ≡ first_from (due z tb c) z.n p → f ≡ due_from z tb c p
unfolding due_from first_from
due-is z tb c p e = e

pub due-between : (z : Sizes) (tb : Table) (c p : ℕ) {s : ℕ} → due_from z tb c p ≡ Some s → Between z.n p s
unfolding due_from first_from
due-between z tb c p e = found_between (due z tb c) z.n p e

pub waiting-between : (z : Sizes) (tr : List ℕ) (c p : ℕ) {s : ℕ} → waiting_from z tr c p ≡ Some s → Between z.n p s
unfolding waiting_from first_from
waiting-between z tr c p e = found_between (is_waiting tr (c - 1)) z.n p e
