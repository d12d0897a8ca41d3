-- The ways of a step: it reclaims a slot, stores one of a slot's two lines, or ticks. What holds of each holds of every step.
use Rattle.std.specs.Prelude.{ℕ, ◌<◌, ◌≡◌, Bool, true, false, cond, ◌&&◌, eqb, Option, Some, None}
use Rattle.std.proofs.Math.Path.{refl}
use Rattle.std.proofs.Math.Dec.{leb}
use Rattle.search.specs.First.{where_found, found_first}
use Rattle.transient.specs.declared.sizes.Sizes.{Sizes}
use Rattle.transient.specs.Store.{Store, table_of}
use Rattle.step.specs.declared.Place.{Place}
use Rattle.step.specs.Step.{reclaim_next, contents_next, header_next, clock_next, Stepped, due, reclaimed, contents_flushed, header_flushed, ticking, flush_from, reclaim_from, step}
use Rattle.step.specs.Stages.{due_from, waiting_from}

module _ (P : Stepped → Type 0) (z : Sizes) (st : Store) (c : ℕ) (reclaims : (s : ℕ) → s < z.n → P (reclaimed z st s)) (line : (s : ℕ) → P (contents_flushed z st s))
    (head : (s : ℕ) → P (header_flushed z st s)) (ticks : P (ticking z st c)) where
  flush-way : (p : ℕ) → P (flush_from z st c p)
  unfolding flush_from waiting_from
  flush-way p = go (waiting_from z st.transient c p)
    where
      go : (f : Option ℕ) → P (where_found f (contents_flushed z st) (ticking z st c))
      go (Some s) = line s
      go None = ticks

  reclaim-way : (p : ℕ) → P (reclaim_from z st c p)
  unfolding reclaim_from due_from
  reclaim-way p = go (due_from z (table_of st) c p) refl
    where
      go : (f : Option ℕ) → due_from z (table_of st) c p ≡ f → P (where_found f (reclaimed z st) (flush_from z st c 0))
      go (Some s) e = reclaims s (found_first (λ m. leb p m && due z (table_of st) c m) z.n e).below
      go None e = flush-way 0

  either : (b : Bool) (x y : Stepped) → P x → P y → P (cond b x y)
  either true x y p q = p
  either false x y p q = q

  pub every_way : (p : Place) → P (step z st c p)
  unfolding step
  every_way p =
      either (eqb p.phase reclaim_next) _ _ (reclaim-way p.slot)
      (either (eqb p.phase contents_next) _ _ (flush-way p.slot)
      (either (eqb p.phase header_next) _ _ (head p.slot)
      (either (eqb p.phase clock_next) _ _ ticks (reclaim-way 0))))
