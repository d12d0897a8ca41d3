-- Set in the stages of its code: in place or by a new version, with what the look-up found, within an open operation, with the sizes.
use Rattle.reply.specs.declared.Refusal.{Refusal}
use Rattle.std.specs.Prelude.{ℕ, ◌≡◌, refl, Bool, true, false, cond, ◌&&◌, List, eqb, Option, Some, None, Ok, Err, Result}
use Rattle.std.proofs.Common.{eqb-true}
use Rattle.search.specs.First.{where_found}
use Rattle.reply.specs.declared.Refusal.TheVariants.{NoJob, Full}
use Rattle.image.specs.Layout.{header, updated_header}
use Rattle.image.specs.Name.{job_name}
use Rattle.transient.specs.declared.sizes.Sizes.{Sizes}
use Rattle.transient.specs.Layout.{set_waiting}
use Rattle.transient.specs.Store.{Table}
use Rattle.transient.specs.Calls.{Changed, changed, accepted, refused, check_number}
use Rattle.table.specs.Find.{by_lookup, lookup, room}
use Rattle.table.specs.Requires.{set_value}
use Rattle.jobs.specs.Job.{Job, bad_job, superseded}
use Rattle.jobs.specs.Way.{way_in, by_way}
use Rattle.job_set.specs.Set.{set_at, same_value, set_live}
use Rattle.reply.specs.Refusals.{Check}

-- in place
unfoldable pub rewritten : Sizes → Table → ℕ → ℕ → List ℕ → Changed
rewritten z tb e s value = changed (Ok tt) (set_value z tb.working s value) (set_waiting tb.transient e s)

-- by a new version
unfoldable pub updated : Sizes → Table → ℕ → ℕ → Job → Changed
updated z tb e s j = superseded (room z tb 2) z tb e s (updated_header e (header tb.working s)) j.key j.value

pub set-at-is : (z : Sizes) (tb : Table) (e s : ℕ) (j : Job)
    → set_at z tb e s j ≡ cond (eqb (header tb.working s).epoch e) (rewritten z tb e s j.value) (updated z tb e s j)
unfolding set_at rewritten updated set_value
set-at-is z tb e s j = refl

-- without one: the same value again, or 13
unfoldable pub resaved : Sizes → List ℕ → ℕ → List ℕ → Check
resaved z wk s value = cond (same_value z wk s value) (Ok tt) (Err Full)

-- by a new version where there is room for one
unfoldable pub renewed : Sizes → Table → ℕ → ℕ → Job → Changed
renewed z tb e s j =
    where_found (room z tb 2) (λ f. superseded (Some f) z tb e s (updated_header e (header tb.working s)) j.key j.value)
    (changed (resaved z tb.working s j.value) tb.working tb.transient)

pub set-live-is : (z : Sizes) (tb : Table) (e s : ℕ) (j : Job)
    → set_live z tb e s j ≡ cond (eqb (header tb.working s).epoch e) (rewritten z tb e s j.value) (renewed z tb e s j)
unfolding set_live updated renewed resaved rewritten
set-live-is z tb e s j = rw (set-at-is z tb e s j) (go (eqb (header tb.working s).epoch e) (room z tb 2) (same_value z tb.working s j.value))
  where
    over : Option ℕ → Changed
    over f = superseded f z tb e s (updated_header e (header tb.working s)) j.key j.value

    go : (b : Bool) (f : Option ℕ) (same : Bool) → (let o = cond b (rewritten z tb e s j.value) (over f) in
        cond (eqb (check_number o.reply) 13 && same) (accepted tb) o
        ≡ cond b (rewritten z tb e s j.value) (where_found f (λ i. over (Some i)) (changed (cond same (Ok tt) (Err Full)) tb.working tb.transient)))
    go true f same = refl
    go false (Some i) same = refl
    go false None true = refl
    go false None false = refl

-- what holds of the same value again, and of a set as it is by itself, holds
pub live-way : (P : Changed → Type 0) (z : Sizes) (tb : Table) (e s : ℕ) (j : Job)
    → (check_number (set_at z tb e s j).reply ≡ 13 → same_value z tb.working s j.value ≡ true → P (accepted tb)) → P (set_at z tb e s j) → P (set_live z tb e s j)
unfolding set_live
live-way P z tb e s j again new = go (eqb (check_number o.reply) 13) (same_value z tb.working s j.value) refl refl
  where
    o : Changed
    o = set_at z tb e s j

    go : (full same : Bool) → eqb (check_number o.reply) 13 ≡ full → same_value z tb.working s j.value ≡ same → P (cond (full && same) (accepted tb) o)
    go true true p q = again (eqb-true _ _ p) q
    go true false p q = new
    go false same p q = new

abbrev pub set_looked : Result (Option ℕ) Refusal → Sizes → Table → ℕ → Job → Changed
set_looked k z tb e j = by_lookup k (λ r. refused r tb) (λ s. set_live z tb e s j) (refused NoJob tb)

unfoldable pub set_opened : Sizes → Table → Job → ℕ → Changed
set_opened z tb j e = set_looked (lookup z tb (job_name j.key) e) z tb e j

unfoldable pub set_sized : ℕ → Job → Sizes → Table → Changed
set_sized thread j z tb = by_way (way_in z tb.transient thread (bad_job z j)) tb (set_opened z tb j)
