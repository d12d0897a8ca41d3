-- The jobs of an accepted image: a job is there with its value where a survivor has them.
use Rattle.std.specs.Prelude.{ℕ, ◌<◌, ◌≡◌, refl, true, ◌↔◌, List, Option, Some, None, Ok}
use Rattle.std.proofs.Common.{sym, ap, ◌∙◌, arith}
use Rattle.std.proofs.Math.Decide.{ℕ_discrete}
use Rattle.search.specs.Bools.{never, and_left, and_right, and_both}
use Rattle.search.specs.First.{first_of, first_of-same, found_first, found_nothing, where_found}
use Rattle.image.specs.Layout.{value_at, slots_of, width_of}
use Rattle.image.specs.declared.name.Name.{Name}
use Rattle.image.specs.Name.{name_at, same-name, name-same}
use Rattle.survival.specs.Survivors.{survivor}
use Rattle.acceptance.specs.Accept.{survives_as, image_check}
use Rattle.recovery.specs.Steps.{SameSurvivors, survivors-apart, survives-same}
use Rattle.crash.specs.Slots.{Value}
use Rattle.guarantee.specs.Promise.{jobs_of}

-- a survivor with the name k and the value v
pub record Survivor (l : List ℕ) (n w : ℕ) (k : Name) (v : Value) : Type 0 where
  pub at : ℕ
  pub below : at < n
  pub survives : survivor l n at ≡ true
  pub name-is : name_at l n w at ≡ k
  pub value-is : value_at l n w at ≡ v

-- two answers with the same values are the same
pub option-same : {A : Type 0} (a b : Option A) → ((v : A) → (a ≡ Some v) ↔ (b ≡ Some v)) → a ≡ b
option-same None None h = refl
option-same None (Some v) h = (h v).1 refl
option-same (Some v) b h = sym ((h v).0 refl)

-- what is found survives with that name
jobs-says : (l : List ℕ) (k : Name) (v : Value) → jobs_of l k ≡ Some v → Survivor l (slots_of l) (width_of l) k v
unfolding jobs_of survives_as
jobs-says l k v e = go (first_of (survives_as l (slots_of l) (width_of l) k) (slots_of l)) refl
  where
    go : (f : Option ℕ) → first_of (survives_as l (slots_of l) (width_of l) k) (slots_of l) ≡ f → Survivor l (slots_of l) (width_of l) k v
    go (Some s) q =
        let f = found_first (survives_as l (slots_of l) (width_of l) k) (slots_of l) q in
        let x = survivor l (slots_of l) s in
        let y : Some (value_at l (slots_of l) (width_of l) s) ≡ Some v = rw q at e in
        record { at = s; below = f.below; survives = and_left x _ f.passes; name-is = same-name _ _ (and_right x _ f.passes); value-is = cc }
    go None q = let y : None ≡ Some v = rw q at e in let z : ◌≡◌ {A = ℕ} 0 1 = cc in absurd (omega arith)

-- .. and what survives is found, for no other has its name
says-jobs : (l : List ℕ) (k : Name) (v : Value) → image_check l ≡ Ok tt → Survivor l (slots_of l) (width_of l) k v → jobs_of l k ≡ Some v
unfolding jobs_of survives_as
says-jobs l k v ok j = go (first_of (survives_as l (slots_of l) (width_of l) k) (slots_of l)) refl
  where
    go : (f : Option ℕ) → first_of (survives_as l (slots_of l) (width_of l) k) (slots_of l) ≡ f → jobs_of l k ≡ Some v
    go (Some s) q =
        let f = found_first (survives_as l (slots_of l) (width_of l) k) (slots_of l) q in
        let x = survivor l (slots_of l) s in
        let name = same-name _ _ (and_right x _ f.passes) in
        rw q
        (elim (ℕ_discrete s j.at) [
          | yes d ↦ rw d (ap Some j.value-is)
          | no d ↦ absurd (survivors-apart l ok s j.at f.below j.below d (and_left x _ f.passes) j.survives (name ∙ sym j.name-is))
        ])
    go None q = never _ (and_both j.survives (name-same _ _ j.name-is)) (found_nothing (survives_as l (slots_of l) (width_of l) k) (slots_of l) q j.at j.below)

-- an accepted image has the job k with the value v where a survivor has them
pub jobs-of : {l : List ℕ} {n w : ℕ} (k : Name) (v : Value) → image_check l ≡ Ok tt → slots_of l ≡ n → width_of l ≡ w
    → (jobs_of l k ≡ Some v) ↔ Survivor l n w k v
jobs-of {l} k v ok p q = rw (← p, ← q) (jobs-says l k v, says-jobs l k v ok)

-- images with the same survivors have the same jobs
pub same-jobs : {l l' : List ℕ} → SameSurvivors l l' → (k : Name) → jobs_of l' k ≡ jobs_of l k
unfolding jobs_of
same-jobs {l} {l'} same k =
    let n = slots_of l in
    let w = width_of l in
    let tests = first_of-same (survives_as l' n w k) (survives_as l n w k) n (λ s h. survives-same same k s h) in
    rw (same.slots, same.width, tests) (values (first_of (survives_as l n w k) n))
  where
    values : (f : Option ℕ) → where_found f (λ s. Some (value_at l' (slots_of l) (width_of l) s)) None ≡ where_found f (λ s. Some (value_at l (slots_of l) (width_of l) s)) None
    values (Some s) = ap Some (same.values s)
    values None = refl
