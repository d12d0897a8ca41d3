-- 02, No. 6: "Wherever it holds each filled slot under its board and key, and no other slot, .. each reply and each image equals what the
-- walk gives": the look-ups as a walk of the whole table, and that with a right index those along a chain are the same.
use Rattle.reply.specs.declared.Refusal.TheVariants.{Newer}
use Rattle.reply.specs.declared.Refusal.{Refusal}
use Rattle.std.specs.Prelude.{ℕ, ◌<◌, ◌≡◌, Bool, true, cond, ◌&&◌, List, Option, Result, Ok, Err}
use Rattle.std.proofs.Math.Dec.{eqb}
use Rattle.search.specs.Bools.{same_test, and_left, and_right, and_both}
use Rattle.search.specs.First.{first_of, first_of-same}
use Rattle.search.specs.Some.{any_of, some_same}
use Rattle.image.specs.Layout.{is_filled, is_payload, header}
use Rattle.image.specs.Whole.{payload-filled}
use Rattle.image.specs.declared.name.Name.{Name}
use Rattle.image.specs.Name.{name_at, same_name, same-name}
use Rattle.transient.specs.declared.sizes.Sizes.{Sizes}
use Rattle.transient.specs.Layout.{retired_in}
use Rattle.transient.specs.Store.{Table, table}
use Rattle.index.specs.Indexed.{Indexed, indexed-listed}
use Rattle.table.specs.Find.{newer_at, live_at, listed, newer_on, live_on, live_slot, lookup}
use Rattle.table.specs.Laws.{Called}

-- "of several live slots with one key, the lowest", among all slots
unfoldable pub walk_live : Sizes → Table → Name → Option ℕ
walk_live z tb name = first_of (live_at z tb name) z.n

-- refusal 9: "a filled slot with this key is labelled above e", whichever slot it is; then the live job
unfoldable pub walk_lookup : Sizes → Table → Name → ℕ → Result (Option ℕ) Refusal
walk_lookup z tb name e = cond (any_of (newer_at z tb.working name e) z.n) (Err Newer) (Ok (walk_live z tb name))

-- ---- a slot that a look-up may find is filled, under the name
module _ (z : Sizes) (name : Name) (s : ℕ) where
  newer-called : (wk : List ℕ) (e : ℕ) → newer_at z wk name e s ≡ true → Called z wk name s
  unfolding newer_at
  newer-called wk e t =
      let full = is_filled (header wk s) in
      let same = same_name (name_at wk z.n z.w s) name in
      record { filled = and_left full _ t; named = same-name _ _ (and_left same _ (and_right full _ t)) }

  pub live-called : (tb : Table) → live_at z tb name s ≡ true → Called z tb.working name s
  unfolding live_at
  live-called tb t =
      let pay = is_payload (header tb.working s) in
      let current = eqb (retired_in z tb.transient s) 0 in
      record { filled = payload-filled _ (and_left pay _ t); named = same-name _ _ (and_right current _ (and_right pay _ t)) }

-- ---- so a right index has it on the chain of the name, and whether it is listed need not be asked
module _ {z : Sizes} {wk tr : List ℕ} (x : Indexed z wk tr) (name : Name) where
  called-listed : (s : ℕ) → s < z.n → Called z wk name s → listed z tr name s ≡ true
  unfolding listed
  called-listed s h c = rw c.named at (indexed-listed x s h c.filled)

  listed-too : (s : ℕ) (b : Bool) → s < z.n → (b ≡ true → Called z wk name s) → listed z tr name s && b ≡ b
  listed-too s b h c = same_test _ b (λ t. and_right (listed z tr name s) b t) (λ t. and_both (called-listed s h (c t)) t)

  pub live-walks : live_slot z (table wk tr) name ≡ walk_live z (table wk tr) name
  unfolding live_slot live_on walk_live
  live-walks = first_of-same _ _ z.n (λ s h. listed-too s (live_at z (table wk tr) name s) h (live-called z name s (table wk tr)))

  newer-walks : (e : ℕ) → any_of (newer_on z (table wk tr) name e) z.n ≡ any_of (newer_at z wk name e) z.n
  unfolding newer_on
  newer-walks e = some_same _ _ z.n (λ s h. listed-too s (newer_at z wk name e s) h (newer-called z name s wk e))

  pub lookup-walks : (e : ℕ) → lookup z (table wk tr) name e ≡ walk_lookup z (table wk tr) name e
  unfolding lookup walk_lookup
  lookup-walks e = rw (newer-walks e, live-walks)
