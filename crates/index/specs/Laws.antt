-- What an insertion or a removal leaves: it touches the index alone.
use Rattle.std.specs.Prelude.{ℕ, zero, suc, ◌≤◌, ◌<◌, ◌≡◌, refl, true, false, List, length, set}
use Rattle.std.proofs.Common.{◌∙◌, ⊎_elim, length-set, get_or-set_other, arith}
use Rattle.search.specs.Bools.{cases}
use Rattle.image.specs.Layout.{is_filled, header}
use Rattle.image.specs.declared.name.Name.{Name}
use Rattle.image.specs.Name.{name_at}
use Rattle.transient.specs.declared.sizes.Sizes.{Sizes}
use Rattle.transient.specs.Layout.{index_at, link_at}
use Rattle.transient.specs.Laws.{IndexOnly}
use Rattle.chains.specs.Requires.{spot-low}
use Rattle.index.specs.Index.{bucket_of, place_of, on_chain, inserted, removed, rebuilt}
use Rattle.index.specs.Walk.{place-first, place-on, place-off}

pub bucket-low : (n : ℕ) (name : Name) → 0 < n → bucket_of n name < n
unfolding bucket_of
bucket-low n name h = spot-low n _ h

-- a link stands in the index
pub place-index : (z : Sizes) (tr : List ℕ) (b s : ℕ) → index_at z ≤ place_of z tr b s
place-index z tr b zero = rw (place-first z tr b) (omega arith)
place-index z tr b (suc s) =
    ⊎_elim
    (λ t. rw (place-on z tr b s t) (omega arith))
    (λ f. rw (place-off z tr b s f) (place-index z tr b s))
    (cases (on_chain z tr b s))

-- ---- a word of the index set, one change after another, and none
word-only : (z : Sizes) (tr : List ℕ) (i v : ℕ) → index_at z ≤ i → IndexOnly z tr (set tr i v)
word-only z tr i v h = record { long = length-set tr i v; words = λ j l. get_or-set_other tr i j v 0 (λ q. omega arith) }

only_then : {z : Sizes} {a b c : List ℕ} → IndexOnly z a b → IndexOnly z b c → IndexOnly z a c
only_then x y = record { long = y.long ∙ x.long; words = λ j h. y.words j h ∙ x.words j h }

only_same : {z : Sizes} {tr : List ℕ} → IndexOnly z tr tr
only_same = record { long = refl; words = λ j h. refl }

-- ---- .. so a slot that joins or leaves, and all of them that join
module _ (z : Sizes) (tr : List ℕ) (name : Name) (s : ℕ) where
  pub inserted-only : IndexOnly z tr (inserted z tr name s)
  unfolding inserted
  inserted-only =
      only_then
      (word-only z tr (link_at z s) _ (omega arith))
      (word-only z _ (place_of z tr (bucket_of z.n name) s) (suc s) (place-index z tr (bucket_of z.n name) s))

  pub removed-only : IndexOnly z tr (removed z tr name s)
  unfolding removed
  removed-only = word-only z tr (place_of z tr (bucket_of z.n name) s) _ (place-index z tr (bucket_of z.n name) s)

  pub inserted-long : length (inserted z tr name s) ≡ length tr
  inserted-long = inserted-only.long

  pub removed-long : length (removed z tr name s) ≡ length tr
  removed-long = removed-only.long

pub rebuilt-only : (z : Sizes) (wk tr : List ℕ) (k : ℕ) → IndexOnly z tr (rebuilt z wk tr k)
unfolding rebuilt
rebuilt-only z wk tr zero = only_same
rebuilt-only z wk tr (suc k) =
    ⊎_elim
    (λ (t : is_filled (header wk k) ≡ true).
    let new = inserted z tr (name_at wk z.n z.w k) k in
    rw t (only_then (inserted-only z tr (name_at wk z.n z.w k) k) (rebuilt-only z wk new k)))
    (λ (f : is_filled (header wk k) ≡ false). rw f (rebuilt-only z wk tr k))
    (cases (is_filled (header wk k)))
