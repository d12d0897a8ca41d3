-- Get/set laws of filling a slot and of rewriting its value; and that a slot found is one of the table.
use Rattle.reply.specs.declared.Refusal.TheVariants.{Newer}
use Rattle.std.specs.Prelude.{ℕ, zero, suc, ◌+◌, ◌<◌, ◌≢◌, true, false, length, set, Option, Some, None, Ok, Err}
use Rattle.std.proofs.Math.Path.{◌≡◌, refl, ap}
use Rattle.std.proofs.Common.{sym, ◌∙◌}
use Rattle.std.proofs.Math.Logic.{⊎_elim}
use mathlib.Core.List.{List, ◌∷◌}
use Rattle.std.proofs.Math.ListN.{get_or}
use Rattle.std.proofs.lemmas.List.{set-get_or}
use Rattle.std.proofs.Math.Dec.{leb}
use native.Mathlib.Omega.{arith}
use Rattle.search.specs.Bools.{cases}
use Rattle.search.specs.First.{found_first}
use Rattle.search.specs.Count.{count}
use Rattle.search.specs.Ring.{first_round, round-found}
use Rattle.image.specs.declared.header.Header.{Header}
use Rattle.image.specs.Layout.{contents_at, is_filled, header, contents, key_at}
use Rattle.image.specs.Line.{header_line, contents_line, stored, store_line}
use Rattle.image.specs.declared.name.Name.{Name}
use Rattle.image.specs.Name.{name_at}
use Rattle.image.specs.Requires.{Slot, slot-header, slot-after}
use Rattle.image.specs.Laws.{length-store, header-same, header-other, contents-past-header, front-past-header, contents-same, contents-other, header-past-contents, front-past-contents}
use Rattle.transient.specs.declared.sizes.Sizes.{Sizes}
use Rattle.transient.specs.Layout.{note, last_at}
use Rattle.transient.specs.Store.{Table}
use Rattle.table.specs.Find.{live_on, live_slot, lookup, free_at, room}
use Rattle.table.specs.Fill.{filled_slot}
use Rattle.table.specs.Requires.{newer, looked_up, set_value}

-- ---- a filled slot
module _ (z : Sizes) (l : List ℕ) (s : ℕ) (h : Header) (words : List ℕ) where
  held : List ℕ
  held = store_line l (contents_line z.n z.w s words)

  pub length-filled : length (filled_slot z l s h words) ≡ length l
  unfolding filled_slot held
  length-filled = length-store held (header_line s h) ∙ length-store l (contents_line z.n z.w s words)

  pub front-filled : (j : ℕ) → j < 3 → get_or (filled_slot z l s h words) j 0 ≡ get_or l j 0
  unfolding filled_slot held
  front-filled j k = front-past-header held s j h k ∙ front-past-contents l z.n z.w s j words k

  pub header-filled : Slot l z.n z.w s → header (filled_slot z l s h words) s ≡ h
  unfolding filled_slot
  header-filled y = header-same h (slot-header (slot-after (length-store l (contents_line z.n z.w s words)) y))

  pub header-filled-other : (m : ℕ) → m < z.n → m ≢ s → header (filled_slot z l s h words) m ≡ header l m
  unfolding filled_slot held
  header-filled-other m k d = header-other held s m h d ∙ header-past-contents l z.n z.w s m words k

  pub contents-filled : Slot l z.n z.w s → length words ≡ z.w → contents (filled_slot z l s h words) z.n z.w s ≡ words
  unfolding filled_slot held
  contents-filled y e = contents-past-header held z.n z.w s s h y.within ∙ contents-same words e y

  pub contents-filled-other : (m : ℕ) → s < z.n → length words ≡ z.w → m ≢ s → contents (filled_slot z l s h words) z.n z.w m ≡ contents l z.n z.w m
  unfolding filled_slot held
  contents-filled-other m k e d = contents-past-header held z.n z.w s m h k ∙ contents-other l z.n z.w s m words e d

-- ---- a key stored, then the value: that is the contents
stored-cons : (l : List ℕ) (b key : ℕ) (value : List ℕ) (j : ℕ) → stored (set l b key) (b + 1) value j ≡ stored l b (key ∷ value) (suc j)
unfolding stored
stored-cons l b key value zero = let e : b + 0 ≡ b = omega arith in rw e
stored-cons l b key value (suc j) = let e : b + suc j ≡ b + 1 + j = omega arith in rw (stored-cons l b key value j, e)

module _ (z : Sizes) (l : List ℕ) (s : ℕ) (value : List ℕ) where
  pub key-then-value : (key : ℕ) → set_value z (set l (contents_at z.n z.w s) key) s value ≡ store_line l (contents_line z.n z.w s (key ∷ value))
  unfolding set_value store_line
  key-then-value key = stored-cons l (contents_at z.n z.w s) key value (length value)

  -- a value rewritten in place: the contents with the old key
  pub value-is-contents : set_value z l s value ≡ store_line l (contents_line z.n z.w s (key_at l z.n z.w s ∷ value))
  unfolding key_at
  value-is-contents =
      let k = get_or l (contents_at z.n z.w s) 0 in
      ap (λ (x : List ℕ). set_value z x s value) (sym (set-get_or l (contents_at z.n z.w s) 0)) ∙ key-then-value k

-- ---- a slot that a look-up may find: filled, under the name
pub record Called (z : Sizes) (wk : List ℕ) (name : Name) (s : ℕ) : Type 0 where
  pub filled : is_filled (header wk s) ≡ true
  pub named : name_at wk z.n z.w s ≡ name

-- ---- a slot found is one of the table
module _ (z : Sizes) (tb : Table) where
  pub room-below : (k s : ℕ) → note last_at tb.transient < z.n → room z tb k ≡ Some s → s < z.n
  unfolding room
  room-below k s h e =
      ⊎_elim
      (λ (t : leb k (count (free_at tb.working) z.n) ≡ true).
      let q : first_round (free_at tb.working) z.n (note last_at tb.transient) z.n ≡ Some s = rw t at e in
      (round-found (free_at tb.working) z.n (note last_at tb.transient) z.n s h (omega arith) q).0)
      (λ (u : leb k (count (free_at tb.working) z.n) ≡ false). let q : None ≡ Some s = rw u at e in let y : ◌≡◌ {A = ℕ} 0 1 = cc in absurd (omega arith))
      (cases (leb k (count (free_at tb.working) z.n)))

  pub live_below : (name : Name) (s : ℕ) → live_slot z tb name ≡ Some s → s < z.n
  unfolding live_slot
  live_below name s e = (found_first (live_on z tb name) z.n e).below

  pub lookup-below : (name : Name) (e s : ℕ) → lookup z tb name e ≡ Ok (Some s) → s < z.n
  unfolding lookup newer
  lookup-below name e s h =
      ⊎_elim
      (λ (y : newer z tb name e ≡ true). let q : Err Newer ≡ Ok (Some s) = rw y at h in let x : ◌≡◌ {A = ℕ} 0 1 = cc in absurd (omega arith))
      (λ (y : newer z tb name e ≡ false). let q : looked_up (live_slot z tb name) ≡ Ok (Some s) = rw y at h in go (live_slot z tb name) refl q)
      (cases (newer z tb name e))
    where
      go : (f : Option ℕ) → live_slot z tb name ≡ f → looked_up f ≡ Ok (Some s) → s < z.n
      go (Some u) q r = let x : u ≡ s = cc in let b : u < z.n = live_below name u q in omega arith
      go None q r = let x : ◌≡◌ {A = ℕ} 0 1 = cc in absurd (omega arith)
