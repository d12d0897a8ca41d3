-- The second pass over the slots, survivors by their names: what contracts say of a slot and of all, and the laws of the loop.
use Rattle.std.specs.Prelude.{◌≡◌, ℕ, ◌+◌, ◌*◌, ◌<◌, ◌≤◌, Bool, true, false, ◌||◌, ◌≢◌, List, length, nat_eq, slice_index_or, slice_set, Result, Ok, Err}
use Rattle.std.proofs.Math.Path.{refl, sym}
use Rattle.std.proofs.Common.{◌∙◌, eq-or-lt_of_le, arith}
use Rattle.std.proofs.Math.Logic.{⊎_elim}
use Rattle.std.proofs.Math.Bool.{or-false}
use Rattle.search.specs.Bools.{cases, never}
use Rattle.search.specs.Some.{any_of, some_at, none-some, some_same, any-more}
use Rattle.reply.specs.declared.Refusal.{Refusal}
use Rattle.image.specs.Layout.{header, key_at}
use Rattle.image.specs.declared.name.Name.{Name}
use Rattle.image.specs.Name.{name_at, same_name, misnamed, misnamed-false, name-is}
use Rattle.image.specs.Requires.{Slot, slot}
use Rattle.chains.specs.Chains.{label_of, linked_at, pair_in, Lent, Blank, Linked}
use Rattle.chains.specs.Requires.{At, AllLinked}
use Rattle.chains.specs.Carrying.{Carrying, carrying-start, carrying-skip, carrying-link, carried}
use Rattle.survival.specs.Survivors.{survivor}
use Rattle.survival.specs.Requires.{AllMarked}
use Rattle.survival.specs.Laws.{flag_is}
use Rattle.acceptance.specs.Accept.{survives_as, name_below}
use Rattle.acceptance.specs.Requires.{nameless, some_nameless, name_twice}
use Rattle.acceptance.specs.Judging.{Answer, refuses, finds}

-- ---- one slot
pub record Names (m s : ℕ) (l : List ℕ) : Type 0 where
  pub linked : Linked m s l
  pub within : s < m

pub record NamedFine (m : ℕ) (l : List ℕ) (s : ℕ) (name : Name) (l' : List ℕ) (twice : Bool) : Type 0 where
  pub named : misnamed name ≡ false
  pub linked : l' ≡ linked_at m l s name.key name.board
  pub twice-is : twice ≡ any_of (pair_in l name.key name.board) s

abbrev pub NamedSlot : ℕ → List ℕ → ℕ → Name → List ℕ → Result Bool Refusal → Type 0
NamedSlot m l s name l' = Answer (misnamed name ≡ true) (NamedFine m l s name l')

pub record NamesMarked (img : List ℕ) (n w m s : ℕ) (l : List ℕ) (flags : List Bool) : Type 0 where
  pub names : Names m s l
  pub marked : AllMarked img n w flags
  pub slot : s < n

pub record NamedOne (img : List ℕ) (n w m : ℕ) (l : List ℕ) (s : ℕ) (l' : List ℕ) (twice : Bool) : Type 0 where
  pub gone : survivor img n s ≡ false → (l' ≡ slice_set l (4 * s + 2) 0) × (twice ≡ false)
  pub named : survivor img n s ≡ true → NamedFine m l s (name_at img n w s) l' twice

abbrev pub NamedAt : List ℕ → ℕ → ℕ → ℕ → List ℕ → ℕ → List ℕ → Result Bool Refusal → Type 0
NamedAt img n w m l s l' = Answer (nameless img n w s ≡ true) (NamedOne img n w m l s l')

-- ---- all slots: room for the pass, and what it leaves
pub record NamesRoom (img : List ℕ) (n w m : ℕ) (l : List ℕ) (flags : List Bool) : Type 0 where
  pub marked : AllMarked img n w flags
  pub fits : n ≤ m
  pub blank : Blank m l

-- the board of each survivor stands as its label
pub record Boards (img : List ℕ) (n m : ℕ) (l : List ℕ) : Type 0 where
  pub lent : Lent m l
  pub fits : n ≤ m
  pub boards : (t : ℕ) → t < n → survivor img n t ≡ true → label_of l t ≡ (header img t).board

pub record NamedAll (img : List ℕ) (n w m : ℕ) (l : List ℕ) (twice : Bool) : Type 0 where
  pub named : some_nameless img n w ≡ false
  pub twice-is : twice ≡ name_twice img n w
  pub boards : Boards img n m l

abbrev pub Named : List ℕ → ℕ → ℕ → ℕ → List ℕ → Result Bool Refusal → Type 0
Named img n w m l = Answer (some_nameless img n w ≡ true) (NamedAll img n w m l)

-- ---- the ways out for one slot
module _ {m s : ℕ} {l : List ℕ} (z : Names m s l) where
  pub names_at : At m s l
  names_at = record { lent = z.linked.lent; within = z.within }

  module _ (name : Name) {b : Bool} (e : b ≡ misnamed name) where
    pub names-all : b ≡ false → AllLinked m s name.key l
    names-all f = record { linked = z.linked; some = (misnamed-false name (sym e ∙ f)).some }

    pub named-bad : b ≡ true → misnamed name ≡ true
    named-bad t = sym e ∙ t

    pub named-fine : {t : Bool} {l' : List ℕ} → b ≡ false → t ≡ any_of (pair_in l name.key name.board) s
        → l' ≡ linked_at m l s name.key name.board → NamedFine m l s name l' t
    named-fine f p q = record { named = sym e ∙ f; linked = q; twice-is = p }

module _ {img : List ℕ} {n w m s : ℕ} {l : List ℕ} {flags : List Bool} (z : NamesMarked img n w m s l flags) where
  pub marked-names : Names m s l
  marked-names = z.names

  pub marked-at : At m s l
  marked-at = names_at z.names

  pub marked-slot : Slot img n w s
  marked-slot = slot z.marked.sized z.slot

  pub marked-flag : s < length flags
  marked-flag = omega (arith, z.slot, z.marked.flagged.long, z.marked.sized.sizes.slots-hi)

  pub marked-yes : {name : Name} {l' : List ℕ} {r : Result Bool Refusal} → slice_index_or flags s false ≡ true → name ≡ name_at img n w s → NamedSlot m l s name l' r
      → NamedAt img n w m l s l' r
  unfolding nameless
  marked-yes t e y =
      let a = flag_is z.marked.flagged z.slot t in
      record {
        refused = λ q. let v = y.refused q in (v.0, rw (a, ← e) v.1);
        found = λ q. record { gone = λ f. never (survivor img n s) a f; named = λ g. rw (← e) (y.found q) };
      }

  pub marked-no : {l' : List ℕ} → slice_index_or flags s false ≡ false → l' ≡ slice_set l (4 * s + 2) 0 → NamedOne img n w m l s l' false
  marked-no t e =
      let a = flag_is z.marked.flagged z.slot t in
      record { gone = λ f. (e, refl); named = λ g. never (survivor img n s) g a }

-- ---- the loop: the chains carry the survivors' keys and boards
abbrev board_in : List ℕ → ℕ → ℕ
board_in img t = (header img t).board

pub record Naming (img : List ℕ) (n w m : ℕ) (i : ℕ) (l : List ℕ) (twice : Bool) : Type 0 where
  pub carries : Carrying (survivor img n) (key_at img n w) (board_in img) m i l
  pub low : i ≤ n
  pub fits : n ≤ m
  pub named : (t : ℕ) → t < i → nameless img n w t ≡ false
  pub twice-is : twice ≡ any_of (name_below img n w) i

pub naming-start : {img : List ℕ} {n w m : ℕ} {l : List ℕ} {flags : List Bool} → NamesRoom img n w m l flags → Naming img n w m 0 l false
naming-start {img} {n} {w} z =
    record {
      carries = carrying-start (survivor img n) (key_at img n w) (board_in img) z.blank;
      low = omega arith;
      fits = z.fits;
      named = λ t h. absurd (omega arith);
      twice-is = sym (none-some (name_below img n w) 0 (λ t h. absurd (omega arith)));
    }

module _ {img : List ℕ} {n w m i : ℕ} {l : List ℕ} {twice : Bool} (z : Naming img n w m i l twice) where
  pub naming-marked : {flags : List Bool} {l₀ : List ℕ} → NamesRoom img n w m l₀ flags → i < n → NamesMarked img n w m i l flags
  naming-marked y h = record { names = record { linked = z.carries.linked; within = omega (arith, z.fits) }; marked = y.marked; slot = h }

  -- ---- a slot that does not survive
  module _ (f : survivor img n i ≡ false) (h : i < n) where
    naming-gone : {l' : List ℕ} → l' ≡ slice_set l (4 * i + 2) 0 → Naming img n w m (i + 1) l' twice
    unfolding nameless name_below
    naming-gone e =
        let b : i < m = omega (arith, z.fits) in
        rw e
        (record {
          carries = carrying-skip (survivor img n) (key_at img n w) (board_in img) z.carries b f;
          low = omega arith;
          fits = z.fits;
          named = λ t a. ⊎_elim (λ (r : t ≡ i). rw (r, f)) (λ (r : t < i). z.named t r) (eq-or-lt_of_le (omega arith));
          twice-is =
              z.twice-is
              ∙ sym (any-more (name_below img n w) i ∙ (rw f (or-false (any_of (name_below img n w) i))));
        })

  -- ---- a survivor
  module _ (k : survivor img n i ≡ true) (h : i < n) where
    abbrev mine : Name
    mine = name_at img n w i

    key-mine : key_at img n w i ≡ mine.key
    unfolding key_at name_at
    key-mine = refl

    board-mine : (header img i).board ≡ mine.board
    unfolding name_at
    board-mine = refl

    -- a slot on the chain of its key is a survivor of that key
    pair-name : mine.key ≢ 0 → (t : ℕ) → t < i → pair_in l mine.key mine.board t ≡ survives_as img n w mine t
    unfolding pair_in survives_as same_name
    pair-name some t a = carried (survivor img n) (key_at img n w) (board_in img) z.carries nat_eq mine.key mine.board t some a ∙ (rw (name-is img n w t))

    naming-named : {l' : List ℕ} {b : Bool} → misnamed mine ≡ false → l' ≡ linked_at m l i mine.key mine.board
        → b ≡ any_of (pair_in l mine.key mine.board) i → Naming img n w m (i + 1) l' (twice || b)
    unfolding nameless name_below
    naming-named {l'} {b} p e q =
        let x = mine.key in
        let y = mine.board in
        let some = (misnamed-false mine p).some in
        let u : i < m = omega (arith, z.fits) in
        rw e
        (record {
          carries = carrying-link (survivor img n) (key_at img n w) (board_in img) z.carries u k (sym key-mine) (sym board-mine) some;
          low = omega arith;
          fits = z.fits;
          named = λ t a. ⊎_elim (λ (r : t ≡ i). rw (r, k) p) (λ (r : t < i). z.named t r) (eq-or-lt_of_le (omega arith));
          twice-is =
              rw (z.twice-is, q, some_same (pair_in l x y) (survives_as img n w mine) i (pair-name some))
              (sym (any-more (name_below img n w) i ∙ (rw k)));
        })

  -- ---- a slot more
  module _ {l' : List ℕ} {r : Result Bool Refusal} (h : i < n) (y : NamedAt img n w m l i l' r) where
    pub naming-on : {b twice' : Bool} → r ≡ Ok b → twice' ≡ (twice || b) → Naming img n w m (i + 1) l' twice'
    naming-on e q =
        let v = y.found e in
        rw q
        (⊎_elim
        (λ (k : survivor img n i ≡ true). let x = v.named k in naming-named k h x.named x.linked x.twice-is)
        (λ (g : survivor img n i ≡ false). rw ((v.gone g).1, or-false twice) (naming-gone g h (v.gone g).0))
        (cases (survivor img n i)))

    pub naming-bad : {e : Refusal} → r ≡ Err e → Named img n w m l' (Err e)
    unfolding some_nameless
    naming-bad e = let v = y.refused e in rw v.0 (refuses (some_at (nameless img n w) n i h v.1))

  pub naming-end : n ≤ i → NamedAll img n w m l twice
  unfolding some_nameless name_twice
  naming-end a =
      let q : i ≡ n = omega (arith, z.low) in
      record {
        named = none-some (nameless img n w) n (λ t b. z.named t (omega arith));
        twice-is = z.twice-is ∙ (rw q);
        boards = record { lent = z.carries.linked.lent; fits = z.fits; boards = λ t b k. z.carries.labels t (omega arith) k };
      }

pub ruleset namings = (refuses, finds, names_at, names-all, named-bad, named-fine, marked-names, marked-at, marked-slot, marked-flag, marked-yes, marked-no)

pub ruleset names = (finds, naming-start, naming-marked, naming-on, naming-bad, naming-end)
