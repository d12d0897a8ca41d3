-- The index stays right: a slot that is filled joins the chain of its name, one that is freed leaves it, and nothing else moves one.
use Rattle.std.specs.Prelude.{ℕ, ◌+◌, ◌≤◌, ◌<◌, ◌≡◌, false, ◌≢◌, List, ◌∷◌, length, get_or}
use Rattle.std.proofs.Math.Path.{refl, sym}
use Rattle.std.proofs.Common.{ap, ◌∙◌, arith}
use Rattle.std.proofs.Math.Bool.{true}
use Rattle.std.proofs.lemmas.Bool.{not-true}
use Rattle.std.proofs.Math.Decide.{ℕ_discrete}
use Rattle.image.specs.declared.header.Header.{Header}
use Rattle.image.specs.Layout.{has_zero, is_filled, header, header_of, free_header, anti_header}
use Rattle.image.specs.Whole.{filled-says, says-filled}
use Rattle.image.specs.declared.name.Name.{Name}
use Rattle.image.specs.Name.{name_of, name_at, names-meet, name-is, key-same}
use Rattle.image.specs.Laws.{name-contents}
use Rattle.transient.specs.declared.sizes.Sizes.{Sizes}
use Rattle.transient.specs.Layout.{last_at, set_note, set_retired}
use Rattle.transient.specs.Store.{table}
use Rattle.transient.specs.Calls.{Changed}
use Rattle.transient.specs.Requires.{Notes, Shaped, notes-after}
use Rattle.transient.specs.Laws.{IndexKept, index-then, last-head, last-index, retired-front, retired-index, waiting-index}
use Rattle.index.specs.Index.{removed}
use Rattle.index.specs.Indexed.{Indexed, Others, indexed-same, indexed-inserted, indexed-removed}
use Rattle.table.specs.Find.{free_at}
use Rattle.table.specs.Fill.{filled_slot, joined, taken, freed}
use Rattle.table.specs.Laws.{Called}
use Rattle.job_set.specs.Stages.{rewritten}
use Rattle.job_delete.specs.Stages.{freed_at, turned}
use Rattle.guarantee.specs.Notes.{joined-joins}
use Rattle.guarantee.proofs.Images.{Wrote, filled-wrote, header-wrote, value-wrote}

-- ---- headers: what is free is not filled, and what a call writes is
free-unfilled : (wk : List ℕ) (s : ℕ) → free_at wk s ≡ true → is_filled (header wk s) ≡ false
unfolding free_at
free-unfilled wk s f = not-true _ f

pub freed-unfilled : is_filled free_header ≡ false
unfolding is_filled has_zero
freed-unfilled = refl

pub made-filled : {kind e uid board : ℕ} → 1 ≤ kind → kind ≤ 3 → 1 ≤ e → 1 ≤ uid → 1 ≤ board → is_filled (header_of kind e uid board) ≡ true
made-filled a b c d f = says-filled _ (record { whole = record { kind-lo = a; epoch-lo = c; uid-lo = d; board-lo = f }; kind-hi = b })

-- a later version's, with the uid and the board of its payload
pub later-filled : {kind e : ℕ} (h : Header) → 1 ≤ kind → kind ≤ 3 → 1 ≤ e → is_filled h ≡ true → is_filled (header_of kind e h.uid h.board) ≡ true
later-filled h a b c f = let w = (filled-says h f).whole in made-filled a b c w.uid-lo w.board-lo

-- ---- the notes
pub kept-indexed : {wk tr tr' : List ℕ} {sz : Sizes} → IndexKept sz tr tr' → Indexed sz wk tr → Indexed sz wk tr'
kept-indexed x i = indexed-same x (λ m h. refl) (λ m h. refl) i

joined-index : {tr : List ℕ} {sz : Sizes} → Notes tr sz → (e s : ℕ) → s < sz.n → IndexKept sz tr (joined sz tr e s)
unfolding joined
joined-index {tr} {sz} y e s k = index-then (retired-index tr sz s 0 k) (waiting-index (notes-after (retired-front tr sz s 0).head.long y) e s k)

-- ---- a slot is written
module _ {wk wk' : List ℕ} {sz : Sizes} {s : ℕ} {h : Header} {words : List ℕ} (a : Wrote wk wk' sz s h words) (w : 1 ≤ sz.w) where
  wrote-others : Others sz wk wk' s
  wrote-others =
      record {
        filled = λ m k d. ap is_filled (a.header-there m k d);
        named = λ m k d.
            name-contents wk' sz.n sz.w m w
            ∙ (rw (a.header-there m k d, a.line-there m k d) (sym (name-contents wk sz.n sz.w m w)));
      }

  wrote-name : name_at wk' sz.n sz.w s ≡ name_of h.board (get_or words 0 0)
  wrote-name = name-contents wk' sz.n sz.w s w ∙ rw (a.header-here, a.line-here)

  module _ {tr : List ℕ} (k : s < sz.n) (i : Indexed sz wk tr) where
    -- filled as it was, under the same name
    same-indexed : {tr' : List ℕ} → is_filled h ≡ is_filled (header wk s) → name_of h.board (get_or words 0 0) ≡ name_at wk sz.n sz.w s
        → IndexKept sz tr tr' → Indexed sz wk' tr'
    same-indexed f q x =
        indexed-same x
        (λ m u. elim (ℕ_discrete m s) [ yes e ↦ rw e (ap is_filled a.header-here ∙ f) | no d ↦ wrote-others.filled m u d ])
        (λ m u. elim (ℕ_discrete m s) [ yes e ↦ rw e (wrote-name ∙ q) | no d ↦ wrote-others.named m u d ])
        i

    module _ (y : Notes tr sz) where
      -- a free slot is taken
      taken-indexed : (e : ℕ) → is_filled (header wk s) ≡ false → is_filled h ≡ true → Indexed sz wk' (taken sz tr e s (name_of h.board (get_or words 0 0)))
      unfolding taken
      taken-indexed e f g =
          let tr₁ = set_note last_at tr s in
          let y₁ : Notes tr₁ sz = notes-after (last-head tr sz s).long y in
          indexed-inserted (notes-after (joined-joins y₁ e s k).head.long y₁) k
          (kept-indexed (index-then (last-index tr sz s) (joined-index y₁ e s k)) i)
          f (ap is_filled a.header-here ∙ g) wrote-name wrote-others

      module _ (name : Name) (f : is_filled (header wk s) ≡ true) (q : name_at wk sz.n sz.w s ≡ name) (g : is_filled h ≡ false) where
        -- a filled one is freed at once
        freed-indexed : (e : ℕ) → Indexed sz wk' (freed sz tr e s name)
        unfolding freed
        freed-indexed e =
            indexed-removed (notes-after (joined-joins y e s k).head.long y) k (kept-indexed (joined-index y e s k) i)
            f q (ap is_filled a.header-here ∙ g) wrote-others

        -- or by an advance
        pub reclaimed-indexed : Indexed sz wk' (removed sz (set_retired sz tr s 0) name s)
        reclaimed-indexed =
            indexed-removed (notes-after (retired-front tr sz s 0).head.long y) k (kept-indexed (retired-index tr sz s 0 k) i)
            f q (ap is_filled a.header-here ∙ g) wrote-others

-- what is left has a right index
abbrev pub Stays : Sizes → Changed → Type 0
Stays z ch = Indexed z ch.table.working ch.table.transient

-- ---- what a call does to a slot
module _ {wk tr : List ℕ} {z : Sizes} (y : Shaped wk tr z) (i : Indexed z wk tr) (e : ℕ) where
  wide : 1 ≤ z.w
  wide = omega (arith, y.working.sizes.width-lo)

  -- a free one is taken
  pub took : (s : ℕ) (h : Header) (key : ℕ) (value : List ℕ) → s < z.n → free_at wk s ≡ true → is_filled h ≡ true → length value + 1 ≡ z.w
      → Indexed z (filled_slot z wk s h (key ∷ value)) (taken z tr e s (name_of h.board key))
  took s h key value k free full long =
      taken-indexed (filled-wrote y.working k h (key ∷ value) (omega (arith, long))) wide k i y.notes e (free-unfilled wk s free) full

  -- the one that has a name is rewritten, becomes a DELETE, or is freed
  module _ {name : Name} {s : ℕ} (below : s < z.n) (c : Called z wk name s) where
    pub rewritten-stays : (value : List ℕ) → length value + 1 ≡ z.w → Stays z (rewritten z (table wk tr) e s value)
    unfolding rewritten
    rewritten-stays value long =
        same-indexed (value-wrote {sz = z} y.working below value long) wide below i refl (sym (name-is wk z.n z.w s)) (waiting-index y.notes e s below)

    pub turned-stays : e ≢ 0 → Stays z (turned z (table wk tr) e s)
    unfolding turned
    turned-stays begun =
        let h = anti_header e (header wk s) in
        let full : is_filled h ≡ true = later-filled (header wk s) (omega arith) (omega arith) (omega arith) c.filled in
        same-indexed (header-wrote y.working below h) wide below i (full ∙ sym c.filled)
        (sym (name-contents wk z.n z.w s wide)) (waiting-index y.notes e s below)

    pub freed-stays : Stays z (freed_at z (table wk tr) e s name.key)
    unfolding freed_at
    freed-stays =
        let called = name_of (header wk s).board name.key in
        let named : name_at wk z.n z.w s ≡ called = names-meet (ap (λ (x : Name). x.board) (name-is wk z.n z.w s)) (key-same c.named) in
        freed-indexed (header-wrote y.working below free_header) wide below i y.notes called c.filled named freed-unfilled e
