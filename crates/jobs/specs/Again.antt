-- A change that fills, rewrites or frees a slot leaves a store that passes refusals 1 and 2 again (`TableKept`).
use Rattle.std.specs.Prelude.{ℕ, ◌+◌, ◌≤◌, ◌<◌, ◌≡◌, refl, List, ◌∷◌, Option, Some, None}
use Rattle.std.proofs.Common.{arith}
use Rattle.image.specs.declared.header.Header.{Header}
use Rattle.image.specs.declared.name.Name.{Name}
use Rattle.image.specs.Layout.{most_number, key_at}
use Rattle.image.specs.Line.{header_line, store_line}
use Rattle.image.specs.Laws.{front-past-header, front-past-contents}
use Rattle.image.specs.Alike.{header-alike, contents-alike}
use Rattle.transient.specs.declared.sizes.Sizes.{Sizes}
use Rattle.transient.specs.Layout.{note, next_uid_at, set_waiting}
use Rattle.transient.specs.Laws.{retired-front, waiting-front, beside-front}
use Rattle.transient.specs.Store.{table}
use Rattle.transient.specs.Requires.{Entered, notes-after}
use Rattle.transient.specs.Again.{NotesKept, TableKept, kept-front, kept-last, kept-uid, notes-kept, table_kept}
use Rattle.table.specs.Find.{room}
use Rattle.index.specs.Laws.{inserted-only, removed-only}
use Rattle.table.specs.Fill.{filled_slot, joined, taken, freed}
use Rattle.table.specs.Requires.{set_value}
use Rattle.table.specs.Laws.{length-filled, front-filled, value-is-contents, room-below}
use Rattle.jobs.specs.Job.{made, superseded}

module _ {wk tr : List ℕ} {z : Sizes} (y : Entered wk tr z) where
  -- ---- the notes
  pub waiting_kept : (e s : ℕ) → s < z.n → NotesKept z tr (set_waiting tr e s)
  waiting_kept e s h = kept-front (notes-kept y) (waiting-front y.shaped.notes e s h)

  -- from notes that have been kept so far
  joined-kept : {tr' : List ℕ} → NotesKept z tr tr' → (e s : ℕ) → s < z.n → NotesKept z tr (joined z tr' e s)
  unfolding joined
  joined-kept {tr'} k e s h =
      let r = kept-front k (retired-front tr' z s 0) in
      kept-front r (waiting-front (notes-after r.long y.shaped.notes) e s h)

  pub freed-kept : (e s : ℕ) (name : Name) → s < z.n → NotesKept z tr (freed z tr e s name)
  unfolding freed
  freed-kept e s name h = kept-front (joined-kept (notes-kept y) e s h) (beside-front (removed-only z _ name s))

  taken-kept : (e s : ℕ) (name : Name) → s < z.n → NotesKept z tr (taken z tr e s name)
  unfolding taken
  taken-kept e s name h = kept-front (joined-kept (kept-last (notes-kept y) y.shaped.notes s h) e s h) (beside-front (inserted-only z _ name s))

  -- ---- the table
  module _ {tr' : List ℕ} (k : NotesKept z tr tr') (s : ℕ) where
    pub header-kept : (h : Header) → TableKept z (table wk tr) (table (store_line wk (header_line s h)) tr')
    header-kept h = record { working = header-alike wk s h; clock = front-past-header wk s 2 h (omega arith); notes = k }

    pub value-kept : (value : List ℕ) → TableKept z (table wk tr) (table (set_value z wk s value) tr')
    value-kept value =
        let words = key_at wk z.n z.w s ∷ value in
        rw (value-is-contents z wk s value)
        record { working = contents-alike wk z.n z.w s words; clock = front-past-contents wk z.n z.w s 2 words (omega arith); notes = k }

    filled-kept : (h : Header) (words : List ℕ) → TableKept z (table wk tr) (table (filled_slot z wk s h words) tr')
    filled-kept h words =
        let front = front-filled z wk s h words in
        record {
          working = record { long = length-filled z wk s h words; slots = front 0 (omega arith); width = front 1 (omega arith) };
          clock = front 2 (omega arith);
          notes = k;
        }

  -- a first version, and a later one or an anti-payload
  pub made_kept : (e s : ℕ) (name : Name) (value : List ℕ) → s < z.n → note next_uid_at tr ≤ most_number
      → TableKept z (table wk tr) (made z (table wk tr) e s name value)
  unfolding made
  made_kept e s name value h top =
      filled-kept (kept-uid (taken-kept e s name h) y.shaped.notes (note next_uid_at tr + 1) (omega arith) (omega arith)) s _ _

  pub super-kept : (k e s : ℕ) (h : Header) (key : ℕ) (value : List ℕ)
      → TableKept z (table wk tr) (superseded (room z (table wk tr) k) z (table wk tr) e s h key value).table
  super-kept k e s h key value = go (room z (table wk tr) k) refl
    where
      go : (g : Option ℕ) → room z (table wk tr) k ≡ g → TableKept z (table wk tr) (superseded g z (table wk tr) e s h key value).table
      go (Some f) q = filled-kept (kept-front (taken-kept e f _ (room-below z (table wk tr) k f y.last q)) (retired-front _ z s e)) f h (key ∷ value)
      go None q = table_kept y
