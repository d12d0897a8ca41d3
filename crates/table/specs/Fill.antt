-- What filling or freeing a slot leaves in the working image and in the notes.
use Rattle.std.specs.Prelude.{ℕ, List}
use Rattle.image.specs.declared.header.Header.{Header}
use Rattle.image.specs.Line.{header_line, contents_line, store_line}
use Rattle.image.specs.declared.name.Name.{Name}
use Rattle.transient.specs.declared.sizes.Sizes.{Sizes}
use Rattle.transient.specs.Layout.{last_at, set_note, set_retired, set_waiting}
use Rattle.index.specs.Index.{inserted, removed}

-- a slot's contents and header
unfoldable pub filled_slot : Sizes → List ℕ → ℕ → Header → List ℕ → List ℕ
filled_slot z wk s h words = store_line (store_line wk (contents_line z.n z.w s words)) (header_line s h)

-- a slot joins the waiting list of e, and is not retired
unfoldable pub joined : Sizes → List ℕ → ℕ → ℕ → List ℕ
joined z tr e s = set_waiting (set_retired z tr s 0) e s

-- a slot taken in epoch e, for a name: the last one taken, not retired, waiting in e, in the index
unfoldable pub taken : Sizes → List ℕ → ℕ → ℕ → Name → List ℕ
taken z tr e s name = inserted z (joined z (set_note last_at tr s) e s) name s

-- a slot freed at once, of that name: not retired, waiting in e, and no longer in the index
unfoldable pub freed : Sizes → List ℕ → ℕ → ℕ → Name → List ℕ
freed z tr e s name = removed z (joined z tr e s) name s
