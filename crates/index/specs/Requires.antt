-- What functions inside require: a link to follow, chains to walk, a place on one, and two links to splice. And what contracts inside and laws name: where a link
-- leads, and a slot entered.
use Rattle.std.specs.Prelude.{ℕ, suc, ◌-◌, ◌<◌, cond, ◌&&◌, List, length, get_or, set, leb, ltb}
use Rattle.image.specs.Layout.{is_filled, header}
use Rattle.image.specs.Name.{name_at}
use Rattle.transient.specs.declared.sizes.Sizes.{Sizes}
use Rattle.transient.specs.Requires.{Notes, NoteOf}
use Rattle.index.specs.Index.{inserted}

-- the slot that the link at `at` leads to, from `least` on and below `end`; else `end`
unfoldable pub leads_to : List ℕ → ℕ → ℕ → ℕ → ℕ
leads_to tr at least end = cond (ltb least (get_or tr at 0) && leb (get_or tr at 0) end) (get_or tr at 0 - 1) end

-- a link out of slot s that leads on, or 0
unfoldable pub onward : ℕ → ℕ → ℕ
onward s next = cond (ltb (suc s) next) next 0

-- the word at `at` stands at `to`, and `link` in its place
unfoldable pub spliced : List ℕ → ℕ → ℕ → ℕ → List ℕ
spliced tr at to link = set (set tr to (get_or tr at 0)) at link

-- slot s is on the chain of its name where it is filled
unfoldable pub entered_at : Sizes → List ℕ → List ℕ → ℕ → List ℕ
entered_at z wk tr s = cond (is_filled (header wk s)) (inserted z tr (name_at wk z.n z.w s) s) tr

pub record Leading (tr : List ℕ) (at : ℕ) : Type 0 where
  pub within : at < length tr

-- chains to walk
pub record Chained (tr : List ℕ) (z : Sizes) : Type 0 where
  pub notes : Notes tr z
  pub some : 0 < z.n

pub record Bucket (tr : List ℕ) (z : Sizes) (b s : ℕ) : Type 0 where
  pub note : NoteOf tr z s
  pub below : b < z.n

pub record Splicing (tr : List ℕ) (at to : ℕ) : Type 0 where
  pub from : at < length tr
  pub there : to < length tr
