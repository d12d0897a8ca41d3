-- `sizes_ok`: by the tests on the way.
use borrow.Author.Rules.{rules}
use Rattle.image.specs.Exits.{laws}
use Rattle.image.specs.Layout.{sizes_ok}
use Rattle.image.proofs.shape.sizes_ok.Goals as goal

pub returns-then-n-lt2 : goal.returns-then-n-lt2
unfolding sizes_ok
returns-then-n-lt2 c = search (rules, laws)

pub returns-then-n-gt-MOST_SLOTS : goal.returns-then-n-gt-MOST_SLOTS
unfolding sizes_ok
returns-then-n-gt-MOST_SLOTS c = search (rules, laws)

pub returns-then-w-lt2 : goal.returns-then-w-lt2
unfolding sizes_ok
returns-then-w-lt2 c = search (rules, laws)

pub returns : goal.returns
unfolding sizes_ok
returns c = search (rules, laws)
