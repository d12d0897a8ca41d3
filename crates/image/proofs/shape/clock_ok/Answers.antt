-- `clock_ok`: by the tests on the way.
use borrow.Author.Rules.{rules}
use Rattle.image.specs.Exits.{laws}
use Rattle.image.specs.Layout.{clock_ok}
use Rattle.image.proofs.shape.clock_ok.Goals as goal

pub returns-then-c-lt2 : goal.returns-then-c-lt2
unfolding clock_ok
returns-then-c-lt2 c = search (rules, laws)

pub returns : goal.returns
unfolding clock_ok
returns c = search (rules, laws)
