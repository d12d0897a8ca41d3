use borrow.Author.Rules.{rules}
use Rattle.image.specs.Exits.{laws}
use Rattle.image.proofs.contents.store_words.Goals as goal

pub loop-j-init : goal.loop-j-init
loop-j-init c = search (rules, laws)

pub loop-j-preserved : goal.loop-j-preserved
loop-j-preserved c = search (rules, laws)
