use borrow.Author.Rules.{rules}
use Rattle.image.specs.Exits.{laws}
use Rattle.image.proofs.bytes.decode.Goals as goal

pub word-requires : goal.word-requires
word-requires c = search (rules, laws)

pub loop-i-init : goal.loop-i-init
loop-i-init c = search (rules, laws)

pub loop-i-preserved : goal.loop-i-preserved
loop-i-preserved c = search (rules, laws)
