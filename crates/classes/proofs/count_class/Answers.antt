use borrow.Author.Rules.{rules}
use Rattle.classes.specs.Exits.{laws}
use Rattle.classes.proofs.count_class.Goals as goal
use Rattle.classes.proofs.count_class.Goals.{then-in_class, else-in_class}

pub loop-s-preserved : goal.loop-s-preserved
loop-s-preserved c =
    elim c.if-in_class.branch [ then-in_class w ↦ search (rules, laws) | else-in_class w ↦ search (rules, laws) ]

pub loop-s-init : goal.loop-s-init
loop-s-init c = search (rules, laws)
