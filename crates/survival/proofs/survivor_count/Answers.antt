use borrow.Author.Rules.{rules}
use Rattle.survival.specs.Exits.{laws}
use Rattle.survival.proofs.survivor_count.Goals as goal
use Rattle.survival.proofs.survivor_count.Goals.{then-flags-s, else-flags-s}

pub loop-s-init : goal.loop-s-init
loop-s-init c = search (rules, laws)

pub loop-s-preserved : goal.loop-s-preserved
loop-s-preserved c =
    elim c.if-flags-s.branch [ then-flags-s w ↦ search (rules, laws) | else-flags-s w ↦ search (rules, laws) ]
