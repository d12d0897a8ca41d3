use borrow.Author.Rules.{rules}
use Rattle.lister.specs.Exits.{slots}
use Rattle.lister.proofs.push_survivors.Goals as goal
use Rattle.lister.proofs.push_survivors.Goals.{then-survives, else-survives}

pub push_slot-requires : goal.push_slot-requires
push_slot-requires g c = search (rules, slots)

pub loop-s-preserved : goal.loop-s-preserved
loop-s-preserved g c =
    elim c.if-survives.branch [ then-survives w ↦ search (rules, slots) | else-survives w ↦ search (rules, slots) ]
