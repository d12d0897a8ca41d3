-- `board_recover`: each way out is a law.
use Rattle.std.proofs.Common.{rules, refl}
use Rattle.board.specs.Exits.{laws, number_of}
use Rattle.board.proofs.recover.board_recover.Goals as goal

pub returns-in-Ok-WentOn : goal.returns-in-Ok-WentOn
returns-in-Ok-WentOn c = number_of _ _ c.recover.ensures (rw c.in-Ok-WentOn.field-0-is at c.in-Ok-WentOn.is) refl

pub returns-in-Ok-Done : goal.returns-in-Ok-Done
returns-in-Ok-Done c = number_of _ _ c.recover.ensures (rw c.in-Ok-Done.field-0-is at c.in-Ok-Done.is) refl

pub returns-in-Err : goal.returns-in-Err
returns-in-Err c = search (rules, laws)
