-- `board_advance`: each way out is a law.
use Rattle.std.proofs.Common.{rules, refl}
use Rattle.board.specs.Exits.{laws, number_of}
use Rattle.board.proofs.persist.board_advance.Goals as goal

pub returns-in-Ok-WentOn : goal.returns-in-Ok-WentOn
returns-in-Ok-WentOn c = number_of _ _ c.advance.ensures (rw c.in-Ok-WentOn.field-0-is at c.in-Ok-WentOn.is) refl

pub returns-in-Ok-Ticked : goal.returns-in-Ok-Ticked
returns-in-Ok-Ticked c = number_of _ _ c.advance.ensures (rw c.in-Ok-Ticked.field-0-is at c.in-Ok-Ticked.is) refl

pub returns-in-Err : goal.returns-in-Err
returns-in-Err c = search (rules, laws)
