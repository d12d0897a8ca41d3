use Rattle.std.proofs.Common.{rules}
use Rattle.table.specs.Exits.{finds}
use Rattle.table.proofs.find.room_for_two.Goals as goal

pub free_slot-requires-2 : goal.free_slot-requires-2
free_slot-requires-2 c = let w = c.in_ok-s.was in search (rules, finds)

pub returns : goal.returns
returns c = let w = c.in_ok-s.was in let v = c.in_ok-free_slot.was in search (rules, finds)
