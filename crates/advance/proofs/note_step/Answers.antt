-- `note_step`: each way out is a law.
use borrow.Author.Rules.{rules}
use Rattle.advance.specs.Exits.{placing}
use Rattle.advance.proofs.note_step.Goals as goal

pub overflow_cast-m : goal.overflow_cast-m
overflow_cast-m c = search (rules, placing)
