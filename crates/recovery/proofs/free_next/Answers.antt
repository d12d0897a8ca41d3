-- `free_next`: each way out is a law.
use borrow.Author.Rules.{rules}
use Rattle.recovery.specs.Exits.{steps}
use Rattle.recovery.proofs.free_next.Goals as goal

pub set_header-requires : goal.set_header-requires
set_header-requires c = search (rules, steps)

pub returns-in-None : goal.returns-in-None
returns-in-None c = search (rules, steps)
