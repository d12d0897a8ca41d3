-- `board_sync`: each way out is a law.
use borrow.Author.Rules.{rules}
use Rattle.board.specs.Exits.{laws}
use Rattle.board.proofs.persist.board_sync.Goals as goal

pub returns-in-Ok : goal.returns-in-Ok
returns-in-Ok c = search (rules, laws)

pub returns-in-Err : goal.returns-in-Err
returns-in-Err c = search (rules, laws)
