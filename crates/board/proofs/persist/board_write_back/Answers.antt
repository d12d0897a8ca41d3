-- `board_write_back`: each way out is a law.
use borrow.Author.Rules.{rules}
use Rattle.board.specs.Exits.{laws}
use Rattle.board.proofs.persist.board_write_back.Goals as goal

pub returns : goal.returns
returns c = search (rules, laws)
