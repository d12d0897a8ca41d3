-- `board_batch`: each way out is a law.
use borrow.Author.Rules.{rules}
use Rattle.board.specs.Exits.{laws}
use Rattle.board.proofs.on_jobs.board_batch.Goals as goal

pub returns : goal.returns
returns c = search (rules, laws)
