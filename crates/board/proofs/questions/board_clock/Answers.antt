-- `board_clock`: each way out is a law.
use borrow.Author.Rules.{rules}
use Rattle.acceptance.specs.InPlace.{told}
use Rattle.board.proofs.questions.board_clock.Goals as goal

pub returns-in-Err : goal.returns-in-Err
returns-in-Err c = search (rules, told)
