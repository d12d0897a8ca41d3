-- `bytes_ok`: by the tests on the way.
use Rattle.std.proofs.Common.{rules}
use Rattle.search.specs.Bools.{tests}
use Rattle.acceptance.specs.Questions.{bytes_ok}
use Rattle.acceptance.proofs.questions.bytes_ok.Goals as goal

pub returns-then-len-ne0 : goal.returns-then-len-ne0
unfolding bytes_ok
returns-then-len-ne0 c = search (rules, tests)

pub returns : goal.returns
unfolding bytes_ok
returns c = search (rules, tests)
