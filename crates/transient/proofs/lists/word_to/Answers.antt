-- `word_to`: each way out is a law.
use Rattle.std.proofs.Common.{rules}
use Rattle.transient.specs.ListExits.{lists}
use Rattle.transient.proofs.lists.word_to.Goals as goal

pub returns : goal.returns
returns c = search (rules, lists)
