use borrow.Author.Rules.{rules}
use Rattle.text.specs.Putting.{loops, spacing-start}
use Rattle.text.proofs.put_spaced.Goals as goal

pub loop-x-init : goal.loop-x-init
loop-x-init c = spacing-start c.args.out.now c.args.at c.args.numbers.now

pub loop-x-preserved : goal.loop-x-preserved
loop-x-preserved c = search (rules, loops)
