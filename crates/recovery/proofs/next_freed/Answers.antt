use borrow.Author.Rules.{rules}
use Rattle.recovery.specs.Exits.{frees, freeing-survives, freeing-on}
use Rattle.recovery.proofs.next_freed.Goals as goal

pub loop-s-init : goal.loop-s-init
loop-s-init c = search (rules, frees)

pub loop-s-preserved-then-not-dies_at : goal.loop-s-preserved-then-not-dies_at
loop-s-preserved-then-not-dies_at c = freeing-survives c.loop-s.invariant c.loop-s-test.true c.dies_at.ensures c.if-not-dies_at.true

pub loop-s-preserved : goal.loop-s-preserved
loop-s-preserved c = freeing-on c.loop-s.invariant c.loop-s-test.true c.dies_at.ensures c.if-not-dies_at.false c.stale_at.ensures c.if-stale_at.false c.anti_up_to-anti.ensures
