use Rattle.std.proofs.lemmas.Result.{err_from_is_err_and}
use borrow.Author.Rules.{rules}
use Rattle.sync.specs.Exits.{syncs}
use Rattle.sync.proofs.sync_lines.Goals as goal
use Rattle.sync.proofs.sync_lines.Goals.{in-WentOn, in-Ticked}

pub loop-ticks-smaller : goal.loop-ticks-smaller
loop-ticks-smaller c =
    elim c.match-moved.branch [ in-WentOn w ↦ let u = c.in_ok-moved.was in let v = rw w.in-WentOn.is at u in search (rules, syncs) | in-Ticked w ↦ let u = c.in_ok-moved.was in let v = rw w.in-Ticked.is at u in search (rules, syncs) ]

pub loop-ticks-preserved : goal.loop-ticks-preserved
loop-ticks-preserved c =
    elim c.match-moved.branch [ in-WentOn w ↦ let u = c.in_ok-moved.was in let v = rw w.in-WentOn.is at u in search (rules, syncs) | in-Ticked w ↦ let u = c.in_ok-moved.was in let v = rw w.in-Ticked.is at u in search (rules, syncs) ]

pub advance_sized-requires : goal.advance_sized-requires
advance_sized-requires c = search (rules, syncs)

pub returns-in_err-moved : goal.returns-in_err-moved
returns-in_err-moved c = let p = err_from_is_err_and c.from_residual.result c.from_residual.ensures.1 in let w0 = c.in_err-moved.was in rw (p.1, p.2) (search (rules, syncs))

pub returns : goal.returns
returns c = search (rules, syncs)
