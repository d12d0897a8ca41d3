-- `rival`: outdoes the older ones, and is beaten or not.
use borrow.Author.Rules.{rules}
use Rattle.survival.specs.Rivals.{admissions}
use Rattle.survival.proofs.rivals.rival.Goals as goal

pub paired_from-twice-requires : goal.paired_from-twice-requires
paired_from-twice-requires c = search (rules, admissions)

pub beaten-requires : goal.beaten-requires
beaten-requires c = search (rules, admissions)

pub returns : goal.returns
returns c = search (rules, admissions)

pub outdo-requires-clause-from_kin : goal.outdo-requires-clause-from_kin
outdo-requires-clause-from_kin c = search (rules, admissions)
