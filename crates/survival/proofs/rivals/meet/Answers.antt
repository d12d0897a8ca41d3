-- `meet`: alone, or one of several.
use borrow.Author.Rules.{rules}
use Rattle.survival.specs.Rivals.{admissions}
use Rattle.survival.proofs.rivals.meet.Goals as goal

pub kin-k-requires : goal.kin-k-requires
kin-k-requires c = search (rules, admissions)

pub returns-then-k-eq0 : goal.returns-then-k-eq0
returns-then-k-eq0 c = search (rules, admissions)
