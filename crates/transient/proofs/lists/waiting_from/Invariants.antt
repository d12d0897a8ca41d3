-- `waiting_from`: a search from p on (`From`), over the rest of a word at once where no bit is left in it.
use Rattle.std.proofs.Common.{◌-◌}
use Rattle.search.specs.From.{From}
use Rattle.transient.specs.Layout.{is_waiting}
use Rattle.transient.proofs.lists.waiting_from.Given as goal

abbrev pub invariant-loop-s : goal.invariant-loop-s
invariant-loop-s l = From (is_waiting l.transient l.e) l.z.n l.p l.s

abbrev pub decreases-loop-s : goal.decreases-loop-s
decreases-loop-s l = l.z.n - l.s
