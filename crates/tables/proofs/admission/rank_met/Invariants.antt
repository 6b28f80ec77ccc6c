-- `met` tells of the ranks before x.
use Rattle.std.proofs.Common.{◌≡◌, ◌||◌, eqb, drop}
use Rattle.units.specs.Lists.{some}
use Rattle.tables.proofs.admission.rank_met.Given as goal

abbrev pub invariant-loop-x : goal.invariant-loop-x
invariant-loop-x l = (l.met || some (λ x. eqb x l.rank) (drop l.x-index l.x-items)) ≡ some (λ x. eqb x l.rank) l.x-items
