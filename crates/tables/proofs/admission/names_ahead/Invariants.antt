-- No factor before f names row i or a higher one.
use Rattle.std.proofs.Common.{◌≡◌, not, ltb, drop}
use Rattle.units.specs.Lists.{some}
use Rattle.tables.proofs.admission.names_ahead.Given as goal

abbrev pub invariant-loop-f : goal.invariant-loop-f
invariant-loop-f l = some (λ f. not (ltb f.row l.i)) (drop l.f-index l.f-items) ≡ some (λ f. not (ltb f.row l.i)) l.f-items
