-- No fault stands before f.
use Rattle.std.proofs.Common.{◌≡◌, drop}
use Rattle.units.specs.Lists.{some, factor_fault}
use Rattle.tables.proofs.rows.def_fault.Given as goal

abbrev pub invariant-loop-f : goal.invariant-loop-f
invariant-loop-f l = some factor_fault (drop l.f-index l.f-items) ≡ some factor_fault l.f-items
