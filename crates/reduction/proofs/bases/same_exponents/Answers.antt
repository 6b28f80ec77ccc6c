-- `same_exponents` meets its contract.
use mathlib.Core.Path.{◌∙◌}
use Rattle.reduction.proofs.Compared.{array_same}
use Rattle.reduction.proofs.bases.same_exponents.Goals as goal

pub returns : goal.returns
returns c = c.eq.ensures ∙ array_same c.args.a c.args.b
