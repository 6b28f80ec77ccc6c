-- `rescaled` meets its contract.
use mathlib.Core.Path.{sym, ap, ◌∙◌}
use native.Mathlib.Omega.{arith}
use Rattle.exponents.specs.Outcome.{Ok}
use Rattle.exponents.proofs.Handed.{handed_on}
use Rattle.floats.specs.Power.{tally}
use Rattle.tables.specs.Rules.{counted}
use Rattle.tables.specs.Held.{rules_by}
use Rattle.conversion.specs.Held.{scaled_by, tallied_by}
use Rattle.conversion.proofs.Converting.{target_refused, rescaled_given}
use Rattle.conversion.proofs.convert.rescaled.Goals as goal

pub returns-in_err-target : goal.returns-in_err-target
returns-in_err-target c v n fs ts e rt x =
    ap (λ o. tallied_by o x) (handed_on _ _ c.from_residual.ensures.1)
    ∙ target_refused (counted (rules_by v n)) fs ts (tally x 0) c.args.own e _ (sym (c.in_err-target.ensures.1 v ts rt))

pub overflow_add-result : goal.overflow_add-result
overflow_add-result c = omega (arith, c.in_ok-target.ensures.0, c.requires)

pub returns : goal.returns
unfolding scaled_by
returns c v n fs ts e rt x =
    ap Ok (ap (tally _) (omega arith))
    ∙ rescaled_given (counted (rules_by v n)) fs ts (tally x 0) c.args.own e _ (sym (c.in_ok-target.ensures.1 v ts rt))
