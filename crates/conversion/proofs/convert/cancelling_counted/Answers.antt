-- `cancelling_counted` meets its contract.
use mathlib.Core.Path.{sym, ◌∙◌}
use Rattle.conversion.proofs.convert.cancelling_counted.Goals as goal

pub returns : goal.returns
returns c v fs gs lends rl rm =
    c.tallied.ensures ∙ c.by_rule.ensures v fs gs lends rl rm c.args.x (λ e. sym c.is_zero-z.ensures ∙ e)
