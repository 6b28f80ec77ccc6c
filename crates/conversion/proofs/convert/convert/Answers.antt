-- `convert` meets its contract.
use mathlib.Core.Path.{sym, ◌∙◌}
use Rattle.floats.specs.Power.{tally}
use Rattle.tables.specs.Rules.{counted}
use Rattle.tables.specs.Held.{rules_by}
use Rattle.conversion.specs.Conversion.{standing, convert_by}
use Rattle.conversion.proofs.Rating.{rate_plain}
use Rattle.conversion.proofs.Forgetting.{forget_convert}
use Rattle.conversion.proofs.convert.convert.Goals as goal

pub returns : goal.returns
returns c v fs gs lends rl rm =
    let g = c.args in
    let R = rules_by v g.n in
    c.rated.ensures
    ∙ rate_plain _ g.x (convert_by (counted R) standing fs gs (tally g.x 0)) _ (forget_convert R standing fs gs (tally g.x 0))
    (c.by_rule.ensures v fs gs lends rl rm g.x (λ e. sym c.is_zero-z.ensures ∙ e))
