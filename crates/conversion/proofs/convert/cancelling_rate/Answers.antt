-- `cancelling_rate` meets its contract.
use mathlib.Core.Bool.{false≢true}
use Rattle.floats.specs.Power.{tally}
use Rattle.tables.specs.Rules.{counted}
use Rattle.tables.specs.Held.{rules_by}
use Rattle.canonical.specs.Canonical.{canon}
use Rattle.conversion.specs.Conversion.{convert_by}
use Rattle.conversion.proofs.Rating.{rate_plain}
use Rattle.conversion.proofs.Forgetting.{forget_convert}
use Rattle.conversion.proofs.convert.cancelling_rate.Goals as goal

pub returns : goal.returns
returns c v fs gs lends rl rm x =
    let R = rules_by v c.args.n in
    rate_plain _ x (convert_by (counted R) (canon v.order) fs gs (tally x 0)) _ (forget_convert R (canon v.order) fs gs (tally x 0))
    (c.by_rule.ensures v fs gs lends rl rm x (λ e. absurd (false≢true e)))
