-- `scale_from` meets its contract: the count is left.
use mathlib.Core.Path.{ap, ◌∙◌}
use Rattle.exponents.proofs.Handed.{handed_on}
use Rattle.exponents.specs.Outcome.{apply}
use Rattle.floats.specs.Power.{tally}
use Rattle.tables.specs.Scale.{doubles}
use Rattle.tables.proofs.Forgetting.{plain, forget_scale}
use Rattle.reduction.proofs.Resolved.{sizes}
use Rattle.reduction.proofs.bases.scale_from.Goals as goal

pub returns-in_err-t : goal.returns-in_err-t
returns-in_err-t c v fs r =
    handed_on _ _ c.from_residual.ensures.1 ∙ (ap (apply plain) (c.in_err-t.ensures.1 v fs r) ∙ forget_scale doubles (sizes v) (tally c.args.start 0) fs)

pub returns : goal.returns
returns c v fs r = ap (apply plain) (c.in_ok-t.ensures.1 v fs r) ∙ forget_scale doubles (sizes v) (tally c.args.start 0) fs
