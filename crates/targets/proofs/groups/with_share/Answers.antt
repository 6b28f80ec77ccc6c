-- `with_share` meets its contract.
use mathlib.Core.Path.{◌∙◌}
use Rattle.exponents.proofs.Handed.{handed_on}
use Rattle.targets.proofs.Fitted.{told_first, share_on, share_apart, share_off}
use Rattle.targets.proofs.groups.with_share.Goals as goal

pub returns-in_err-p : goal.returns-in_err-p
returns-in_err-p c v n f lends e =
    let a = c.args in
    handed_on _ _ c.from_residual.ensures.1 ∙ share_off v a.d a.acc a.it f e _ (c.first_exponent.ensures ∙ told_first lends a.it.factor.row) _ c.in_err-p.ensures

pub returns-in_err-q : goal.returns-in_err-q
returns-in_err-q c v n f lends e =
    let a = c.args in
    handed_on _ _ c.from_residual-in_err-q.ensures.1 ∙ share_apart v a.d a.acc a.it f e _ (c.first_exponent.ensures ∙ told_first lends a.it.factor.row) _ c.in_ok-p.ensures _ c.in_err-q.ensures

pub returns : goal.returns
returns c v n f lends e =
    let a = c.args in
    c.sum.ensures ∙ share_on v a.d a.acc a.it f e _ (c.first_exponent.ensures ∙ told_first lends a.it.factor.row) _ c.in_ok-p.ensures _ c.in_ok-q.ensures
