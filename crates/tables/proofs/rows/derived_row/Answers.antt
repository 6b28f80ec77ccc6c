-- `derived_row` meets its contract.
use mathlib.Core.Path.{sym, ◌∙◌, ap}
use Rattle.std.specs.Result.{result_from_control_flow}
use Rattle.exponents.proofs.Handed.{handed_on}
use Rattle.tables.proofs.Working.{no_scale}
use Rattle.tables.proofs.rows.derived_row.Goals as goal

pub returns-in_err-s : goal.returns-in_err-s
returns-in_err-s c ks q p z =
    let a = c.args in
    handed_on _ _ c.from_residual-in_err-s.ensures.1
    ∙ no_scale a.n ks a.row a.factor _ c.in_ok-exps.exps c.in_ok-check_key.field-0
    (sym (c.branch-exps.ensures ∙ ap result_from_control_flow c.in_ok-exps.is) ∙ c.exps_of.ensures ks q p)
    (sym (c.branch-check_key.ensures ∙ ap result_from_control_flow c.in_ok-check_key.is) ∙ c.check_key.ensures)
    (sym (c.branch-s.ensures ∙ ap result_from_control_flow c.in_err-s.is) ∙ c.scale_of.ensures ks q z)
