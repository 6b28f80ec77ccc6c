-- `span_quotient_over` meets its contract: a refusal of `fill` is passed on.
use mathlib.Core.Path.{sym, ◌∙◌}
use Rattle.std.proofs.lemmas.Result.{err_from_is_err_and}
use Rattle.knots.proofs.Handed.{span_stopped}
use Rattle.knots.proofs.span_quotient_over.Goals as goal

pub returns-in_err-fill : goal.returns-in_err-fill
returns-in_err-fill c rows a =
    let p = err_from_is_err_and c.from_residual.result c.from_residual.ensures.1 in
    rw (p.1, p.2) (sym (span_stopped rows c.args.knots.now _ c.many-count.ensures c.args.span _ _ (sym c.faulty.ensures ∙ c.if-faulty.false) (c.in_err-fill.ensures.1 rows a)))
