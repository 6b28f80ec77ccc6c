-- `knot_vector_over` meets its contract: a refusal of `fill` is passed on.
use mathlib.Core.Path.{sym, ◌∙◌}
use Rattle.std.proofs.lemmas.Result.{err_from_is_err_and}
use Rattle.exponents.specs.Outcome.{bind}
use Rattle.knotruns.specs.Knots.{roomy}
use Rattle.knots.proofs.Handed.{vector_stopped}
use Rattle.knots.proofs.knot_vector_over.Goals as goal

pub returns-in_err-fill : goal.returns-in_err-fill
unfolding roomy bind
returns-in_err-fill c rows a =
    let p = err_from_is_err_and c.from_residual.result c.from_residual.ensures.1 in
    let e = vector_stopped rows c.args.knots.now _ c.many-count.ensures c.args.rule _ _ (sym c.faulty.ensures ∙ c.if-faulty.false) (c.in_err-fill.ensures.1 rows a) in
    rw (p.1, p.2) (record { told = rw e; firsts = rw e; times = rw e })
