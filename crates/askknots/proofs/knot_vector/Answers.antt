-- `knot_vector` meets its contract.
use mathlib.Core.Path.{refl, sym, ap, ◌∙◌}
use Rattle.std.proofs.lemmas.Result.{err_from_is_err_and}
use Rattle.wire.specs.Arguments.{table_from}
use Rattle.replies.proofs.Sent.{map-sent, map_passed}
use Rattle.knots.specs.Calls as knots
use Rattle.knots.specs.Calls.{knots_in}
use Rattle.askknots.specs.Records.{vector_bytes}
use Rattle.askknots.specs.Calls.{knot_vector}
use Rattle.askknots.proofs.Told.{vector_runs, vector_refuses}
use Rattle.askknots.proofs.knot_vector.Goals as goal

pub vector-requires : goal.vector-requires
vector-requires c =
    let v = c.in_ok-n.ensures (table_from c.args.table.now) c.admit_bytes-t.ensures in
    let w = vector_runs _ _ _ _ _ _ _ refl refl _ v in
    (w.few, w.long, w.as_long)

pub returns-in_err-n : goal.returns-in_err-n
unfolding knot_vector
returns-in_err-n c =
    let a = c.args in
    let v = c.in_err-n.ensures (table_from a.table.now) c.admit_bytes-t.ensures in
    let p = err_from_is_err_and c.from_residual.result c.from_residual.ensures.1 in
    map_passed vector_bytes a.out.now _ _ _ (ap (knots.knot_vector (table_from a.table.now) (knots_in a.knots.now)) (sym c.rule_of-u.ensures) ∙ vector_refuses _ _ _ _ _ _ _ refl refl _ v) (rw (p.1, p.2))

pub returns : goal.returns
unfolding knot_vector
returns c =
    let a = c.args in
    let v = c.in_ok-n.ensures (table_from a.table.now) c.admit_bytes-t.ensures in
    let w = vector_runs _ _ _ _ _ _ _ refl refl _ v in
    map-sent vector_bytes a.out.now _ _ w.runs _ (ap (knots.knot_vector (table_from a.table.now) (knots_in a.knots.now)) (sym c.rule_of-u.ensures) ∙ w.is) (c.vector.ensures w.runs w.many w.values w.counts)
