-- `scale_of` meets its contract.
use mathlib.Core.Path.{sym}
use native.Mathlib.Omega.{arith}
use Rattle.std.proofs.lemmas.Result.{err_from_is_err_and}
use Rattle.reduction.proofs.Resolved.{joined_on, joined_end, joined_off}
use Rattle.reduction.proofs.bases.scale_of.Goals as goal

pub returns-in_err-t : goal.returns-in_err-t
returns-in_err-t c =
    let p = err_from_is_err_and c.from_residual.result c.from_residual.ensures.1 in
    rw (p.1, p.2) (tt, λ v fs gs r s. joined_off v fs gs _ _ (sym (c.in_err-t.ensures.1 v fs r)))

pub returns-in_err-u : goal.returns-in_err-u
returns-in_err-u c =
    let p = err_from_is_err_and c.from_residual-in_err-u.result c.from_residual-in_err-u.ensures.1 in
    rw (p.1, p.2) (tt, λ v fs gs r s. joined_end v fs gs _ _ (sym (c.in_ok-t.ensures.1 v fs r)) _ (sym (c.in_err-u.ensures.1 v gs s)))

pub overflow_add-result : goal.overflow_add-result
overflow_add-result c = omega (arith, c.in_ok-t.ensures.0, c.in_ok-u.ensures.0)

pub returns : goal.returns
returns c = (
  omega (arith, c.in_ok-t.ensures.0, c.in_ok-u.ensures.0),
  λ v fs gs r s. joined_on v fs gs _ _ (sym (c.in_ok-t.ensures.1 v fs r)) _ (sym (c.in_ok-u.ensures.1 v gs s)),
)
