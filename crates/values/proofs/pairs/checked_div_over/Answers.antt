-- `checked_div_over` meets its contract: where the quotient has no room.
use mathlib.Core.Path.{◌≡◌, sym}
use native.Mathlib.Omega.{arith}
use Rattle.exponents.specs.Outcome.{Err, bind, unless}
use Rattle.exponents.proofs.Numbers.{apply_refuses}
use Rattle.units.specs.Lists.{pack, quotient}
use Rattle.units.proofs.Checked.{both_then}
use Rattle.values.specs.Calls.{checked_div}
use Rattle.values.proofs.pairs.checked_div_over.Goals as goal

pub returns-in_err-l : goal.returns-in_err-l
unfolding checked_div quotient bind unless
returns-in_err-l c rows e =
    let short : quotient c.in_ok-t.t.len c.args.q.unit c.args.p.unit ≡ Err c.in_err-l.field-0.0 = apply_refuses pack _ _ (sym c.in_err-l.ensures) in
    grind (arith, both_then, short)
