-- `whole_exponent` meets its contract.
use Rattle.std.proofs.Common.{◌≡◌, Bool, true, false, not, sym, ap, ◌∙◌}
use Rattle.std.proofs.lemmas.Float.{T_from_true}
use Rattle.std.specs.Float.{fract}
use lib.Ieee.{Float, binary64, fits, eq, ne, of_bits, neg}
use Rattle.powers.specs.Whole.{zero, is_whole}
use Rattle.powers.proofs.WholeNumbers.{not_whole, too_great, too_small, whole-number, truncates, fits32, read32}
use Rattle.powers.proofs.WholeParts.{fraction_tells}
use Rattle.powers.proofs.whole.whole_exponent.Goals as goal
use Rattle.powers.proofs.whole.whole_exponent.Goals.{else-x-via-then-x+else-x-2, else-x-via-else-x}

flip : (t b : Bool) → not t ≡ b → t ≡ not b
flip true b e = ap not e
flip false b e = ap not e

-- what the test of the fraction tells
told : (x r : Float) (b : Bool) → fits binary64 x ≡ true → r ≡ fract binary64 x → ne r zero ≡ b → is_whole x ≡ not b
unfolding ne
told x r b h e t = sym (fraction_tells x (T_from_true _ h)) ∙ ap (λ (y : Float). eq y zero) (sym e) ∙ flip (eq r zero) b t

pub returns-then-fract : goal.returns-then-fract
returns-then-fract c = not_whole _ (told _ _ _ c.well_formed.0.1 c.fract.ensures c.if-fract.true)

pub truncating_f64_to_i64-requires-clause-lower_bound : goal.truncating_f64_to_i64-requires-clause-lower_bound
unfolding of_bits neg
truncating_f64_to_i64-requires-clause-lower_bound c = (truncates c.args.x c.if-x.true c.if-x-2.true).0

pub truncating_f64_to_i64-requires-clause-upper_bound : goal.truncating_f64_to_i64-requires-clause-upper_bound
unfolding of_bits neg
truncating_f64_to_i64-requires-clause-upper_bound c = (truncates c.args.x c.if-x.true c.if-x-2.true).1

pub overflow_cast-result : goal.overflow_cast-result
unfolding of_bits neg
overflow_cast-result c = fits32 c.args.x c.if-x.true c.if-x-2.true c.truncating_f64_to_i64.result c.truncating_f64_to_i64.ensures

pub returns-then-x-2 : goal.returns-then-x-2
unfolding of_bits neg
returns-then-x-2 c =
    let x = c.args.x in
    let h = c.if-x.true in
    let g = c.if-x-2.true in
    let t = c.truncating_f64_to_i64 in
    whole-number x (told _ _ _ c.well_formed.0.1 c.fract.ensures c.if-fract.false) h g _ (read32 x h g t.result t.ensures)

pub returns : goal.returns
unfolding of_bits neg
returns c =
    let w = told c.args.x c.fract.result _ c.well_formed.0.1 c.fract.ensures c.if-fract.false in
    elim c.else-x.branch [
      | else-x-via-then-x+else-x-2 y ↦ too_small _ w y.if-x.true y.if-x-2.false
      | else-x-via-else-x y ↦ too_great _ w y.if-x.false
    ]
