-- `common_multiple` meets its contract; where neither number is above 0 the multiple is 0, which is not in range.
use native.Mathlib.Omega.{arith}
use native.Mathlib.Nat.{pos_of_ne-zero}
use Rattle.exponents.proofs.Multiples.{no_multiple, part-fits, multiple_off, multiple_small, multiple_on}
use Rattle.exponents.proofs.common_multiple.Goals as goal

pub returns-then-g-eq0 : goal.returns-then-g-eq0
returns-then-g-eq0 c = let a = c.args in no_multiple a.a a.b c.gcd-g.result c.gcd-g.ensures c.if-g-eq0.true

pub nonzero_div-m : goal.nonzero_div-m
nonzero_div-m c = pos_of_ne-zero c.if-g-eq0.false

pub overflow_mul-m : goal.overflow_mul-m
overflow_mul-m c = let a = c.args in part-fits a.a a.b c.gcd-g.result (omega arith) (omega arith)

pub returns-then-m : goal.returns-then-m
returns-then-m c = let a = c.args in multiple_off a.a a.b c.gcd-g.result c.gcd-g.ensures c.if-m.true

pub overflow_cast-result : goal.overflow_cast-result
overflow_cast-result c = let a = c.args in multiple_small a.a a.b c.gcd-g.result c.if-m.false

pub returns : goal.returns
returns c = let a = c.args in multiple_on a.a a.b c.gcd-g.result c.gcd-g.ensures c.if-m.false
