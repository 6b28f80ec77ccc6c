use Rattle.std.proofs.Common.{sym, ◌∙◌, ap, pos_of_ne-zero}
use Rattle.exponents.proofs.Divisors.{gcd-zero, gcd_step}
use Rattle.exponents.specs.Gcd as G
use Rattle.exponents.proofs.+gcd.Goals as goal

pub returns-then-b-eq0 : goal.returns-then-b-eq0
returns-then-b-eq0 t c = sym (ap (G.gcd c.args.a) c.if-b-eq0.true ∙ gcd-zero c.args.a)

pub returns-else-b-eq0 : goal.returns-else-b-eq0
returns-else-b-eq0 t c = c.gcd.ensures ∙ sym (gcd_step c.args.a c.args.b (pos_of_ne-zero c.if-b-eq0.false))
