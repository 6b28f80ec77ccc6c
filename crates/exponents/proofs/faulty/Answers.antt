-- `faulty` meets its contract.
use mathlib.Core.Path.{sym, ◌∙◌, ap}
use lib.Dec.{ltb}
use Rattle.exponents.specs.Fractions.{faulty, beyond, most}
use Rattle.exponents.proofs.Ranged.{whole-faulty}
use Rattle.exponents.proofs.faulty.Goals as goal

pub returns-then-b-eq1 : goal.returns-then-b-eq1
returns-then-b-eq1 c =
    let b = c in
    let a = c in
    ap (ltb most) c.top-a.ensures.0 ∙ whole-faulty c.args.x (sym c.bottom-b.ensures.0 ∙ c.if-b-eq1.true)

pub returns : goal.returns
unfolding faulty beyond
returns c = simp (c.gcd.ensures, c.top-a.ensures.0, c.bottom-b.ensures.0)
