-- `turned` meets its contract.
use mathlib.Core.Path.{◌≡◌, sym, ◌∙◌, ap}
use native.Mathlib.Omega.{arith}
use lib.ListN.{length}
use Rattle.exponents.proofs.Taking.{drop_end_of}
use Rattle.keys.specs.Key as spec
use Rattle.keys.proofs.making.turned.Goals as goal

pub returns : goal.returns
unfolding spec.below spec.wholes
returns c =
    let z : length c.args.d ≡ 16 = omega arith in
    sym (sym c.loop-x.invariant ∙ ap (λ l. spec.below (spec.wholes c.args.m l)) (drop_end_of c.args.d c.loop-x.x-index (omega arith)))
