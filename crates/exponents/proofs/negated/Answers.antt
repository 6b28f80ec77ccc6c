-- `negated` meets its contract: the other sign over the same terms.
use mathlib.Core.Path.{◌∙◌, ap₂}
use mathlib.Core.Bool.{Bool, not}
use lib.IntN.{ℤ}
use Rattle.exponents.specs.Held.{with_sign}
use Rattle.exponents.specs.Fractions.{ranged, lowest}
use Rattle.exponents.proofs.WithSign.{not_sign_abs}
use Prim.Native.Nat.{ℕ}
use Rattle.exponents.proofs.negated.Goals as goal

pub returns : goal.returns
returns c = c.reduced.ensures ∙ ap₂ (λ (z : ℤ) (d : ℕ). ranged (lowest z d)) (ap₂ (λ (b : Bool) (m : ℕ). with_sign (not b) m) c.below.ensures c.top.ensures.0 ∙ not_sign_abs c.args.x.num) c.bottom.ensures.0
