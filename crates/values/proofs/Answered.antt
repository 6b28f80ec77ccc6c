-- How what a call works out, a list made or a list reduced, becomes its answer; and how a refusal does.
use mathlib.Core.Path.{◌≡◌, sym, ap, ◌∙◌}
use mathlib.Core.Bool.{Bool, true}
use mathlib.Core.List.{List}
use lib.Ieee.{Float, binary64, mul}
use Rattle.exponents.specs.Outcome.{Refusal, Outcome, Ok, Err, apply}
use Rattle.exponents.proofs.Holds.{one_answer}
use Rattle.exponents.proofs.Numbers.{clash, apply_refuses}
use Rattle.units.specs.declared.Factor.{Factor}
use Rattle.units.specs.declared.Factors.{Factors}
use Rattle.units.specs.declared.Quantity.{Quantity}
use Rattle.units.specs.Lists.{pack, made_of}
use Rattle.reduction.specs.declared.reduce.Reduced.{Reduced}
use Rattle.reduction.specs.Reduction.{reduced_of}
use Rattle.values.specs.Quantities.{made, fresh}

-- ---- a quantity of a unit u: what `with_mark` promises
abbrev pub Kept : Bool → Float → Factors → Quantity → Type 0
Kept mark v u q = (fs : List Factor) → u ≡ pack fs → q ≡ made mark v fs

-- ---- a list made
module _ (mark : Bool) (v : Float) where
  pub made_refused : (o : Outcome (List Factor)) (r : Refusal) → Err r ≡ made_of o → Err r ≡ apply (made mark v) o
  made_refused o r e = sym (ap (apply (made mark v)) (apply_refuses pack o r (sym e)))

  pub made_kept : (o : Outcome (List Factor)) (l : Factors) (q : Quantity) → Ok l ≡ made_of o → Kept mark v l q → Ok q ≡ apply (made mark v) o
  made_kept (Ok fs) l q e k = ap Ok (k fs (one_answer e))
  made_kept (Err w) l q e k = absurd (clash e)

-- ---- a list reduced: the value x is multiplied by its scale
module _ (x : Float) where
  abbrev scaled : List Factor × Float → Quantity
  scaled p = fresh (mul binary64 x p.1) p.0

  pub reduced_refused : (o : Outcome (List Factor × Float)) (r : Refusal) → Err r ≡ reduced_of o → Err r ≡ apply scaled o
  reduced_refused o r e = sym (ap (apply scaled) (apply_refuses _ o r (sym e)))

  pub reduced_kept : (o : Outcome (List Factor × Float)) (m : Reduced) (q : Quantity) → Ok m ≡ reduced_of o → Kept true (mul binary64 x m.scale) m.unit q → Ok q ≡ apply scaled o
  reduced_kept (Ok p) m q e k =
      let h = one_answer e in
      ap Ok (k p.0 (ap (λ (y : Reduced). y.unit) h) ∙ ap (λ s. fresh (mul binary64 x s) p.0) (ap (λ (y : Reduced). y.scale) h))
  reduced_kept (Err w) m q e k = absurd (clash e)
