-- How the own list over the common factors may be made ready, for the laws on conversion: it keeps its base exponents, and is refused only by what leaves the range. As it stands (01) and in canonical form (02, order 3) it does.
use mathlib.Core.Path.{◌≡◌, refl}
use mathlib.Core.List.{List}
use Prim.Native.Nat.{ℕ}
use Rattle.exponents.specs.Outcome.{Outcome}
use Rattle.exponents.specs.declared.Exponent.{Exponent}
use Rattle.exponents.proofs.Holds.{Holds, held, Only, fine}
use Rattle.exponents.proofs.Halves.{OutOfRange}
use Rattle.exponents.proofs.Value.{Value}
use Rattle.units.specs.declared.Factor.{Factor}
use Rattle.tables.proofs.Total.{Total}
use Rattle.tables.specs.Rules.{Rules}
use Rattle.canonical.specs.Canonical.{canon}
use Rattle.canonical.proofs.Algebra.{exact, exact_canon}
use Rattle.conversion.specs.Conversion.{standing}
use Rattle.conversion.proofs.Refusals.{canon_only}

module _ (W : Value) where
  pub record Ready (ready : List Factor → Outcome (List Factor)) : Type 0 where
    pub keeps : (l : List Factor) (b : ℕ → Exponent) → Holds (λ own. exact W own b ≡ exact W l b) (ready l)
    pub ranged : (l : List Factor) → Only OutOfRange (ready l)

  pub stands : Ready standing
  stands = record { keeps = λ l b. held refl; ranged = λ l. fine }

  pub merges : {A : Type 0} (R : Rules A) → Total R.order → Ready (canon R.order)
  merges R O = record { keeps = λ l b. exact_canon W R.order O l b; ranged = canon_only OutOfRange (λ r h. h) R.order }
