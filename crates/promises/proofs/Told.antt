-- What a call hands over, case by case (01, "How far a contract must reach", its last paragraph): the number and the value that it tells are 01's in every case; for a refusal its number, and zero, no or none.
use mathlib.Core.Path.{◌≡◌, refl, ◌∙◌, ap}
use mathlib.Core.Bool.{Bool, false}
use mathlib.Core.Option.{some, none}
use Prim.Native.Nat.{Ordering}
use lib.Ieee.{Float, binary64, of_bits}
use Rattle.std.specs.declared.cmp.Ordering as cmp
use Rattle.exponents.specs.Outcome.{Outcome, Ok, Err, apply}
use Rattle.units.specs.declared.Factors.{Factors}
use Rattle.units.specs.declared.Prefix.{Prefix}
use Rattle.units.specs.declared.Quantity.{Quantity}
use Rattle.units.specs.declared.Rows.{Rows}
use Rattle.units.specs.Prefixes.{prefix_factor}
use Rattle.reduction.specs.Multiple as multiples
use Rattle.reduction.specs.Multiple.{Maybe}
use Rattle.lists.specs.Calls.{same_lists, multiple}
use Rattle.quantities.specs.Comparisons.{compared_of}
use Rattle.quantities.specs.Calls.{equal, compare}
use Rattle.promises.specs.Told.{told_of, factor_told, verdict_told, multiple_told, converted_told, compared_told}

-- value bits zero
abbrev zero : Float
zero = of_bits binary64 0

-- ---- what the cases tell is what the outcome says

factor : (o : Outcome Float) → factor_told o ≡ told_of zero o
factor (Ok v) = refl
factor (Err r) = refl

verdict : (o : Outcome Bool) → verdict_told o ≡ told_of false o
verdict (Ok b) = refl
verdict (Err r) = refl

multiplied : (o : Outcome Maybe) → multiple_told o ≡ told_of multiples.none o
multiplied (Ok m) = refl
multiplied (Err r) = refl

converted : (o : Outcome Float) → converted_told o ≡ told_of zero o
converted (Ok v) = refl
converted (Err r) = refl

compared : (o : Outcome Ordering) → compared_told (compared_of o) ≡ told_of none (apply some o)
compared (Ok Ordering.lt) = refl
compared (Ok Ordering.eq) = refl
compared (Ok Ordering.gt) = refl
compared (Err r) = refl

-- ---- the calls: r is what one hands over, by its contract

pub prefix_factor_tells : (p : Prefix) (r : Outcome Float) → r ≡ prefix_factor p → factor_told r ≡ told_of zero (prefix_factor p)
prefix_factor_tells p r e = ap factor_told e ∙ factor (prefix_factor p)

-- a conversion inside a call
pub conversion_tells : (o : Outcome Float) (r : Outcome Float) → r ≡ o → converted_told r ≡ told_of zero o
conversion_tells o r e = ap converted_told e ∙ converted o

module _ (t : Rows) where
  pub same_list_tells : (a b : Factors) (r : Outcome Bool) → r ≡ same_lists t a b → verdict_told r ≡ told_of false (same_lists t a b)
  same_list_tells a b r e = ap verdict_told e ∙ verdict (same_lists t a b)

  pub equal_tells : (q p : Quantity) (r : Outcome Bool) → r ≡ equal t q p → verdict_told r ≡ told_of false (equal t q p)
  equal_tells q p r e = ap verdict_told e ∙ verdict (equal t q p)

  pub compare_tells : (q p : Quantity) (r : Outcome cmp.Ordering) → r ≡ compared_of (compare t q p) → compared_told r ≡ told_of none (apply some (compare t q p))
  compare_tells q p r e = ap compared_told e ∙ compared (compare t q p)

  pub is_multiple-of_tells : (a b : Factors) (r : Outcome Maybe) → r ≡ multiple t a b → multiple_told r ≡ told_of multiples.none (multiple t a b)
  is_multiple-of_tells a b r e = ap multiple_told e ∙ multiplied (multiple t a b)
