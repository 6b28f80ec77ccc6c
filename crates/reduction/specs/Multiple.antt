-- `is_multiple_of` (01, "Simplification"): 1 if base exponents agree; else none if a's are all zero or b has zero at a's first base; else the quotient there, if b's times it, all worked out, give all of a's, otherwise none.
use Rattle.std.specs.Prelude.{◌||◌, List, [], ◌∷◌, ℕ, suc, get_or, Option}
pub use Rattle.std.specs.declared.option.Option.TheVariants.{Some as times, None as none}
use Rattle.exponents.specs.Words.{pick}
use Rattle.exponents.specs.Outcome.{Outcome, Ok, apply, bind, each}
use Rattle.exponents.specs.Fractions.{nought, unit, same, div?, mul?}
use Rattle.exponents.specs.declared.Exponent.{Exponent}
use Rattle.units.specs.declared.Factor.{Factor}
use Rattle.tables.specs.Lists.{base}
use Rattle.canonical.specs.Canonical.{same_all, all_nought}

-- a multiple, or none
abbrev pub Maybe : Type 0
Maybe = Option Exponent

-- the place of the first that isn't zero
unfoldable pub first_base : List Exponent → ℕ
first_base [] = 0
first_base (x ∷ xs) = pick (same x nought) (suc (first_base xs)) 0

-- q if b's times q are a's: all are worked out, and tested, before any is compared
unfoldable pub fits : List Exponent → List Exponent → Exponent → Outcome Maybe
fits xs ys q = apply (λ zs. pick (same_all zs xs) (times q) none) (each (λ y. mul? y q) ys)

-- xs are a's base exponents, ys b's
unfoldable pub multiple_of : List Exponent → List Exponent → Outcome Maybe
multiple_of xs ys =
    pick (same_all xs ys) (Ok (times unit))
    (pick (all_nought xs || same (get_or ys (first_base xs) nought) nought) (Ok none)
    (bind (div? (get_or xs (first_base xs) nought) (get_or ys (first_base xs) nought)) (fits xs ys)))

-- of two lists: RANGE or DENOMINATOR of a's base exponents, then of b's
unfoldable pub is_multiple : List (ℕ → Exponent) → List Factor → List Factor → Outcome Maybe
is_multiple bs fs gs = bind (base bs fs) (λ xs. bind (base bs gs) (λ ys. multiple_of xs ys))
