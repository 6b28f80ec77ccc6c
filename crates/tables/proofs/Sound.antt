-- Base exponents that are worked out keep the rule of an exponent: in range, in lowest terms, one for each base row.
use mathlib.Core.Path.{◌≡◌, refl, ◌∙◌, ap}
use mathlib.Core.Bool.{Bool, true, false}
use mathlib.Core.List.{List, [], ◌∷◌, map}
use Prim.Native.Nat.{ℕ, zero, suc}
use native.Mathlib.Omega.{arith}
use lib.Dec.{eqb}
use lib.ListN.{length, length-map}
use Rattle.exponents.specs.Outcome.{Outcome}
use Rattle.exponents.specs.Fractions.{nought, unit, sum?, add}
use Rattle.exponents.specs.declared.Exponent.{Exponent}
use Rattle.exponents.proofs.Exact.{Low, unit_low}
use Rattle.exponents.proofs.Holds.{Holds, held, holds_eq, holds_imp, holds_both, holds_bind}
use Rattle.exponents.proofs.InRange.{InRange, ranged_holds}
use Rattle.exponents.proofs.Rationals.{value, nought_low}
use Rattle.exponents.proofs.Totals.{sum_low}
use Rattle.units.specs.declared.Factor.{Factor}
use Rattle.units.specs.declared.Kind.{Kind}
use Rattle.units.specs.declared.Kind.TheVariants.{Base, Derived}
use Rattle.units.specs.declared.Row.{Row}
use Rattle.tables.specs.Lists.{base_at, base}
use Rattle.exponents.specs.Words.{pick, All}
use Rattle.tables.specs.Rows.{Facts, exp_at, places, bases, def_of, row_exps}
use Rattle.tables.specs.declared.Slot.{Slot}
use Rattle.exponents.proofs.Each.{each_holds, along_all, along_length}

pub record Sound (x : Exponent) : Type 0 where
  pub range : InRange x
  pub low : Low x

pub nought_sound : Sound nought
nought_sound = record { range = record { numerator = omega arith; some = omega arith; denominator = omega arith }; low = nought_low }

unit_sound : Sound unit
unit_sound = record { range = record { numerator = omega arith; some = omega arith; denominator = omega arith }; low = unit_low }

sum_range : {A : Type 0} (term : A → Outcome Exponent) (s : Exponent) (l : List A) → InRange s → Holds InRange (sum? term s l)
unfolding sum?
sum_range term s [] h = held h
sum_range term s (a ∷ l) h = holds_bind _ (holds_eq (term a)) λ t p. holds_bind _ (ranged_holds InRange (add s t) (λ r. r)) λ u r. sum_range term u l r

pub base_at_sound : (l : List Factor) (b : ℕ → Exponent) → Holds Sound (base_at l b)
unfolding base_at
base_at_sound l b = holds_imp (holds_both (sum_range _ nought l nought_sound.range) (sum_low value _ nought l nought_low)) λ x h. record { range = h.0; low = h.1 }

-- ---- of a row
pub record SoundRow (n : ℕ) (d : List Exponent) : Type 0 where
  pub sized : length d ≡ n
  pub each : All Sound d

length-places : (p n : ℕ) → length (places p n) ≡ n
unfolding places
length-places p zero = refl
length-places p (suc n) = ap suc (length-places (suc p) n)

at_itself : (n : ℕ) (ss : List Slot) → All Sound (map (λ s. pick (eqb s.row n) unit nought) ss)
at_itself n [] = tt
at_itself n (s ∷ ss) = (go (eqb s.row n), at_itself n ss)
  where
    go : (t : Bool) → Sound (pick t unit nought)
    go true = unit_sound
    go false = nought_sound

pub row_sound : (k : Kind) (ss : List Slot) (js : List Facts) (r : Row) → Holds (SoundRow (length ss)) (row_exps k ss js r)
unfolding row_exps base
row_sound Base ss js r = held (record { sized = length-map ss _; each = at_itself (length js) ss })
row_sound (Derived f) ss js r =
    holds_imp (each_holds (base_at (def_of r)) (base_at_sound (def_of r)) (bases (length ss) js)) λ d h.
    record { sized = along_length h ∙ length-map (places 0 (length ss)) (exp_at js) ∙ length-places 0 (length ss); each = along_all h }
