-- Conversion in a table, with exponents as the rational numbers: it is right in every case, what is right in every case is conversion, and in an admitted table two that only look right are not.
use mathlib.Core.Path.{◌≡◌, refl, sym, ◌∙◌, ap}
use mathlib.Core.Bool.{Bool, true, false}
use mathlib.Core.List.{List, [], ◌∷◌}
use Prim.Native.Nat.{ℕ}
use native.Mathlib.Omega.{arith}
use lib.IntN.{ℤ, pos}
use lib.Ieee.{Float, to_bits, of_bits, mul, div, eq}
use lib.Ieee as ieee
use Rattle.exponents.specs.Outcome.{UNITS, Outcome, Ok, Err, bind, each}
use Rattle.exponents.specs.Outcome as outcome
use Rattle.exponents.specs.Held.{worked}
use Rattle.exponents.proofs.Rationals as rational
use Rattle.floats.specs.Power.{one, bits_of, raise, power}
use Rattle.units.specs.declared.Prefix.TheVariants.{Metric}
use Rattle.units.specs.declared.Factor.{Factor}
use Rattle.units.specs.declared.Kind.TheVariants.{Base, Derived}
use Rattle.units.specs.declared.Rows.{Rows}
use Rattle.units.specs.Lists.{factor_fault, some, with_exponent, inverted}
use Rattle.keys.specs.Key.{multiple, whole, wholes, divisor, below, turn, shrink, reduce, key, entry, entries}
use Rattle.tables.specs.Lists.{base_at, base}
use Rattle.tables.specs.Scale.{raise as raisedBy, raised_to, scale_from_lem}
use Rattle.tables.specs.Rows.{Facts, exp_at, scale_at, places, placed, slotted, slots_from, is_base, count, kind_fault, table_fault, row_exps, row_scale, worked_out, row_facts, admitted, admit_from, admit}
use Rattle.tables.specs.Order.{key_order, row_order}
use Rattle.tables.specs.Rules.{rules_in}
use Rattle.canonical.specs.Canonical.{place, insert, gather, drop_if, nonzero, canon, same_list, same_all}
use Rattle.keys.specs.Orders.{is_eq}
use Rattle.canonical.proofs.Total.{order_in_total}
use Rattle.common.specs.Common.{meet, if_same, with_shared, shared_with_lem, common}
use Rattle.conversion.specs.Conversion.{judged, choose, rescaled, against, unlike, standing, convert_by, convert}
use Rattle.conversion.proofs.Refusals.{given_not_refused}
use Rattle.conversion.proofs.Cases.{Faithful}
use Rattle.conversion.proofs.Ready.{stands}
use Rattle.conversion.proofs.Faithful as f

-- any table t, its rows known as ks
module _ (t : Rows) (ks : List Facts) where
  abbrev pub Right : (List Factor → List Factor → Float → Outcome Float) → Type 0
  Right f = Faithful (rules_in t ks) rational.value standing f

  -- conversion is right in every case
  pub converts : Right (convert (rules_in t ks))
  converts = f.faithful (rules_in t ks) rational.value (order_in_total ks) standing (stands rational.value)

  -- what is right is conversion
  pub alone : (f : List Factor → List Factor → Float → Outcome Float) → Right f → (l m : List Factor) (v : Float) → f l m v ≡ convert (rules_in t ks) l m v
  alone = f.only_one (rules_in t ks) rational.value (order_in_total ks) standing (stands rational.value)

-- ---- in a table of metre, second and minute = 60 second
abbrev pub sixty : Float
sixty = of_bits ieee.binary64 0x404e_0000_0000_0000

abbrev pub unit_of : ℕ → List Factor
unit_of r = record { row = r; prefix = Metric (pos 0); exponent = record { num = pos 1; den = 1 } } ∷ []

abbrev pub rows : Rows
rows = record {
  at =
      record { def = []; len = 0; rank = 0; kind = Base }
      ∷ record { def = []; len = 0; rank = 1; kind = Base }
      ∷ record { def = unit_of 1; len = 1; rank = 2; kind = Derived sixty }
      ∷ [];
  len = 3;
}

-- what is known of its rows

abbrev pub row : ℤ → ℤ → Float → ℕ → Bool → Facts
row m s scale rank base = record { exps = record { num = m; den = 1 } ∷ record { num = s; den = 1 } ∷ []; key = m ∷ s ∷ []; scale = scale; rank = rank; base = base }

abbrev pub table : List Facts
table = row (pos 1) (pos 0) one 0 true ∷ row (pos 0) (pos 1) one 1 true ∷ row (pos 0) (pos 1) sixty 2 false ∷ []

-- `unfolding computed` opens what a conversion computes with
unfoldable computed : Unit {0}
unfolding worked bind each bits_of raise power mul div eq to_bits of_bits inverted with_exponent entry entries base_at base raisedBy raised_to scale_from_lem exp_at scale_at places placed slotted slots_from key_order row_order place insert gather drop_if nonzero canon is_eq same_list same_all meet if_same with_shared shared_with_lem common judged choose rescaled against unlike convert_by
computed = tt

-- the table is admitted, and known as that
pub admits : admit rows ≡ admitted table
unfolding computed outcome.unless some factor_fault multiple whole wholes divisor below turn shrink reduce key is_base count kind_fault table_fault row_exps row_scale worked_out row_facts admit_from admit
admits = refl

abbrev conversion : List Factor → List Factor → Float → Outcome Float
conversion l m v = convert (rules_in rows table) l m v

minute-second : conversion (unit_of 2) (unit_of 1) one ≡ Ok sixty
unfolding computed
minute-second = refl

metre-second : conversion (unit_of 0) (unit_of 1) one ≡ Err UNITS
unfolding computed
metre-second = refl

-- right in this table
abbrev pub Good : (List Factor → List Factor → Float → Outcome Float) → Type 0
Good f = Right rows table f

good_is : (f : List Factor → List Factor → Float → Outcome Float) → Good f → (l m : List Factor) (v : Float) → f l m v ≡ conversion l m v
good_is = alone rows table

-- one that refuses everything, or has any one answer for all, is not right
pub not_one_answer : (o : Outcome Float) → Good (λ l m v. o) → ⊥
not_one_answer o h =
    let p : o ≡ Ok sixty = good_is (λ l m v. o) h (unit_of 2) (unit_of 1) one ∙ minute-second in
    let q : o ≡ Err UNITS = good_is (λ l m v. o) h (unit_of 0) (unit_of 1) one ∙ metre-second in
    given_not_refused (sym p ∙ q)

abbrev bits : Outcome Float → ℕ
bits (Ok v) = to_bits ieee.binary64 v
bits (Err r) = 0

-- nor is one that hands the value back
pub not_unconverted : Good (λ l m v. Ok v) → ⊥
unfolding computed
not_unconverted h =
    let z : ◌≡◌ {A = ℕ} 0x3ff0_0000_0000_0000 0x404e_0000_0000_0000 = ap bits (good_is (λ l m v. Ok v) h (unit_of 2) (unit_of 1) one ∙ minute-second) in
    omega arith
