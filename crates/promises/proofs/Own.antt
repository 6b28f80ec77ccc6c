-- ORDER, MULTIPLE and ARGUMENT are the knot calls' own refusals (02, order 4): no conversion answers them. So a knot vector's refusal tells which of its cases it is: ARGUMENT a bad count, degree or tolerance, ORDER and MULTIPLE values that all converted, any other the lowest knot that doesn't convert.
use mathlib.Core.Path.{◌≡◌, ap}
use mathlib.Core.Bool.{true, false}
use mathlib.Core.Logic.{◌↔◌}
use mathlib.Core.List.{List}
use Prim.Native.Nat.{ℕ, ◌≤◌, ◌<◌}
use native.Mathlib.Omega.{arith}
use lib.ListN.{length}
use lib.Ieee.{Float}
use Rattle.exponents.specs.Outcome.{Refusal, TABLE, SHAPE, UNKNOWN, RANGE, UNITS, FRACTION, DENOMINATOR, ORDER, MULTIPLE, ARGUMENT, number, Outcome, Err}
use Rattle.exponents.proofs.Holds.{Only, only_out, only_map, only_bind}
use Rattle.exponents.proofs.Halves.{OutOfRange, by_numerator, by_denominator}
use Rattle.exponents.proofs.Rationals.{value}
use Rattle.units.specs.declared.Factor.{Factor}
use Rattle.units.specs.declared.Factors.{Factors}
use Rattle.units.specs.declared.Quantity.{Quantity}
use Rattle.units.specs.declared.Rows.{Rows}
use Rattle.units.specs.Lists.{checked, both}
use Rattle.tables.specs.Rows.{Facts, table}
use Rattle.tables.specs.Rules.{Rules, rules_in}
use Rattle.canonical.specs.Canonical.{canon}
use Rattle.canonical.proofs.Total.{order_in_total}
use Rattle.conversion.specs.Conversion.{standing, convert_by}
use Rattle.conversion.proofs.Ready.{Ready, stands, merges}
use Rattle.conversion.proofs.Faithful.{convert_only}
use Rattle.quantities.specs.Calls.{convert_with, convert_to, convert_merged}
use Rattle.knotruns.specs.Values.{unordered}
use Rattle.knotruns.specs.Runs.{Run}
use Rattle.knots.specs.Calls.{knot_vector}
use Rattle.knots.specs.declared.Rule.{Rule}
use Rattle.knotpromises.proofs.Words.{bad_arguments, overfull, Become, Lowest}
use Rattle.knotpromises.proofs.Knots.{Case, argument, conversion, order, multiple, answer, one_case, no_other}
use Rattle.promises.proofs.Unadmitted.{checked_only, table_only}

-- ---- the refusals of a conversion
pub data OfConversion : Refusal → Type 0 where
  of-table : OfConversion TABLE
  of_shape : OfConversion SHAPE
  of-unknown : OfConversion UNKNOWN
  of_range : OfConversion RANGE
  of_denominator : OfConversion DENOMINATOR
  of_units : OfConversion UNITS
  of_fraction : OfConversion FRACTION

-- their numbers are below those of ORDER, MULTIPLE and ARGUMENT
pub of-below : {r : Refusal} → OfConversion r → number r < 14
of-below of-table = omega arith
of-below of_shape = omega arith
of-below of-unknown = omega arith
of-below of_range = omega arith
of-below of_denominator = omega arith
of-below of_units = omega arith
of-below of_fraction = omega arith

leaves_range : (r : Refusal) → OutOfRange r → OfConversion r
leaves_range r by_numerator = of_range
leaves_range r by_denominator = of_denominator

both_only : (rows : ℕ) (a b : Factors) → Only OfConversion (both rows a b)
unfolding both
both_only rows a b = only_bind (checked rows a) _ (checked_only OfConversion of_shape of-unknown rows a) λ fs _. only_map _ (checked_only OfConversion of_shape of-unknown rows b)

module _ (t : Rows) (q : Quantity) (m : Factors) where
  -- however the own list is made ready
  conversion_only : (ready : Rules Float → List Factor → Outcome (List Factor)) → ((ks : List Facts) → Ready value (ready (rules_in t ks))) → Only OfConversion (convert_with t (λ R. convert_by R (ready R)) q m)
  conversion_only ready K =
      only_bind (table t) _ (table_only OfConversion of-table of_shape leaves_range of_fraction t) λ ks _.
      only_bind (both (length ks) q.unit m) _ (both_only (length ks) q.unit m) λ p _.
      only_map _ (convert_only (rules_in t ks) value (order_in_total ks) (ready (rules_in t ks)) (K ks) OfConversion leaves_range of_fraction p.0 p.1 q.value (λ _. of_units))

  -- THEOREM: 01's conversion has no other refusals, whatever the table, the quantity and the list
  pub convert_own : (r : Refusal) → convert_to t q m ≡ Err r → OfConversion r
  unfolding convert_to
  convert_own r e = only_out (conversion_only (λ R. standing) (λ ks. stands value)) e

  -- THEOREM: nor has that of 02's order 3
  pub merged_own : (r : Refusal) → convert_merged t q m ≡ Err r → OfConversion r
  unfolding convert_merged
  merged_own r e = only_out (conversion_only (λ R. canon R.order) (λ ks. merges value (rules_in t ks) (order_in_total ks))) e

-- ---- at the call: t is a table, ks are knots, u is a rule
module _ (t : Rows) (ks : List Quantity) (u : Rule) where
  -- what refuses the lowest knot that doesn't convert is a conversion's refusal
  pub lowest_own : {r : Refusal} → Lowest t u.unit ks r → OfConversion r
  lowest_own {r} l = merged_own t l.knot u.unit r l.refuses

  -- all knots convert, to values that are out of order
  pub record Unordered : Type 0 where
    pub arguments : bad_arguments ks u ≡ false
    pub values : List Float
    pub convert : Become t u.unit ks values
    pub out_of_order : unordered values ≡ true

  -- all knots convert, to values in order of which a run has more knots than the degree plus one
  pub record Overfull : Type 0 where
    pub arguments : bad_arguments ks u ≡ false
    pub values : List Float
    pub convert : Become t u.unit ks values
    pub in_order : unordered values ≡ false
    pub too_many : overfull u values ≡ true

  -- a refusal from 14 on is no lowest knot's
  not_lowest : {r w : Refusal} → Lowest t u.unit ks w → ◌≡◌ {A = Outcome (List Run)} (Err w) (Err r) → 14 ≤ number r → ⊥
  not_lowest {r} {w} l e h =
      let n : w ≡ r = cc in
      omega (arith, of-below (lowest_own l), ap number n, h)

  -- THEOREM: ARGUMENT exactly where count, degree or tolerance is bad
  pub own_argument : (knot_vector t ks u ≡ Err ARGUMENT) ↔ (bad_arguments ks u ≡ true)
  own_argument = (go (one_case t ks u), λ f. no_other t ks u (argument f))
    where
      go : {p : Outcome (List Run)} → Case t ks u p → p ≡ Err ARGUMENT → bad_arguments ks u ≡ true
      go (argument f) e = f
      go (conversion w f l) e = absurd (not_lowest l e (omega arith))
      go (order xs f b h) e = let z : ◌≡◌ {A = ℕ} 0 1 = cc in absurd (omega arith)
      go (multiple xs f b h c) e = let z : ◌≡◌ {A = ℕ} 0 1 = cc in absurd (omega arith)
      go (answer xs f b h c) e = let z : ◌≡◌ {A = ℕ} 0 1 = cc in absurd (omega arith)

  -- THEOREM: ORDER exactly where these are good, every knot converts and the values are out of order
  pub own_order : (knot_vector t ks u ≡ Err ORDER) ↔ Unordered
  own_order = (go (one_case t ks u), λ o. no_other t ks u (order o.values o.arguments o.convert o.out_of_order))
    where
      go : {p : Outcome (List Run)} → Case t ks u p → p ≡ Err ORDER → Unordered
      go (argument f) e = let z : ◌≡◌ {A = ℕ} 0 1 = cc in absurd (omega arith)
      go (conversion w f l) e = absurd (not_lowest l e (omega arith))
      go (order xs f b h) e = record { arguments = f; values = xs; convert = b; out_of_order = h }
      go (multiple xs f b h c) e = let z : ◌≡◌ {A = ℕ} 0 1 = cc in absurd (omega arith)
      go (answer xs f b h c) e = let z : ◌≡◌ {A = ℕ} 0 1 = cc in absurd (omega arith)

  -- THEOREM: MULTIPLE exactly where they are in order and a run has more knots than the degree plus one
  pub own_multiple : (knot_vector t ks u ≡ Err MULTIPLE) ↔ Overfull
  own_multiple = (go (one_case t ks u), λ o. no_other t ks u (multiple o.values o.arguments o.convert o.in_order o.too_many))
    where
      go : {p : Outcome (List Run)} → Case t ks u p → p ≡ Err MULTIPLE → Overfull
      go (argument f) e = let z : ◌≡◌ {A = ℕ} 0 1 = cc in absurd (omega arith)
      go (conversion w f l) e = absurd (not_lowest l e (omega arith))
      go (order xs f b h) e = let z : ◌≡◌ {A = ℕ} 0 1 = cc in absurd (omega arith)
      go (multiple xs f b h c) e = record { arguments = f; values = xs; convert = b; in_order = h; too_many = c }
      go (answer xs f b h c) e = let z : ◌≡◌ {A = ℕ} 0 1 = cc in absurd (omega arith)

  -- THEOREM: with these good, any other refusal exactly where it is that of the lowest knot that doesn't convert
  pub lowest_exactly : bad_arguments ks u ≡ false → (r : Refusal) → number r < 14 → (knot_vector t ks u ≡ Err r) ↔ Lowest t u.unit ks r
  lowest_exactly f r n = (go (one_case t ks u), λ l. no_other t ks u (conversion r f l))
    where
      other : {w : Refusal} → ◌≡◌ {A = Outcome (List Run)} (Err w) (Err r) → 14 ≤ number w → ⊥
      other {w} e h =
          let s : w ≡ r = cc in
          omega (arith, n, ap number s, h)

      go : {p : Outcome (List Run)} → Case t ks u p → p ≡ Err r → Lowest t u.unit ks r
      go (argument g) e = absurd (other e (omega arith))
      go (conversion w g l) e = let s : r ≡ w = cc in rw s l
      go (order xs g b h) e = absurd (other e (omega arith))
      go (multiple xs g b h c) e = absurd (other e (omega arith))
      go (answer xs g b h c) e = let z : ◌≡◌ {A = ℕ} 0 1 = cc in absurd (omega arith)
