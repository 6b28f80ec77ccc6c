-- Demand 3 for `convert_merged` (02, order 3), as `Demands` has it for `convert_to`: converting a nonzero value between unequal units is refused as incompatible exactly when their base exponents differ; if they agree, the answer is the scaled value in the target unit, unless a scale is fractional. Then over lent rows and as the exported function.
use mathlib.Core.Path.{◌≡◌}
use mathlib.Core.Bool.{false, ◌||◌}
use mathlib.Core.Logic.{◌↔◌}
use mathlib.Core.List.{List}
use Prim.Native.Nat.{ℕ, ◌≤◌}
use lib.Ieee.{Float, mul, div}
use lib.Ieee as ieee
use lib.ListN.{length}
use Rattle.exponents.specs.Outcome.{Refusal, UNITS, DENOMINATOR, Outcome, Ok, Err}
use Rattle.exponents.specs.declared.Exponent.{Exponent}
use Rattle.exponents.proofs.Halves.{OutOfRange}
use Rattle.exponents.proofs.Rationals.{value}
use Rattle.floats.specs.Values.{is_zero}
use Rattle.units.specs.declared.Factor.{Factor}
use Rattle.units.specs.declared.Factors.{Factors}
use Rattle.units.specs.declared.Quantity.{Quantity}
use Rattle.units.specs.declared.Row.{Row}
use Rattle.units.specs.declared.Rows.{Rows}
use Rattle.units.specs.Lists.{both}
use Rattle.lent.specs.Lent.{lent_rows_lem}
use Rattle.tables.specs.Rows.{Facts, table}
use Rattle.tables.specs.Rules.{rules_in}
use Rattle.canonical.specs.Canonical.{canon}
use Rattle.canonical.proofs.Total.{order_in_total}
use Rattle.lists.specs.Calls.{same_lists}
use Rattle.common.specs.Common.{common, over}
use Rattle.conversion.specs.Fractional.{fractional}
use Rattle.conversion.proofs.Ready.{merges}
use Rattle.conversion.proofs.Cases.{Reduced, Stopped}
use Rattle.conversion.proofs.Refusals.{Fraction}
use Rattle.values.specs.Quantities.{fresh}
use Rattle.quantities.specs.Calls.{convert_merged}
use Rattle.halves.specs.Wholes.{WholeList, WholeRows}
use Rattle.halves.proofs.Stopped.{merged_stops}
use Rattle.halves.proofs.WholeCalls.{merged_never}
use Rattle.wire.specs.Arguments.{table_from, quantity_from, list_from}
use Rattle.askconversions.specs.Calls as ask
use Rattle.demsharin.specs.Exports.{Exported}
use Rattle.promises.specs.Shipped.{outcome_from}
use Rattle.promises.proofs.Conversion as conversion
use Rattle.promises.proofs.Demands.{rules, Has, SameBase, Scale, forms_differ}
use Rattle.promises.proofs.Fitting.{merged-fits, read_fits}
use Rattle.promises.proofs.Shipped.{over-rows, over_bytes}

-- t is an admitted table, ks what is known of its rows; q is a quantity of it and m a list of it, and fs and gs are the two lists
module _ (t : Rows) (ks : List Facts) (k : table t ≡ Ok ks) (q : Quantity) (m : Factors) (fs gs : List Factor) (h : both (length ks) q.unit m ≡ Ok (fs, gs)) where
  -- the six steps in which an exponent could leave the range: both canonical forms, the own list over the common factors in canonical form, its base exponents, the target over them in canonical form, and its base exponents
  pub record InRange (cl cm own l : List Factor) (x y : List Exponent) : Type 0 where
    pub own_form : canon (rules t ks k).order fs ≡ Ok cl
    pub target_form : canon (rules t ks k).order gs ≡ Ok cm
    pub own_over : canon (rules t ks k).order (over fs (common (rules t ks k).order cl cm)) ≡ Ok own
    pub own_base : Has t ks k own x
    pub over_form : canon (rules t ks k).order (over gs (common (rules t ks k).order cl cm)) ≡ Ok l
    pub target-base : Has t ks k l y

  module _ (nonzero : is_zero q.value ≡ false) (unequal : same_lists t q.unit m ≡ Ok false) {cl cm own l : List Factor} {x y : List Exponent} (s : InRange cl cm own l x y) where
    steps : Reduced (rules t ks k) value (canon (rules t ks k).order) fs gs q.value cl cm own x l y
    steps = record {
      lists = record { own = s.own_form; target = s.target_form; nonzero = nonzero; differ = forms_differ t ks k q m fs gs h unequal s.own_form s.target_form };
      readied = s.own_over;
      steps = record { own_base = s.own_base; target_is = s.over_form; target-base = s.target-base };
    }

    pub units_exactly : (convert_merged t q m ≡ Err UNITS) ↔ (SameBase t ks k fs gs → ⊥)
    unfolding convert_merged
    units_exactly = conversion.units_exactly (λ R. canon R.order) t ks k (merges value (rules_in t ks) (order_in_total ks)) q m fs gs h steps

    -- each scale is that of a list over the common factors, in canonical form
    pub scaled_value : SameBase t ks k fs gs → (a b : Float) → Scale t ks k own ≡ Ok a → Scale t ks k l ≡ Ok b → convert_merged t q m ≡ Ok (fresh (div ieee.binary64 (mul ieee.binary64 q.value a) b) gs)
    unfolding convert_merged
    scaled_value = conversion.scaled_value (λ R. canon R.order) t ks k (merges value (rules_in t ks) (order_in_total ks)) q m fs gs h steps

    -- FRACTION exactly where a size other than 1 meets an exponent that isn't whole, in one of the two scales; else it answers
    pub fraction_exactly : SameBase t ks k fs gs → Fraction (fractional (rules t ks k) own || fractional (rules t ks k) l) (convert_merged t q m)
    unfolding convert_merged
    fraction_exactly = conversion.fraction_exactly (λ R. canon R.order) t ks k (merges value (rules_in t ks) (order_in_total ks)) q m fs gs h steps

    -- all of it, of an answer
    pub record Merges (o : Outcome Quantity) : Type 0 where
      pub units : (o ≡ Err UNITS) ↔ (SameBase t ks k fs gs → ⊥)
      pub scaled : SameBase t ks k fs gs → (a b : Float) → Scale t ks k own ≡ Ok a → Scale t ks k l ≡ Ok b → o ≡ Ok (fresh (div ieee.binary64 (mul ieee.binary64 q.value a) b) gs)
      pub fraction : SameBase t ks k fs gs → Fraction (fractional (rules t ks k) own || fractional (rules t ks k) l) o

    pub merges_all : Merges (convert_merged t q m)
    merges_all = record { units = units_exactly; scaled = scaled_value; fraction = fraction_exactly }

-- ---- over lent rows: r is what `convert_merged` hands over, by its contract
module _ (rs : List Row) (q : Quantity) (m : Factors) (r : Outcome Quantity) (contract : r ≡ convert_merged (lent_rows_lem rs) q m) where
  -- whatever holds of the call's outcome
  pub lent_has : (P : Outcome Quantity → Type 0) → P (convert_merged (lent_rows_lem rs) q m) → P r
  lent_has P p = over-rows P (convert_merged (lent_rows_lem rs) q m) p r contract

  pub lent_merges : (ks : List Facts) (k : table (lent_rows_lem rs) ≡ Ok ks) (fs gs : List Factor) (h : both (length ks) q.unit m ≡ Ok (fs, gs)) (nonzero : is_zero q.value ≡ false) (unequal : same_lists (lent_rows_lem rs) q.unit m ≡ Ok false)
      {cl cm own l : List Factor} {x y : List Exponent} (s : InRange (lent_rows_lem rs) ks k q m fs gs h cl cm own l x y) → Merges (lent_rows_lem rs) ks k q m fs gs h nonzero unequal s r
  lent_merges ks k fs gs h nonzero unequal s = lent_has (Merges (lent_rows_lem rs) ks k q m fs gs h nonzero unequal s) (merges_all (lent_rows_lem rs) ks k q m fs gs h nonzero unequal s)

-- ---- as an exported function, over the bytes of a table, a quantity and a list: it returned n and left `end` in the room, by its contract
module _ (tb qb mb room : List ℕ) (long : 336 ≤ length room) (n : ℕ) (end : List ℕ) (contract : Exported room (ask.convert_merged tb qb mb) n end) where
  abbrev t : Rows
  t = table_from tb

  abbrev q : Quantity
  q = quantity_from qb

  abbrev m : Factors
  m = list_from mb

  -- whatever holds of the call's outcome
  pub exported_has : (P : Outcome Quantity → Type 0) → P (convert_merged t q m) → P (outcome_from n end)
  unfolding ask.convert_merged
  exported_has P p = over_bytes P (convert_merged t q m) p (merged-fits t q (read_fits qb) m) room long n end contract

  pub exported_merges : (ks : List Facts) (k : table t ≡ Ok ks) (fs gs : List Factor) (h : both (length ks) q.unit m ≡ Ok (fs, gs)) (nonzero : is_zero q.value ≡ false) (unequal : same_lists t q.unit m ≡ Ok false)
      {cl cm own l : List Factor} {x y : List Exponent} (s : InRange t ks k q m fs gs h cl cm own l x y) → Merges t ks k q m fs gs h nonzero unequal s (outcome_from n end)
  exported_merges ks k fs gs h nonzero unequal s = exported_has (Merges t ks k q m fs gs h nonzero unequal s) (merges_all t ks k q m fs gs h nonzero unequal s)

  -- what leaves the range: exactly where one of the steps does, with the refusal of the first
  pub exported_stops : (ks : List Facts) → table t ≡ Ok ks → (fs gs : List Factor) → both (length ks) q.unit m ≡ Ok (fs, gs) →
      (w : Refusal) → OutOfRange w → (outcome_from n end ≡ Err w) ↔ Stopped (rules_in t ks) value (canon (rules_in t ks).order) fs gs q.value w
  exported_stops ks k fs gs h w range = exported_has (λ o. (o ≡ Err w) ↔ Stopped (rules_in t ks) value (canon (rules_in t ks).order) fs gs q.value w) (merged_stops t ks k q m fs gs h w range)

  -- where every denominator given is 1, never DENOMINATOR
  pub exported_never : WholeRows t → WholeList q.unit → WholeList m → outcome_from n end ≡ Err DENOMINATOR → ⊥
  exported_never w a b = exported_has (λ o. o ≡ Err DENOMINATOR → ⊥) (merged_never t w q a m b)
