-- Demand 3 at two calls as they ship, by the transport: `convert_to` and `full_simplify`, over lent rows and as exported functions; and which half of a fraction left its range (02, order 2), as `convert_to` tells it.
use mathlib.Core.Path.{◌≡◌}
use mathlib.Core.Bool.{false}
use mathlib.Core.Logic.{◌↔◌}
use mathlib.Core.List.{List}
use Prim.Native.Nat.{ℕ, ◌≤◌}
use lib.Ieee.{Float, mul, div}
use lib.Ieee as ieee
use lib.ListN.{length}
use Rattle.exponents.specs.Outcome.{Refusal, UNITS, DENOMINATOR, Outcome, Ok, Err}
use Rattle.exponents.specs.declared.Exponent.{Exponent}
use Rattle.exponents.proofs.Holds.{Holds}
use Rattle.exponents.proofs.Halves.{OutOfRange}
use Rattle.exponents.proofs.Rationals.{value}
use Rattle.floats.specs.Values.{is_zero}
use Rattle.units.specs.declared.Factor.{Factor}
use Rattle.units.specs.declared.Factors.{Factors}
use Rattle.units.specs.declared.Quantity.{Quantity}
use Rattle.units.specs.declared.Row.{Row}
use Rattle.units.specs.declared.Rows.{Rows}
use Rattle.units.specs.Lists.{list_of, checked, both}
use Rattle.lent.specs.Lent.{lent_rows_lem}
use Rattle.tables.specs.Rows.{Facts, table}
use Rattle.tables.specs.Rules.{rules_in}
use Rattle.lists.specs.Calls.{same_lists}
use Rattle.common.specs.Common.{common, over}
use Rattle.conversion.specs.Conversion.{standing}
use Rattle.conversion.proofs.Cases.{Stopped}
use Rattle.values.specs.Quantities.{fresh}
use Rattle.quantities.specs.Calls.{convert_to}
use Rattle.simplification.specs.Calls.{full_simplify}
use Rattle.halves.specs.Wholes.{WholeList, WholeRows}
use Rattle.halves.proofs.Stopped.{convert_stops}
use Rattle.halves.proofs.WholeCalls.{convert_never}
use Rattle.wire.specs.Arguments.{table_from, quantity_from, list_from}
use Rattle.askvalues.specs.Calls as askvalues
use Rattle.asksimplify.specs.Calls as asksimplify
use Rattle.demsharin.specs.Exports.{Exported}
use Rattle.promises.specs.Shipped.{outcome_from}
use Rattle.promises.proofs.Demands as demand
use Rattle.promises.proofs.Demands.{rules, SameBase, Scale, InRange}
use Rattle.promises.proofs.Fitting.{convert_fits, simplify_fits, read_fits}
use Rattle.promises.proofs.Shipped.{over-rows, over_bytes}

-- ---- `convert_to`: a nonzero value, unequal lists, and none of the five steps leaves the range
module _ (t : Rows) (ks : List Facts) (k : table t ≡ Ok ks) (q : Quantity) (m : Factors) (fs gs : List Factor) (h : both (length ks) q.unit m ≡ Ok (fs, gs))
    (nonzero : is_zero q.value ≡ false) (unequal : same_lists t q.unit m ≡ Ok false) {cl cm l : List Factor} {x y : List Exponent} (s : InRange t ks k q m fs gs h cl cm l x y) where
  -- what an answer must be: UNITS exactly where base exponents differ; the scaled value where they agree
  pub record Converts (o : Outcome Quantity) : Type 0 where
    pub units : (o ≡ Err UNITS) ↔ (SameBase t ks k fs gs → ⊥)
    pub scaled : SameBase t ks k fs gs → (own target : Float) → Scale t ks k (over fs (common (rules t ks k).order cl cm)) ≡ Ok own → Scale t ks k l ≡ Ok target →
        o ≡ Ok (fresh (div ieee.binary64 (mul ieee.binary64 q.value own) target) gs)

  pub converts : Converts (convert_to t q m)
  converts = record { units = demand.units_exactly t ks k q m fs gs h nonzero unequal s; scaled = demand.scaled_value t ks k q m fs gs h nonzero unequal s }

-- over lent rows: r is what `convert_to` hands over, by its contract
module _ (rs : List Row) (ks : List Facts) (k : table (lent_rows_lem rs) ≡ Ok ks) (q : Quantity) (m : Factors) (fs gs : List Factor) (h : both (length ks) q.unit m ≡ Ok (fs, gs))
    (nonzero : is_zero q.value ≡ false) (unequal : same_lists (lent_rows_lem rs) q.unit m ≡ Ok false) {cl cm l : List Factor} {x y : List Exponent} (s : InRange (lent_rows_lem rs) ks k q m fs gs h cl cm l x y)
    (r : Outcome Quantity) (contract : r ≡ convert_to (lent_rows_lem rs) q m) where
  pub lent_converts : Converts (lent_rows_lem rs) ks k q m fs gs h nonzero unequal s r
  lent_converts = over-rows (Converts (lent_rows_lem rs) ks k q m fs gs h nonzero unequal s) (convert_to (lent_rows_lem rs) q m) (converts (lent_rows_lem rs) ks k q m fs gs h nonzero unequal s) r contract

-- ---- what `convert_to` tells of what leaves the range
module _ (rs : List Row) (q : Quantity) (m : Factors) (r : Outcome Quantity) (contract : r ≡ convert_to (lent_rows_lem rs) q m) where
  -- exactly where one of the five steps does, with the refusal of the first
  pub lent_stops : (ks : List Facts) → table (lent_rows_lem rs) ≡ Ok ks → (fs gs : List Factor) → both (length ks) q.unit m ≡ Ok (fs, gs) →
      (w : Refusal) → OutOfRange w → (r ≡ Err w) ↔ Stopped (rules_in (lent_rows_lem rs) ks) value standing fs gs q.value w
  lent_stops ks k fs gs h w range = over-rows (λ o. (o ≡ Err w) ↔ Stopped (rules_in (lent_rows_lem rs) ks) value standing fs gs q.value w) (convert_to (lent_rows_lem rs) q m) (convert_stops (lent_rows_lem rs) ks k q m fs gs h w range) r contract

  -- where every denominator given is 1, never DENOMINATOR
  pub lent_never : WholeRows (lent_rows_lem rs) → WholeList q.unit → WholeList m → r ≡ Err DENOMINATOR → ⊥
  lent_never w a b = over-rows (λ o. o ≡ Err DENOMINATOR → ⊥) (convert_to (lent_rows_lem rs) q m) (convert_never (lent_rows_lem rs) w q a m b) r contract

-- as an exported function, over the bytes of a table, a quantity and a list: it returned n and left `end` in the room, by its contract
module _ (tb qb mb : List ℕ) where
  abbrev t : Rows
  t = table_from tb

  abbrev q : Quantity
  q = quantity_from qb

  abbrev m : Factors
  m = list_from mb

  module _ (room : List ℕ) (long : 336 ≤ length room) (n : ℕ) (end : List ℕ) where
    module _ (ks : List Facts) (k : table t ≡ Ok ks) (fs gs : List Factor) (h : both (length ks) q.unit m ≡ Ok (fs, gs))
        (nonzero : is_zero q.value ≡ false) (unequal : same_lists t q.unit m ≡ Ok false) {cl cm l : List Factor} {x y : List Exponent} (s : InRange t ks k q m fs gs h cl cm l x y)
        (contract : Exported room (askvalues.convert_to tb qb mb) n end) where
      pub exported_converts : Converts t ks k q m fs gs h nonzero unequal s (outcome_from n end)
      unfolding askvalues.convert_to
      exported_converts =
          over_bytes (Converts t ks k q m fs gs h nonzero unequal s) (convert_to t q m) (converts t ks k q m fs gs h nonzero unequal s) (convert_fits t q (read_fits qb) m) room long n end contract

    module _ (contract : Exported room (askvalues.convert_to tb qb mb) n end) where
      pub exported_stops : (ks : List Facts) → table t ≡ Ok ks → (fs gs : List Factor) → both (length ks) q.unit m ≡ Ok (fs, gs) →
          (w : Refusal) → OutOfRange w → (outcome_from n end ≡ Err w) ↔ Stopped (rules_in t ks) value standing fs gs q.value w
      unfolding askvalues.convert_to
      exported_stops ks k fs gs h w range =
          over_bytes (λ o. (o ≡ Err w) ↔ Stopped (rules_in t ks) value standing fs gs q.value w) (convert_to t q m) (convert_stops t ks k q m fs gs h w range) (convert_fits t q (read_fits qb) m) room long n end contract

      pub exported_never : WholeRows t → WholeList q.unit → WholeList m → outcome_from n end ≡ Err DENOMINATOR → ⊥
      unfolding askvalues.convert_to
      exported_never w a b = over_bytes (λ o. o ≡ Err DENOMINATOR → ⊥) (convert_to t q m) (convert_never t w q a m b) (convert_fits t q (read_fits qb) m) room long n end contract

    -- ---- `full_simplify` of a nonzero value, if it answers, keeps base exponents
    module _ (ks : List Facts) (k : table t ≡ Ok ks) (fs : List Factor) (h : checked (length ks) q.unit ≡ Ok fs) (nonzero : is_zero q.value ≡ false) (contract : Exported room (asksimplify.full_simplify tb qb) n end) where
      pub exported_simplifies : Holds (λ p. SameBase t ks k fs (list_of p.unit)) (outcome_from n end)
      unfolding asksimplify.full_simplify
      exported_simplifies =
          over_bytes (Holds (λ p. SameBase t ks k fs (list_of p.unit))) (full_simplify t q) (demand.simplify_keeps t ks k q fs h nonzero) (simplify_fits t q (read_fits qb)) room long n end contract

module _ (rs : List Row) (ks : List Facts) (k : table (lent_rows_lem rs) ≡ Ok ks) (q : Quantity) (fs : List Factor) (h : checked (length ks) q.unit ≡ Ok fs) (nonzero : is_zero q.value ≡ false)
    (r : Outcome Quantity) (contract : r ≡ full_simplify (lent_rows_lem rs) q) where
  pub lent_simplifies : Holds (λ p. SameBase (lent_rows_lem rs) ks k fs (list_of p.unit)) r
  lent_simplifies = over-rows (Holds (λ p. SameBase (lent_rows_lem rs) ks k fs (list_of p.unit))) (full_simplify (lent_rows_lem rs) q) (demand.simplify_keeps (lent_rows_lem rs) ks k q fs h nonzero) r contract
