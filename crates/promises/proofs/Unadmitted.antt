-- Which refusals a table and a list have (01, "The refusals"): TABLE, SHAPE, those of what leaves the range and FRACTION the one, SHAPE and UNKNOWN the other.
use mathlib.Core.List.{List, [], ◌∷◌, ◌++◌}
use Prim.Native.Nat.{ℕ}
use lib.Dec.{ltb}
use Rattle.exponents.specs.Outcome.{Refusal, TABLE, SHAPE, UNKNOWN, DENOMINATOR, FRACTION, Outcome, Ok, Err}
use Rattle.exponents.specs.declared.Exponent.{Exponent}
use Rattle.exponents.proofs.Holds.{Only, fine, only, only_unless, only_map, only_bind}
use Rattle.exponents.proofs.Halves.{OutOfRange, by_denominator, lcm_only}
use Rattle.floats.specs.Power.{one}
use Rattle.units.specs.declared.Factors.{Factors}
use Rattle.units.specs.declared.Kind.{Kind}
use Rattle.units.specs.declared.Kind.TheVariants.{Base, Derived}
use Rattle.units.specs.declared.Row.{Row}
use Rattle.units.specs.declared.Rows.{Rows}
use Rattle.units.specs.Lists.{checked}
use Rattle.tables.specs.declared.Slot.{Slot}
use Rattle.keys.specs.Key.{multiple, key}
use Rattle.tables.specs.Rows.{Facts, def_of, row_exps, row_scale, worked_out, row_facts, slots, Admission, stopped, admit_on, admit_from, rows_of, admit, known, table}
use Rattle.tables.specs.Rules.{rules_in}
use Rattle.exponents.proofs.Words.{pick_is}
use Rattle.conversion.proofs.Refusals.{base_only, fraction_only, scale_is}

-- S holds of what they refuse by
module _ (S : Refusal → Type 0) where
  -- ---- a list
  pub checked_only : S SHAPE → S UNKNOWN → (rows : ℕ) (l : Factors) → Only S (checked rows l)
  unfolding checked
  checked_only shape un rows l = only_unless _ SHAPE shape (only_unless _ UNKNOWN un fine)

  -- ---- a table
  module _ (tab : S TABLE) (shape : S SHAPE) (range : (r : Refusal) → OutOfRange r → S r) (frac : S FRACTION) (t : Rows) where
    multiple_only : (m : ℕ) (l : List Exponent) → Only S (multiple m l)
    unfolding multiple
    multiple_only m [] = fine
    multiple_only m (x ∷ l) = only_bind _ _ (lcm_only S (range DENOMINATOR by_denominator) m x.den) λ n _. multiple_only n l

    exps_only : (k : Kind) (ss : List Slot) (js : List Facts) (r : Row) → Only S (row_exps k ss js r)
    unfolding row_exps
    exps_only Base ss js r = fine
    exps_only (Derived f) ss js r = base_only S range _ (def_of r)

    scale_only : (k : Kind) (js : List Facts) (r : Row) → Only S (row_scale k js r)
    unfolding row_scale
    scale_only Base js r = fine
    scale_only (Derived f) js r = only_map _ (fraction_only S frac (scale_is (rules_in t js) one (def_of r)))

    facts_only : (ss : List Slot) (js : List Facts) (r : Row) → Only S (row_facts ss js r)
    unfolding row_facts worked_out key
    facts_only ss js r =
        only_unless _ TABLE tab (only_unless _ SHAPE shape
        (only_bind _ _ (exps_only r.kind ss js r) λ e _.
        only_bind _ _ (only_map _ (multiple_only 1 e)) λ k _.
        only_bind _ _ (scale_only r.kind js r) λ s _. fine))

    on_only : (o : Outcome Facts) (js : List Facts) (next : Facts → Admission) → Only S o → ((k : Facts) → Only S (known (next k))) → Only S (known (admit_on o js next))
    on_only (Ok k) js next h f = f k
    on_only (Err w) js next (only h) f = only h

    from_only : (ss : List Slot) (js : List Facts) (rs : List Row) → Only S (known (admit_from ss js rs))
    unfolding admit_from
    from_only ss js [] = fine
    from_only ss js (r ∷ rs) = on_only (row_facts ss js r) js _ (facts_only ss js r) λ k. from_only ss (js ++ (k ∷ [])) rs

    pub table_only : Only S (table t)
    unfolding admit
    table_only = pick_is (λ a. Only S (known a)) (ltb 128 t.len) {a = stopped TABLE []} (only tab) (from_only (slots (rows_of t)) [] (rows_of t))
