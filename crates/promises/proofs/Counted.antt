-- Counted conversions as they ship (02, order 5): what a caller over lent rows is handed, and what a caller of the exported functions reads in the room, is exactly the call's outcome, so that all of `countpromises` holds of it.
use mathlib.Core.Path.{◌≡◌, refl, sym, ◌∙◌, ap}
use mathlib.Core.List.{List}
use Prim.Native.Nat.{ℕ, ◌≤◌}
use native.Mathlib.Omega.{arith}
use lib.ListN.{length}
use Rattle.exponents.specs.Outcome.{Outcome, Ok, Err, apply}
use Rattle.exponents.proofs.Holds.{Holds, take_out, holds_by, holds_imp}
use Rattle.units.specs.declared.Factors.{Factors}
use Rattle.units.specs.declared.Quantity.{Quantity}
use Rattle.units.specs.declared.Row.{Row}
use Rattle.units.specs.declared.Rows.{Rows}
use Rattle.lent.specs.Lent.{lent_rows_lem}
use Rattle.counted.specs.Calls.{convert_to_counted, convert_merged_counted, counted_of}
use Rattle.counted.specs.declared.Counted.{Counted}
use Rattle.countpromises.proofs.Counts.{quantity_of, values_stay, bounds}
use Rattle.wire.specs.Arguments.{table_from, quantity_from, list_from}
use Rattle.wire.proofs.Form as form
use Rattle.wire.proofs.Form.{Form, then}
use Rattle.wire.proofs.Round.{QuantityFits, number_form, quantity_form}
use Rattle.askcounted.specs.Records.{counted_at, counted_bytes}
use Rattle.askcounted.specs.Calls as ask
use Rattle.demsharin.specs.Exports.{Exported}
use Rattle.promises.specs.Shipped.{counted_in, counted_from}
use Rattle.promises.proofs.Rounded.{ValueFits}
use Rattle.promises.proofs.Fitting.{convert_fits, merged-fits, read_fits}
use Rattle.promises.proofs.Shipped.{from_room}

-- ---- a quantity and its count in bytes

pub record CountedFits (p : Quantity × ℕ) : Type 0 where
  pub quantity : QuantityFits p.0
  pub count : p.1 ≤ 3744

pub counted_form : Form CountedFits counted_at counted_bytes 344
unfolding counted_at counted_bytes
counted_form = form.told (then quantity_form (then (number_form 4) (number_form 4))) (λ x. (x.0, x.1.0)) (λ p. (p.0, (p.1, 0))) (λ s i. refl) (λ p. refl) (λ p h. (h.quantity, (omega (arith, h.count), omega arith))) (λ p h. refl)

-- ---- every answer fits them: its quantity is the uncounted call's, and its count is within the bound

fitted : (o : Outcome (Quantity × ℕ)) (u : Outcome Quantity) → quantity_of o ≡ u → Holds QuantityFits u → ((p : Quantity × ℕ) → o ≡ Ok p → p.1 ≤ 3744) → Holds CountedFits o
fitted o u e h k = holds_by _ o λ p g. record { quantity = take_out h (sym e ∙ ap quantity_of g); count = k p g }

module _ (t : Rows) (q : Quantity) (v : ValueFits q.value) (m : Factors) where
  pub convert_counted-fits : Holds CountedFits (convert_to_counted t q m)
  convert_counted-fits = fitted _ _ (values_stay t q m).0 (convert_fits t q v m) (λ p e. (bounds t q m p).0 e)

  pub merged-counted-fits : Holds CountedFits (convert_merged_counted t q m)
  merged-counted-fits = fitted _ _ (values_stay t q m).1 (merged-fits t q v m) (λ p e. omega (arith, (bounds t q m p).1 e))

-- ---- over lent rows

in_counted : (o : Outcome (Quantity × ℕ)) → counted_in (counted_of o) ≡ o
in_counted (Ok p) = refl
in_counted (Err r) = refl

module _ (rows : List Row) (q : Quantity) (m : Factors) (r : Outcome Counted) where
  -- THEOREM: what `convert_to_counted` hands over is the counted conversion, refusals included
  pub lent_convert : r ≡ counted_of (convert_to_counted (lent_rows_lem rows) q m) → counted_in r ≡ convert_to_counted (lent_rows_lem rows) q m
  lent_convert e = ap counted_in e ∙ in_counted (convert_to_counted (lent_rows_lem rows) q m)

  -- THEOREM: and what `convert_merged_counted` does is that by order 3's rule
  pub lent-merged : r ≡ counted_of (convert_merged_counted (lent_rows_lem rows) q m) → counted_in r ≡ convert_merged_counted (lent_rows_lem rows) q m
  lent-merged e = ap counted_in e ∙ in_counted (convert_merged_counted (lent_rows_lem rows) q m)

-- ---- as exported functions, over the bytes of a table, a quantity and a list: each returned n and left `end` in the room, by its contract
module _ (room : List ℕ) (long : 344 ≤ length room) (n : ℕ) (end : List ℕ) where
  in_room : (o : Outcome (Quantity × ℕ)) → Holds CountedFits o → Exported room (apply counted_bytes o) n end → counted_from n end ≡ o
  in_room o h = from_room (λ s. counted_at s 0) counted_bytes room o (holds_imp h λ p k. (omega (arith, counted_form.sized p k), λ s. counted_form.back p s k)) n end

  module _ (tb qb lb : List ℕ) where
    -- THEOREM: what `demsharin_convert_to_counted` returns and leaves in a room of 344 bytes or more is the counted conversion, refusals included
    pub exported_convert : Exported room (ask.convert_to_counted tb qb lb) n end → counted_from n end ≡ convert_to_counted (table_from tb) (quantity_from qb) (list_from lb)
    unfolding ask.convert_to_counted
    exported_convert = in_room (convert_to_counted (table_from tb) (quantity_from qb) (list_from lb)) (convert_counted-fits (table_from tb) (quantity_from qb) (read_fits qb) (list_from lb))

    -- THEOREM: and `demsharin_convert_merged_counted` the same by order 3's rule
    pub exported_merged : Exported room (ask.convert_merged_counted tb qb lb) n end → counted_from n end ≡ convert_merged_counted (table_from tb) (quantity_from qb) (list_from lb)
    unfolding ask.convert_merged_counted
    exported_merged = in_room (convert_merged_counted (table_from tb) (quantity_from qb) (list_from lb)) (merged-counted-fits (table_from tb) (quantity_from qb) (read_fits qb) (list_from lb))

    -- so, in the room: no count passes its bound
    pub exported_bounds : (p : Quantity × ℕ) → (Exported room (ask.convert_to_counted tb qb lb) n end → counted_from n end ≡ Ok p → p.1 ≤ 3744) × (Exported room (ask.convert_merged_counted tb qb lb) n end → counted_from n end ≡ Ok p → p.1 ≤ 2560)
    exported_bounds p =
        let b = bounds (table_from tb) (quantity_from qb) (list_from lb) p in
        (λ c e. b.0 (sym (exported_convert c) ∙ e), λ c e. b.1 (sym (exported_merged c) ∙ e))
