-- What is left after the three steps is settled as the rule says: refused with its base exponents or its scale, turned into the single base unit, or handed to the candidates.
use mathlib.Core.Path.{◌≡◌, ap, ◌∙◌}
use mathlib.Core.Bool.{true, false, ◌&&◌}
use mathlib.Core.List.{List}
use Prim.Native.Nat.{◌≤◌, ◌<◌}
use native.Mathlib.Omega.{arith}
use borrow.Author.Tests.{lt-ltb, le-ltb}
use lib.Ieee.{Float}
use lib.ListN.{length}
use Rattle.exponents.specs.Outcome.{Refusal, Outcome, Ok, Err, apply, bind}
use Rattle.exponents.specs.declared.Exponent.{Exponent}
use Rattle.exponents.proofs.Holds.{bind_given, bind_refused}
use Rattle.units.specs.declared.Factor.{Factor}
use Rattle.units.specs.declared.Quantity.{Quantity}
use Rattle.tables.specs.declared.Slot.{Slot}
use Rattle.tables.specs.Lists.{base}
use Rattle.reduction.specs.Reduction.{reduced}
use Rattle.values.specs.Quantities.{fresh}
use Rattle.tables.specs.Rules.{Rules, scale_by}
use Rattle.conversion.specs.Conversion.{convert}
use Rattle.simplification.specs.Steps.{Amount, quantity_of}
use Rattle.registry.specs.Registry.{near_one, is_single, chosen, settled, registered}

module _ (R : Rules Float) (ss : List Slot) (ms : List (List Factor)) (now : Amount) where
  abbrev pub left : Outcome Quantity
  left = apply quantity_of (registered R ss ms now)

  pub few_left : length now.1 < 2 → left ≡ Ok (quantity_of now)
  unfolding registered
  few_left h = rw (le-ltb 1 (length now.1) (omega arith))

  module _ (h : 2 ≤ length now.1) where
    opened : registered R ss ms now ≡ bind (base R.bases now.1) (λ xs. bind (scale_by R now.1) (λ s. settled R ss ms now xs s))
    unfolding registered
    opened = rw (lt-ltb 1 (length now.1) (omega arith))

    pub range_stops : (r : Refusal) → base R.bases now.1 ≡ Err r → left ≡ Err r
    range_stops r e = ap (apply quantity_of) (opened ∙ bind_refused _ e)

    module _ (xs : List Exponent) (e : base R.bases now.1 ≡ Ok xs) where
      ranged : registered R ss ms now ≡ bind (scale_by R now.1) (λ s. settled R ss ms now xs s)
      ranged = opened ∙ bind_given _ e

      pub fraction_stops : (r : Refusal) → scale_by R now.1 ≡ Err r → left ≡ Err r
      fraction_stops r z = ap (apply quantity_of) (ranged ∙ bind_refused _ z)

      module _ (s : Float) (g : scale_by R now.1 ≡ Ok s) where
        scaled : registered R ss ms now ≡ settled R ss ms now xs s
        scaled = ranged ∙ bind_given _ g

        -- the base factors as the unit
        module _ (t : (is_single (reduced ss xs) && near_one s) ≡ true) where
          to_unit : registered R ss ms now ≡ apply (λ x. (x, reduced ss xs)) (convert R now.1 (reduced ss xs) now.0)
          unfolding settled
          to_unit = scaled ∙ rw t

          pub unit_stops : (r : Refusal) → convert R now.1 (reduced ss xs) now.0 ≡ Err r → left ≡ Err r
          unit_stops r c = ap (apply quantity_of) (to_unit ∙ ap (apply (λ x. (x, reduced ss xs))) c)

          pub unit-taken : (x : Float) → convert R now.1 (reduced ss xs) now.0 ≡ Ok x → left ≡ Ok (fresh x (reduced ss xs))
          unit-taken x c = ap (apply quantity_of) (to_unit ∙ ap (apply (λ x. (x, reduced ss xs))) c)

        pub to_candidates : (is_single (reduced ss xs) && near_one s) ≡ false → left ≡ apply quantity_of (chosen R xs s now now ms)
        unfolding settled
        to_candidates t = let e : registered R ss ms now ≡ chosen R xs s now now ms = scaled ∙ rw t in ap (apply quantity_of) e
