-- Product, quotient and power answer where their steps do: the calls on lists, and those on quantities.
use mathlib.Core.Path.{◌≡◌, ◌∙◌, ap}
use mathlib.Core.Bool.{false, ◌&&◌}
use mathlib.Core.List.{List, [], ◌++◌, map as along}
use Prim.Native.Nat.{◌+◌, ◌≤◌}
use native.Mathlib.Omega.{arith}
use borrow.Author.Tests.{le-ltb}
use lib.Dec.{ltb}
use lib.IntN.{ℤ}
use lib.Ieee.{Float, binary64, mul, div, lt}
use lib.ListN.{length, length-map}
use Rattle.exponents.specs.Outcome.{Outcome, Ok, SHAPE, ROOM, DIVZERO, ZERONEG, unless, apply, bind, each}
use Rattle.exponents.specs.Fractions.{faulty}
use Rattle.exponents.specs.declared.Exponent.{Exponent}
use Rattle.exponents.proofs.Holds.{bind_given}
use Rattle.floats.specs.Power.{power}
use Rattle.floats.specs.Values.{is_zero}
use Rattle.units.specs.declared.Factor.{Factor}
use Rattle.units.specs.declared.Factors.{Factors}
use Rattle.units.specs.declared.Quantity.{Quantity}
use Rattle.units.specs.declared.Rows.{Rows}
use Rattle.units.specs.Lists as units
use Rattle.units.specs.Lists.{checked, both, joined, inverted, raised}
use Rattle.tables.specs.Rows.{Facts, table}
use Rattle.tables.specs.Rules.{rules_in}
use Rattle.lists.specs.Calls as lists
use Rattle.conversion.specs.Conversion.{convert}
use Rattle.values.specs.Quantities.{fresh}
use Rattle.values.specs.Calls.{multiply, checked_div}
use Rattle.quantities.proofs.Converting.{fault_passes}
use Rattle.powers.specs.Whole.{zero, whole_exponent}
use Rattle.powers.specs.Powers.{over1, raised_to}
use Rattle.powers.specs.Calls.{checked_power}

-- two lists together have at most sixteen factors
abbrev pub Room : List Factor → List Factor → Type 0
Room fs gs = length fs + length gs ≤ 16

room : (fs gs : List Factor) → Room fs gs → joined fs gs ≡ Ok (fs ++ gs)
unfolding joined
room fs gs h = fault_passes (ltb 16 (length fs + length gs)) ROOM (Ok (fs ++ gs)) (le-ltb 16 (length fs + length gs) h)

room_over : (fs gs : List Factor) → Room fs gs → joined fs (along inverted gs) ≡ Ok (fs ++ along inverted gs)
room_over fs gs h = room fs (along inverted gs) (omega (arith, length-map gs inverted))

module _ (t : Rows) (ks : List Facts) (k : table t ≡ Ok ks) where
  -- a list of the table to any exponent that keeps its rule: l is the list with its exponents multiplied
  pub powers_list : (a : Factors) (fs l : List Factor) (e : Exponent) → checked (length ks) a ≡ Ok fs → faulty e ≡ false → each (raised e) fs ≡ Ok l → lists.list_power t a e ≡ Ok l
  unfolding lists.list_power units.list_power
  powers_list a fs l e h s g = bind_given _ k ∙ bind_given _ h ∙ fault_passes (faulty e) SHAPE _ s ∙ g

  -- two lists of the table
  module _ (a b : Factors) (fs gs : List Factor) (h : both (length ks) a b ≡ Ok (fs, gs)) where
    -- what goes on after the table and the lists
    goes : {A : Type 0} (W : List Facts → List Factor → List Factor → Outcome A) → bind (table t) (λ ks. bind (both (length ks) a b) (λ l. W ks l.0 l.1)) ≡ W ks fs gs
    goes W = bind_given _ k ∙ bind_given _ h

    pub joins : Room fs gs → lists.product t a b ≡ Ok (fs ++ gs)
    unfolding lists.product units.product
    joins r = goes (λ ks l m. joined l m) ∙ room fs gs r

    pub divides_list : Room fs gs → lists.quotient t a b ≡ Ok (fs ++ along inverted gs)
    unfolding lists.quotient units.quotient
    divides_list r = goes (λ ks l m. joined l (along inverted m)) ∙ room_over fs gs r

  -- two quantities of it
  module _ (q p : Quantity) (fs gs : List Factor) (h : both (length ks) q.unit p.unit ≡ Ok (fs, gs)) where
    pub multiplies : Room fs gs → multiply t q p ≡ Ok (fresh (mul binary64 q.value p.value) (fs ++ gs))
    unfolding multiply
    multiplies r = ap (apply (fresh (mul binary64 q.value p.value))) (joins q.unit p.unit fs gs h r)

    pub divides : is_zero p.value ≡ false → Room fs gs → checked_div t q p ≡ Ok (fresh (div binary64 q.value p.value) (fs ++ along inverted gs))
    unfolding checked_div
    divides z r =
        goes q.unit p.unit fs gs h (λ ks l m. unless (is_zero p.value) DIVZERO (apply (fresh (div binary64 q.value p.value)) (joined l (along inverted m))))
        ∙ fault_passes (is_zero p.value) DIVZERO _ z
        ∙ ap (apply (fresh (div binary64 q.value p.value))) (room_over fs gs r)

    -- the exponent is the scalar x, the whole number n; l is the list with its exponents multiplied
    pub raises : (x : Float) (n : ℤ) (l : List Factor) → convert (rules_in t ks) gs [] p.value ≡ Ok x → (is_zero q.value && lt x zero) ≡ false → whole_exponent x ≡ Ok n → each (raised (over1 n)) fs ≡ Ok l →
        checked_power t q p ≡ Ok (fresh (power q.value n) l)
    unfolding checked_power raised_to
    raises x n l cx z cn cl =
        goes q.unit p.unit fs gs h (λ ks l m. bind (convert (rules_in t ks) m [] p.value) (λ x. raised_to q.value l x))
        ∙ bind_given _ cx
        ∙ fault_passes (is_zero q.value && lt x zero) ZERONEG _ z
        ∙ bind_given _ cn
        ∙ ap (apply (fresh (power q.value n))) cl
