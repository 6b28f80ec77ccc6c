-- The common factors of two canonical lists (01, "Conversion, sums, comparison"): same row and prefix, both exponents positive (take the smaller) or both negative (take the larger).
use Rattle.std.specs.Prelude.{◌&&◌, List, [], ◌∷◌, ◌++◌, map, Option, Some, None}
use Prim.Native.Nat.{Ordering}
use Rattle.exponents.specs.Words.{pick}
use Rattle.exponents.specs.Fractions.{nought, less}
use Rattle.exponents.specs.declared.Exponent.{Exponent}
use Rattle.units.specs.declared.Factor.{Factor}
use Rattle.units.specs.Lists.{inverted}
use Rattle.tables.specs.Order.{Atom, atom, of}

-- what two exponents have in common
unfoldable pub meet : Exponent → Exponent → Option Exponent
meet x y =
    pick (less nought x && less nought y) (pick (less x y) (Some x) (Some y))
    (pick (less x nought && less y nought) (pick (less x y) (Some y) (Some x))
    None)

-- a where row and prefix are the same, else b
unfoldable pub if_same : Ordering → Option Exponent → Option Exponent → Option Exponent
if_same Ordering.lt a b = b
if_same Ordering.eq a b = a
if_same Ordering.gt a b = b

-- a factor to the exponent that is shared, before the others
unfoldable pub with_shared : Option Exponent → Factor → List Factor → List Factor
with_shared (Some e) f l = of (atom f) e ∷ l
with_shared None f l = l

-- `cmp` is the order of factors
module _ (cmp : Atom → Atom → Ordering) where
  -- what a factor shares with a canonical list
  unfoldable pub shared_with_lem : Factor → List Factor → Option Exponent
  shared_with_lem f [] = None
  shared_with_lem f (g ∷ m) = if_same (cmp (atom f) (atom g)) (meet f.exponent g.exponent) (shared_with_lem f m)

  -- gathered from the first list
  unfoldable pub common : List Factor → List Factor → List Factor
  common [] m = []
  common (f ∷ l) m = with_shared (shared_with_lem f m) f (common l m)

-- a list over the common factors, not merged
abbrev pub over : List Factor → List Factor → List Factor
over l c = l ++ map inverted c
