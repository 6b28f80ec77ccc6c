-- How code takes common factors out of a canonical list: joined with them inverted, and merged. Since both stand in one order, a single walk does it.
use Rattle.std.specs.Prelude.{List, [], ◌∷◌, Option, Some, None}
use Prim.Native.Nat.{Ordering}
use Rattle.exponents.specs.Outcome.{Outcome, Ok, apply, bind}
use Rattle.exponents.specs.Fractions.{nought, add?, same}
use Rattle.exponents.specs.declared.Exponent.{Exponent}
use Rattle.units.specs.declared.Factor.{Factor}
use Rattle.tables.specs.Order.{Atom, atom, of}
use Rattle.canonical.specs.Canonical.{drop_if}

-- the list after g, where c is the next: `merged` if they have the same row and prefix
unfoldable pub taken : Ordering → Factor → Factor → (Exponent → Outcome (List Factor)) → Outcome (List Factor) → Outcome (List Factor)
taken Ordering.lt g c merged rest = apply (λ r. g ∷ r) rest
taken Ordering.eq g c merged rest = bind (add? g.exponent c.exponent) merged
taken Ordering.gt g c merged rest = apply (λ r. g ∷ r) rest

module _ (cmp : Atom → Atom → Ordering) where
  unfoldable pub lessen : List Factor → List Factor → Outcome (List Factor)
  lessen [] cs = Ok []
  lessen (g ∷ m) [] = Ok (g ∷ m)
  lessen (g ∷ m) (c ∷ cs) =
      taken (cmp (atom c) (atom g)) g c
      (λ e. apply (drop_if (same e nought) (of (atom g) e)) (lessen m cs))
      (lessen m (c ∷ cs))

-- what is left of one factor: its exponent, or none where all of it is left
abbrev pub left_of : Ordering → Factor → Factor → Outcome (Option Exponent)
left_of Ordering.lt g c = Ok None
left_of Ordering.eq g c = apply Some (add? g.exponent c.exponent)
left_of Ordering.gt g c = Ok None
