-- Factors grouped by key, and a group's target (01, "Simplification", third step).
use Rattle.std.specs.Prelude.{Bool, not, ◌&&◌, ◌||◌, List, [], ◌∷◌, ℕ}
use Rattle.exponents.specs.Words.{pick}
use Rattle.exponents.specs.Outcome.{Outcome, Ok, apply, bind}
use Rattle.exponents.specs.Fractions.{nought, less, mul?, div?, sum?}
use Rattle.exponents.specs.declared.Exponent.{Exponent}
use Rattle.units.specs.declared.Factor.{Factor}
use Rattle.tables.specs.Lists.{base}
use Rattle.tables.specs.Rules.{Rules}
use Rattle.tables.specs.Order.{atom, of}
use Rattle.canonical.specs.Canonical.{all_nought}

-- ---- groups: `alike` tells whether two rows have one key

module _ (alike : ℕ → ℕ → Bool) where
  -- f before groups: in the first of them, or a group of its own
  unfoldable pub onto : Factor → List (List Factor) → List (List Factor)
  onto f [] = (f ∷ []) ∷ []
  onto f ([] ∷ gs) = (f ∷ []) ∷ gs
  onto f ((g ∷ l) ∷ gs) = pick (alike f.row g.row) ((f ∷ g ∷ l) ∷ gs) ((f ∷ []) ∷ (g ∷ l) ∷ gs)

  -- the groups of a list, in its order: neighbours of one key stand together
  unfoldable pub groups : List Factor → List (List Factor)
  groups [] = []
  groups (f ∷ l) = onto f (groups l)

-- ---- the representative: the greatest by base before derived, then exponent, the last on a tie

module _ (is_base : ℕ → Bool) where
  -- is f greater than g?
  unfoldable pub above : Factor → Factor → Bool
  above f g =
      pick (is_base f.row) (not (is_base g.row) || less g.exponent f.exponent)
      (not (is_base g.row) && less g.exponent f.exponent)

  -- the greatest of f and a list
  unfoldable pub greatest : Factor → List Factor → Factor
  greatest f [] = f
  greatest f (g ∷ l) = greatest (pick (above f g) f g) l

-- ---- the target: `first` has a row's first base exponent, 1 where it has none

module _ (first : ℕ → Exponent) where
  -- what a factor has in a representative whose first base exponent is d: product tested, then quotient
  unfoldable pub share : Exponent → Factor → Outcome Exponent
  share d f = bind (mul? f.exponent (first f.row)) (λ p. div? p d)

  -- the summed exponents
  unfoldable pub summed : Exponent → List Factor → Outcome Exponent
  summed d l = sum? (share d) nought l

  -- the representative r with them
  unfoldable pub fitted : Factor → List Factor → Outcome (List Factor)
  fitted r l = apply (λ e. of (atom r) e ∷ []) (summed (first r.row) l)

-- a group with scalar base becomes scalar
unfoldable pub target : {A : Type 0} → Rules A → List Factor → Outcome (List Factor)
target R [] = Ok []
target R (f ∷ l) = bind (base R.bases (f ∷ l)) (λ x. pick (all_nought x) (Ok []) (fitted R.lead (greatest R.is_base f l) (f ∷ l)))
