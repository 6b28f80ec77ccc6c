-- How code finds a factor or a group, and reads a row's first base exponent.
use Rattle.std.specs.Prelude.{Bool, List, [], ◌∷◌, map, ℕ, ℤ, Option, Some, None}
use Rattle.exponents.specs.Words.{pick}
use Rattle.exponents.specs.Outcome.{Outcome, bind}
use Rattle.exponents.specs.Fractions.{add?}
use Rattle.exponents.specs.declared.Exponent.{Exponent}
use Rattle.units.specs.declared.Factor.{Factor}
use Rattle.keys.specs.Key.{first}
use Rattle.tables.specs.Rows.{places}
use Rattle.tables.specs.Held.{told}
use Rattle.tables.specs.declared.Item.{Item}
use Rattle.targets.specs.Groups.{share}

-- one item, if it was found
abbrev pub listed : Option Item → List Item
listed None = []
listed (Some x) = x ∷ []

module _ (alike : ℕ → ℕ → Bool) where
  -- what stands behind f in its group ..
  unfoldable pub following : Factor → List Factor → List Factor
  following f [] = []
  following f (g ∷ l) = pick (alike f.row g.row) (g ∷ following g l) []

  -- .. and the first group of a list
  unfoldable pub leading : List Factor → List Factor
  leading [] = []
  leading (f ∷ l) = f ∷ following f l

-- a factor's share added to s: the partial sum tested
unfoldable pub with_share : (ℕ → Exponent) → Exponent → Exponent → Factor → Outcome Exponent
with_share first d s f = bind (share first d f) (λ t. add? s t)

-- the first of a row's sixteen that is not zero, as the two arrays tell them; 1 where there is none
unfoldable pub first_told : List ℤ → List ℕ → ℕ → Exponent
first_told nums dens row = first (map (told nums dens row) (places 0 16))
