-- The groups of a list (01, "Simplification", third step): joined they are the list, and in a table the rows of each have one key.
use mathlib.Core.Path.{◌≡◌, refl, ◌∙◌, ap}
use mathlib.Core.Bool.{Bool, true}
use mathlib.Core.List.{List, [], ◌∷◌, flatten}
use Prim.Native.Nat.{ℕ, ◌<◌}
use lib.IntN.{ℤ}
use lib.ListN.{length}
use Rattle.exponents.proofs.Words.{pick_by, pick_is}
use Rattle.units.specs.declared.Factor.{Factor}
use Rattle.exponents.specs.Words.{All}
use Rattle.tables.specs.Rows.{Facts}
use Rattle.tables.specs.Order.{key_order}
use Rattle.keys.specs.Orders.{is_eq}
use Rattle.canonical.proofs.Equal.{is_eq_decides}
use Rattle.targets.specs.Groups.{onto, groups}
use Rattle.targets.proofs.Proportions.{key_at, same_key, Keyed}

-- ---- joined they are the list
module _ (alike : ℕ → ℕ → Bool) where
  onto_joined : (f : Factor) (gs : List (List Factor)) → flatten (onto alike f gs) ≡ f ∷ flatten gs
  unfolding onto flatten
  onto_joined f [] = refl
  onto_joined f ([] ∷ gs) = refl
  onto_joined f ((g ∷ l) ∷ gs) = pick_is (λ ms. flatten ms ≡ f ∷ flatten ((g ∷ l) ∷ gs)) (alike f.row g.row) refl refl

  pub groups-joined : (c : List Factor) → flatten (groups alike c) ≡ c
  unfolding groups flatten
  groups-joined [] = refl
  groups-joined (f ∷ c) = onto_joined f (groups alike c) ∙ ap (λ l. f ∷ l) (groups-joined c)

-- ---- each has one key
-- known rows with one key
pub record OneKey (ks : List Facts) (g : List Factor) : Type 0 where
  pub key : List (ℕ × ℤ)
  pub rows : All (λ f. Keyed ks key f.row) g

module _ (ks : List Facts) where
  -- whether two rows have one key
  abbrev pub alike_in : ℕ → ℕ → Bool
  alike_in r s = is_eq (key_order ks r s)

  abbrev pub Known : Factor → Type 0
  Known f = f.row < length ks

  alone : (f : Factor) → Known f → OneKey ks (f ∷ [])
  alone f h = record { key = key_at ks f.row; rows = (record { known = h; key = refl }, tt) }

  -- one row more, alike with the first
  before : (f g : Factor) (l : List Factor) → Known f → alike_in f.row g.row ≡ true → OneKey ks (g ∷ l) → OneKey ks (f ∷ g ∷ l)
  before f g l h e o = record { key = o.key; rows = (record { known = h; key = same_key ks f.row g.row ((is_eq_decides _).yea e) ∙ o.rows.0.key }, o.rows) }

  onto_keyed : (f : Factor) (gs : List (List Factor)) → Known f → All (OneKey ks) gs → All (OneKey ks) (onto alike_in f gs)
  unfolding onto
  onto_keyed f [] h o = (alone f h, tt)
  onto_keyed f ([] ∷ gs) h o = (alone f h, o.1)
  onto_keyed f ((g ∷ l) ∷ gs) h o = pick_by (All (OneKey ks)) (alike_in f.row g.row) {a = (f ∷ g ∷ l) ∷ gs} {b = (f ∷ []) ∷ (g ∷ l) ∷ gs} (λ e. (before f g l h e o.0, o.1)) (λ _. (alone f h, o))

  pub groups_keyed : (c : List Factor) → All Known c → All (OneKey ks) (groups alike_in c)
  unfolding groups
  groups_keyed [] h = tt
  groups_keyed (f ∷ c) h = onto_keyed f (groups alike_in c) h.0 (groups_keyed c h.1)
