-- Every value that a call works out is one that binary64 holds: it is rounded, whatever it is worked out of, or one of those given.
use mathlib.Core.Bool.{Bool, true, false}
use mathlib.Core.List.{List, [], ◌∷◌}
use lib.Dec.{T}
use lib.Ieee.{Float, binary64, fits, mul}
use lib.Ieee.Fits.{add-fits, sub-fits, mul-fits, div-fits}
use Rattle.exponents.specs.Outcome.{Outcome}
use Rattle.exponents.proofs.Holds.{holds_all, Holds, moot, held, holds_any, holds_bind}
use Rattle.floats.specs.Power.{one}
use Rattle.floats.proofs.Patterns.{bits_fit}
use Rattle.units.specs.declared.Factor.{Factor}
use Rattle.units.specs.declared.Rows.{Rows}
use Rattle.tables.specs.Scale.{scale_from_lem, doubles}
use Rattle.tables.specs.Rows.{Facts}
use Rattle.tables.specs.Rules.{Rules, rules_in, scale_by}
use Rattle.conversion.specs.Conversion.{judged, choose, rescaled, against, unlike, standing, convert_by, convert}
use Rattle.sums.specs.Sums.{combined}
use Rattle.targets.specs.Groups.{groups}
use Rattle.simplification.specs.Steps.{Amount, converted, by_groups, further, simplify}
use Rattle.simplification.proofs.Sounding.{attempt_holds, toward_holds}

abbrev pub ValueFits : Float → Type 0
ValueFits v = T (fits binary64 v)

pub combined_value : (minus : Bool) (x y : Float) → ValueFits (combined minus x y)
combined_value true x y = sub-fits binary64 x y
combined_value false x y = add-fits binary64 x y

scale_from : (size : Factor → Float) (s : Float) (l : List Factor) → ValueFits s → Holds ValueFits (scale_from_lem doubles size s l)
unfolding scale_from_lem
scale_from size s [] h = held h
scale_from size s (f ∷ l) h = holds_bind _ (holds_any _) λ p _. scale_from size (mul binary64 s p) l (mul-fits binary64 s p)

-- ---- the steps of a conversion

choose_holds : {A : Type 0} {P : A → Type 0} (t : Bool) (v : A) {o : Outcome A} → P v → Holds P o → Holds P (choose t v o)
unfolding choose
choose_holds true v h k = held h
choose_holds false v h k = k

judged_holds : {A : Type 0} {P : A → Type 0} (t : Bool) {o : Outcome A} → Holds P o → Holds P (judged t o)
unfolding judged
judged_holds true h = h
judged_holds false h = moot

abbrev pub OfValue : Amount → Type 0
OfValue a = ValueFits a.0

-- ---- by a table's rules
module _ (t : Rows) (ks : List Facts) where
  abbrev rules : Rules Float
  rules = rules_in t ks

  pub scale_value : (l : List Factor) → Holds ValueFits (scale_by rules l)
  scale_value l = scale_from rules.size one l (bits_fit _)

  -- the value is kept, or divided
  pub convert_value : (ready : List Factor → Outcome (List Factor)) (l m : List Factor) (v : Float) → ValueFits v → Holds ValueFits (convert_by rules ready l m v)
  unfolding convert_by unlike against rescaled
  convert_value ready l m v h =
      holds_bind _ (holds_any _) λ cl _. holds_bind _ (holds_any _) λ cm _. choose_holds _ v h
      (holds_bind _ (holds_any _) λ own _. holds_bind _ (holds_any _) λ x _. holds_bind _ (holds_any _) λ n _. holds_bind _ (holds_any _) λ y _. judged_holds _
      (holds_bind _ (holds_any _) λ s _. holds_all _ (scale_by rules n) λ d. div-fits binary64 _ d))

  -- simplification
  groups_value : (v : Float) (c : List Factor) → Holds OfValue (by_groups rules v c)
  unfolding by_groups
  groups_value v c = holds_all _ (converted rules one [] (groups rules.alike c)) λ p. mul-fits binary64 v p.0

  further_value : (v : Float) (l : List Factor) → ValueFits v → Holds OfValue (further rules v l)
  unfolding further
  further_value v l h = holds_bind _ (holds_any _) λ c _. holds_bind _ (holds_any _) λ m _. toward_holds OfValue rules v l m (by_groups rules v c) (convert_value standing l m v h) (groups_value v c)

  pub simplify_value : (v : Float) (l : List Factor) → ValueFits v → Holds OfValue (simplify rules v l)
  unfolding simplify
  simplify_value v l h = attempt_holds OfValue (convert rules l [] v) [] (further rules v l) (convert_value standing l [] v h) (further_value v l h)
