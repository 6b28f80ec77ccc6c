-- Simplification's first two steps as the code takes them: how each ends, and how it goes on after UNITS.
use mathlib.Core.Path.{◌≡◌, refl, ap, ◌∙◌}
use mathlib.Core.List.{List, [], ◌∷◌}
use Prim.Native.Nat.{◌<◌}
use native.Mathlib.Omega.{arith}
use lib.Ieee.{Float}
use lib.ListN.{length, drop_of_length-le}
use borrow.Author.Tests.{ne_eqb, lt-ltb, le-ltb}
use Rattle.exponents.specs.declared.refusals.Refusal.TheVariants as refusal
use Rattle.exponents.specs.Outcome.{Refusal, UNITS, Outcome, Ok, Err, number, bind}
use Rattle.exponents.proofs.Holds.{bind_given, bind_refused}
use Rattle.units.specs.declared.Factor.{Factor}
use Rattle.tables.specs.Lists.{base}
use Rattle.exponents.specs.Words.{pick}
use Rattle.canonical.specs.Canonical.{canon}
use Rattle.reduction.specs.Multiple.{is_multiple}
use Rattle.targets.specs.Single.{search, single}
use Rattle.tables.specs.Rules.{Rules}
use Rattle.conversion.specs.Conversion.{convert}
use Rattle.simplification.specs.Steps as spec
use Rattle.simplification.specs.Steps.{Amount, go_on, attempt}

-- ---- from step to step

stays : (r : Refusal) (next : Outcome Amount) → (r ≡ UNITS → ⊥) → go_on r next ≡ Err r
unfolding go_on
stays r next h = ap (λ t. pick t next (Err r)) (ne_eqb (number r) 6 (λ e. h (sixth r e)))
  where
    sixth : (r : Refusal) → number r ≡ 6 → r ≡ UNITS
    sixth refusal.Table e = absurd (omega arith)
    sixth refusal.Shape e = absurd (omega arith)
    sixth refusal.Unknown e = absurd (omega arith)
    sixth refusal.Room e = absurd (omega arith)
    sixth refusal.Range e = absurd (omega arith)
    sixth refusal.Units e = refl
    sixth refusal.Fraction e = absurd (omega arith)
    sixth refusal.DivZero e = absurd (omega arith)
    sixth refusal.ZeroNeg e = absurd (omega arith)
    sixth refusal.NonWhole e = absurd (omega arith)
    sixth refusal.Nan e = absurd (omega arith)
    sixth refusal.Format e = absurd (omega arith)
    sixth refusal.Denominator e = absurd (omega arith)
    sixth refusal.Order e = absurd (omega arith)
    sixth refusal.Multiple e = absurd (omega arith)
    sixth refusal.Argument e = absurd (omega arith)

module _ {o : Outcome Float} (m : List Factor) (next : Outcome Amount) where
  pub attempt_given : (x : Float) → o ≡ Ok x → attempt o m next ≡ Ok (x, m)
  unfolding attempt
  attempt_given x e = ap (λ o. attempt o m next) e

  pub attempt_units : o ≡ Err UNITS → attempt o m next ≡ next
  unfolding attempt go_on
  attempt_units e = ap (λ o. attempt o m next) e

  pub attempt_refused : (r : Refusal) → (r ≡ UNITS → ⊥) → o ≡ Err r → attempt o m next ≡ Err r
  unfolding attempt
  attempt_refused r h e = ap (λ o. attempt o m next) e ∙ stays r next h

module _ (R : Rules Float) where
  -- ---- second step
  module _ (x : Float) (l m : List Factor) (next : Outcome Amount) where
    pub toward_nothing : length m ≡ 0 → spec.toward R x l m next ≡ next
    unfolding spec.toward
    toward_nothing e = ap (λ m. spec.toward R x l m next) (drop_of_length-le m {i = 0} (omega arith))

    pub toward_one : (length m ≡ 0 → ⊥) → spec.toward R x l m next ≡ attempt (convert R l m x) m next
    unfolding spec.toward
    toward_one h = go m h
      where
        go : (m : List Factor) → (length m ≡ 0 → ⊥) → spec.toward R x l m next ≡ attempt (convert R l m x) m next
        go [] h = absurd (h refl)
        go (f ∷ m) h = refl

  module _ (c : List Factor) where
    single_few : length c < 2 → single R.bases c ≡ Ok []
    unfolding single
    single_few h = ap (λ t. pick t (search R.bases c c) (Ok [])) (le-ltb 1 (length c) (omega arith))

    single_more : (length c < 2 → ⊥) → single R.bases c ≡ search R.bases c c
    unfolding single
    single_more h = ap (λ t. pick t (search R.bases c c) (Ok [])) (lt-ltb 1 (length c) (omega arith))

    -- the list's own base exponents are worked out first
    pub search_range : (length c < 2 → ⊥) → (r : Refusal) → base R.bases c ≡ Err r → search R.bases c c ≡ Err r
    unfolding search is_multiple
    search_range h r e = go c (omega arith)
      where
        go : (l : List Factor) → 0 < length l → search R.bases c l ≡ Err r
        go [] h = absurd (omega arith)
        go (f ∷ l) h = bind_refused _ (bind_refused _ e)

  module _ (x : Float) (l : List Factor) where
    pub form_stops : (r : Refusal) → canon R.order l ≡ Err r → spec.further R x l ≡ Err r
    unfolding spec.further
    form_stops r e = bind_refused _ e

    module _ (c : List Factor) (is : canon R.order l ≡ Ok c) where
      form_next : spec.further R x l ≡ bind (single R.bases c) (λ m. spec.toward R x l m (spec.by_groups R x c))
      unfolding spec.further
      form_next = bind_given _ is

      pub too_few : length c < 2 → spec.further R x l ≡ spec.by_groups R x c
      too_few h = form_next ∙ bind_given _ (single_few c h) ∙ toward_nothing x l [] (spec.by_groups R x c) refl

      module _ (h : length c < 2 → ⊥) where
        searched : spec.further R x l ≡ bind (search R.bases c c) (λ m. spec.toward R x l m (spec.by_groups R x c))
        searched = form_next ∙ ap (λ o. bind o (λ m. spec.toward R x l m (spec.by_groups R x c))) (single_more c h)

        pub search_stops : (r : Refusal) → search R.bases c c ≡ Err r → spec.further R x l ≡ Err r
        search_stops r e = searched ∙ bind_refused _ e

        pub search_found : (m : List Factor) → search R.bases c c ≡ Ok m → spec.further R x l ≡ spec.toward R x l m (spec.by_groups R x c)
        search_found m e = searched ∙ bind_given _ e
