-- What demand 3 speaks of: lists of base exponents added, subtracted and multiplied place by place, by 01's ranged operations; and calls that answer.
use Rattle.std.specs.Prelude.{◌≡◌, List, [], ◌∷◌, map}
use Rattle.exponents.specs.Outcome.{Outcome, Ok, bind, each, apply}
use Rattle.exponents.specs.Fractions.{neg, add?, mul?}
use Rattle.exponents.specs.declared.Exponent.{Exponent}

-- o answers, and P holds of its answer
abbrev pub Answers : {A : Type 0} → Outcome A → (A → Type 0) → Type 0
Answers {A} o P = (a : A) × (o ≡ Ok a) × P a

-- the sums of two lists, place by place
unfoldable pub sums : List Exponent → List Exponent → Outcome (List Exponent)
sums [] ys = Ok []
sums (x ∷ xs) [] = Ok []
sums (x ∷ xs) (y ∷ ys) = bind (add? x y) (λ z. apply (λ zs. z ∷ zs) (sums xs ys))

-- their differences
abbrev pub differences : List Exponent → List Exponent → Outcome (List Exponent)
differences xs ys = sums xs (map neg ys)

-- the multiples of a list by e
abbrev pub multiples : Exponent → List Exponent → Outcome (List Exponent)
multiples e xs = each (mul? e) xs
