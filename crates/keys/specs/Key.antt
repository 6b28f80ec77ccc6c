-- A row's key (01, "Canonical form"): its base exponents made whole, divided by their greatest common divisor, the first one positive. A zero stays 0; base rows are told apart by their places in rank order.
use Rattle.std.specs.Prelude.{Bool, true, false, List, [], ◌∷◌, ℕ, zero, suc, ◌/◌, ℤ, pos, negsuc, neg_ℤ, nat_abs, ◌*ℤ◌}
use Rattle.std.specs.Int.Signed.{quot_z}
use Rattle.exponents.specs.Gcd.{gcd}
use Rattle.exponents.specs.Outcome.{Outcome, Ok, apply, bind}
use Rattle.exponents.specs.Fractions.{unit, lcm?}
use Rattle.exponents.specs.declared.Exponent.{Exponent}

-- the least common multiple of m and the denominators, built left to right
unfoldable pub multiple : ℕ → List Exponent → Outcome ℕ
multiple m [] = Ok m
multiple m (x ∷ l) = bind (lcm? m x.den) (λ n. multiple n l)

-- m x, for a multiple m of the denominator
unfoldable pub whole : ℕ → Exponent → ℤ
whole m x = x.num *ℤ pos (m / x.den)

unfoldable pub wholes : ℕ → List Exponent → List ℤ
wholes m [] = []
wholes m (x ∷ l) = whole m x ∷ wholes m l

-- the greatest common divisor of g and the numbers
unfoldable pub divisor : ℕ → List ℤ → ℕ
divisor g [] = g
divisor g (w ∷ l) = divisor (gcd g (nat_abs w)) l

-- is the first that is not zero below zero?
unfoldable pub below : List ℤ → Bool
below [] = false
below (pos zero ∷ l) = below l
below (pos (suc n) ∷ l) = false
below (negsuc n ∷ l) = true

unfoldable pub turn : Bool → ℤ → ℤ
turn true w = neg_ℤ w
turn false w = w

unfoldable pub shrink : Bool → ℕ → List ℤ → List ℤ
shrink s g [] = []
shrink s g (w ∷ l) = quot_z (turn s w) (pos g) ∷ shrink s g l

unfoldable pub reduce : List ℤ → List ℤ
reduce ws = shrink (below ws) (divisor 0 ws) ws

-- DENOMINATOR only of the common multiple (02, order 2)
unfoldable pub key : List Exponent → Outcome (List ℤ)
key d = apply (λ m. reduce (wholes m d)) (multiple 1 d)

-- what keys are compared by: (place, number), zeros left out
unfoldable pub entry : ℤ → ℕ → List (ℕ × ℤ) → List (ℕ × ℤ)
entry (pos zero) p l = l
entry (pos (suc n)) p l = (p, pos (suc n)) ∷ l
entry (negsuc n) p l = (p, negsuc n) ∷ l

unfoldable pub entries : ℕ → List ℤ → List (ℕ × ℤ)
entries p [] = []
entries p (z ∷ k) = entry z p (entries (suc p) k)

-- the first exponent other than zero, 1 where there is none (01, "Simplification": what rows of one key differ by)
unfoldable pub other : ℤ → Exponent → Exponent → Exponent
other (pos zero) x r = r
other (pos (suc n)) x r = x
other (negsuc n) x r = x

unfoldable pub first : List Exponent → Exponent
first [] = unit
first (x ∷ l) = other x.num x (first l)
