-- The registry form (01, "Simplification"): for two or more factors left, the single base unit, then the candidates.
use Rattle.std.specs.Prelude.{Bool, false, ◌&&◌, ◌||◌, List, [], ◌∷◌, ℕ, suc, eqb, ltb, Float, length, take}
use Rattle.std.specs.Float.{binary64}
use Rattle.std.specs.Float.Ieee.{of_bits, is_nan, lt, sub, mul}
use Rattle.exponents.specs.Words.{pick}
use Rattle.exponents.specs.Outcome.{Outcome, Ok, SHAPE, unless, apply, bind}
use Rattle.exponents.specs.declared.Exponent.{Exponent}
use Rattle.floats.specs.Power.{one}
use Rattle.floats.specs.Values.{is_zero, abs_of}
use Rattle.units.specs.declared.Factor.{Factor}
use Rattle.units.specs.declared.Candidate.{Candidate}
use Rattle.units.specs.declared.Candidates.{Candidates}
use Rattle.units.specs.Lists.{checked}
use Rattle.tables.specs.declared.Slot.{Slot}
use Rattle.tables.specs.Lists.{base}
use Rattle.tables.specs.Rules.{Rules, scale_by}
use Rattle.canonical.specs.Canonical.{same_all}
use Rattle.reduction.specs.Reduction.{reduced}
use Rattle.conversion.specs.Conversion.{convert}
use Rattle.simplification.specs.Steps.{Amount}

-- ---- the candidates given

-- each one's rank, which must be at least `least`, then its list
unfoldable pub lists_from : ℕ → ℕ → List Candidate → Outcome (List (List Factor))
lists_from rows least [] = Ok []
lists_from rows least (c ∷ cs) =
    unless (ltb c.rank least) SHAPE
    (bind (checked rows c.unit) (λ fs. apply (λ ms. fs ∷ ms) (lists_from rows (suc c.rank) cs)))

-- more than 32 is SHAPE, before any candidate's list
unfoldable pub candidate_lists : ℕ → Candidates → Outcome (List (List Factor))
candidate_lists rows c = unless (ltb 32 c.len) SHAPE (lists_from rows 0 (take c.len c.at))

-- ---- scales compared

-- 1e-9
abbrev pub tiny : Float
tiny = of_bits binary64 0x3e11_2e0b_e826_d695

-- strictly within 1e-9 of 1
unfoldable pub near_one : Float → Bool
near_one s = lt (abs_of (sub binary64 s one)) tiny

-- the larger of two, a NaN passed over
unfoldable pub larger : Float → Float → Float
larger x y = pick (is_nan x) y (pick (is_nan y || lt y x) x y)

-- their difference is strictly below 1e-9 of the larger magnitude, or that magnitude is zero
unfoldable pub close : Float → Float → Bool
close s t =
    is_zero (larger (abs_of s) (abs_of t))
    || lt (abs_of (sub binary64 s t)) (mul binary64 tiny (larger (abs_of s) (abs_of t)))

-- ---- the single base unit, to a whole exponent
unfoldable pub is_single : List Factor → Bool
is_single [] = false
is_single (f ∷ []) = eqb f.exponent.den 1
is_single (f ∷ g ∷ l) = false

-- ---- the candidates in turn: one factor wins at once, else the fewest so far, the first on a tie

pub data Turn : Type 0 where
  wins : Amount → Turn
  stays : Amount → Turn

unfoldable pub after : Turn → (Amount → Outcome Amount) → Outcome Amount
after (wins a) next = Ok a
after (stays b) next = next b

module _ (R : Rules Float) where
  -- the tests of a candidate m, in 01's order: fewer factors than n, base exponents xs, scale s
  unfoldable pub fitting : ℕ → List Exponent → Float → List Factor → Outcome Bool
  fitting n xs s m =
      pick (ltb (length m) n)
      (bind (base R.bases m) (λ ys. pick (same_all ys xs) (apply (close s) (scale_by R m)) (Ok false)))
      (Ok false)

  -- the candidate m after the best so far; one that fits is converted even if it can't beat that
  unfoldable pub turn : List Exponent → Float → Amount → Amount → List Factor → Outcome Turn
  turn xs s now best m =
      bind (fitting (length now.1) xs s m) (λ fits.
      pick fits
      (apply (λ x. pick (eqb (length m) 1) (wins (x, m)) (stays (pick (ltb (length m) (length best.1)) (x, m) best))) (convert R now.1 m now.0))
      (Ok (stays best)))

  -- the candidates in turn
  unfoldable pub chosen : List Exponent → Float → Amount → Amount → List (List Factor) → Outcome Amount
  chosen xs s now best [] = Ok best
  chosen xs s now best (m ∷ ms) = bind (turn xs s now best m) (λ w. after w (λ b. chosen xs s now b ms))

  -- the single base unit before the candidates; ss are the base rows, xs the base exponents and s the scale of what is left
  unfoldable pub settled : List Slot → List (List Factor) → Amount → List Exponent → Float → Outcome Amount
  settled ss ms now xs s =
      pick (is_single (reduced ss xs) && near_one s)
      (apply (λ x. (x, reduced ss xs)) (convert R now.1 (reduced ss xs) now.0))
      (chosen xs s now now ms)

  -- for two or more factors left: RANGE or DENOMINATOR of their base exponents, FRACTION of their scale, before any test
  unfoldable pub registered : List Slot → List (List Factor) → Amount → Outcome Amount
  registered ss ms now =
      pick (ltb 1 (length now.1))
      (bind (base R.bases now.1) (λ xs. bind (scale_by R now.1) (λ s. settled ss ms now xs s)))
      (Ok now)
