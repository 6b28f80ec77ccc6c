-- How many of the rows that a list names come before a row, counted from left to right.
use mathlib.Core.Path.{◌≡◌, refl, ◌∙◌, ap}
use mathlib.Core.Bool.{Bool, true, false}
use mathlib.Core.List.{List}
use Prim.Native.Nat.{ℕ, ◌+◌, ◌<◌, ◌≤◌, Ordering}
use native.Mathlib.Omega.{arith}
use lib.ListN.{length, drop, get_or, drop_of_length-le}
use Rattle.units.specs.declared.Factor.{Factor}
use Rattle.tables.specs.Held.{is_less, tally, before}
use Rattle.exponents.proofs.Places.{rest}

pub tally-most : (t : Bool) (n : ℕ) → tally t n ≤ n + 1
unfolding tally
tally-most true n = omega arith
tally-most false n = omega arith

tally_plus : (t : Bool) (c n : ℕ) → c + tally t n ≡ tally t c + n
unfolding tally
tally_plus true c n = omega arith
tally_plus false c n = refl

module _ (cmp : ℕ → ℕ → Ordering) (l : List Factor) (r c j : ℕ) where
  pub before_on : (d : Factor) → j < length l → c + before cmp (drop j l) r ≡ tally (is_less (cmp (get_or l j d).row r)) c + before cmp (drop (j + 1) l) r
  unfolding before
  before_on d h = ap (λ m. c + before cmp m r) (rest l d j h) ∙ tally_plus _ c _

  pub before_end : length l ≤ j → c + before cmp (drop j l) r ≡ c
  unfolding before
  before_end h = ap (λ m. c + before cmp m r) (drop_of_length-le l h) ∙ omega arith
