-- The knot vector and the span quotient (02, order 4; readings 23 to 28), from the knots' conversions in their order.
use Rattle.std.specs.Prelude.{◌||◌, List, ◌++◌, ℕ, suc, leb, ltb, length, drop, Float}
use Rattle.exponents.specs.Outcome.{ROOM, ORDER, MULTIPLE, ARGUMENT, Outcome, Ok, Err, unless, bind, each}
use Rattle.knotruns.specs.Values.{argument_fault, unordered}
use Rattle.knotruns.specs.Runs.{Run, runs, crowded, firsts, multiplicities, quotient_at}

-- MULTIPLE: a run of over m knots
unfoldable pub uncrowded : ℕ → List Run → Outcome (List Run)
uncrowded m rs = unless (crowded m rs) MULTIPLE (Ok rs)

-- of the values: ORDER before merging, MULTIPLE above degree plus one after
unfoldable pub merged : ℕ → Float → List Float → Outcome (List Run)
merged d t xs = unless (unordered xs) ORDER (uncrowded (suc d) (runs t xs))

-- the values, or the refusal of the lowest place that is refused
abbrev pub converted : List (Outcome Float) → Outcome (List Float)
converted cs = each (λ o. o) cs

-- the distinct values with their multiplicities
unfoldable pub vector : List (Outcome Float) → ℕ → Float → Outcome (List Run)
vector cs d t = unless (argument_fault (length cs) d t) ARGUMENT (bind (converted cs) (merged d t))

-- the quotient of x in the span whose left knot is at place i: spans are 0 to count - 2
unfoldable pub quotient : List (Outcome Float) → ℕ → Float → ℕ → Float → Outcome Float
quotient cs d t i x = bind (vector cs d t) (λ rs. unless (leb (length cs) (suc i)) ARGUMENT (Ok (quotient_at rs i x)))

-- ROOM, last: the runs don't fit the places lent for values, or those lent for multiplicities
unfoldable pub roomy : ℕ → ℕ → Outcome (List Run) → Outcome (List Run)
roomy a b o = bind o (λ rs. unless (ltb a (length rs) || ltb b (length rs)) ROOM (Ok rs))

-- lent places after the call: written from the first on, or all kept
abbrev pub firsts_into : Outcome (List Run) → List Float → List Float
firsts_into (Ok rs) old = firsts rs ++ drop (length rs) old
firsts_into (Err r) old = old

abbrev pub times_into : Outcome (List Run) → List ℕ → List ℕ
times_into (Ok rs) old = multiplicities rs ++ drop (length rs) old
times_into (Err r) old = old
