-- Knot vectors and quotients that the definitions compute, each a table with its one statement (readings 23 to 28); two spellings that part.
use mathlib.Core.Path.{◌≡◌, refl}
use mathlib.Core.Bool.{Bool, true, false}
use mathlib.Core.List.{List, [], ◌∷◌, map}
use Prim.Native.Nat.{ℕ}
use lib.Ieee.{Float, binary64, lt, eq, le, sub, div, to_bits, of_bits}
use Rattle.exponents.specs.Outcome.{UNITS, FRACTION, Outcome, Ok, Err, number, unless, bind, each}
use Rattle.knotruns.specs.Values.{tolerable, argument_fault, endless, falls}
use Rattle.knotruns.specs.Runs.{Run, joins, runs, runs_from, crowded, run_of, quotient_at}
use Rattle.knotruns.specs.Knots.{uncrowded, merged, vector, quotient}

abbrev is : ℕ → Outcome Float
is b = Ok (of_bits binary64 b)

abbrev nought : ℕ
nought = 0

abbrev one : ℕ
one = 0x3ff0_0000_0000_0000

abbrev half : ℕ
half = 0x3fe0_0000_0000_0000

abbrev six : ℕ
six = 0x3fe3_3333_3333_3333

abbrev twelve : ℕ
twelve = 0x3ff3_3333_3333_3333

abbrev two : ℕ
two = 0x4000_0000_0000_0000

abbrev minus_nought : ℕ
minus_nought = 0x8000_0000_0000_0000

abbrev not_a_number : ℕ
not_a_number = 0x7ff8_0000_0000_0000

abbrev endless_up : ℕ
endless_up = 0x7ff0_0000_0000_0000

abbrev huge : ℕ
huge = 0x7fe1_ccf3_85eb_c8a0

abbrev minus_huge : ℕ
minus_huge = 0xffe1_ccf3_85eb_c8a0

-- a value's bits and its multiplicity
record Pair : Type 0 where
  bits : ℕ
  times : ℕ

abbrev pair : ℕ → ℕ → Pair
pair b n = record { bits = b; times = n }

-- 0 and the pairs, or the refusal's number and none
record Vector : Type 0 where
  knots : List (Outcome Float)
  degree : ℕ
  tolerance : ℕ
  refusal : ℕ
  pairs : List Pair

abbrev shown : List (Outcome Float) → ℕ → ℕ → Outcome (List Run) → Vector
shown cs d t (Ok rs) = record { knots = cs; degree = d; tolerance = t; refusal = 0; pairs = map (λ r. pair (to_bits binary64 r.first) r.times) rs }
shown cs d t (Err w) = record { knots = cs; degree = d; tolerance = t; refusal = number w; pairs = [] }

abbrev worked : Vector → Vector
worked v = shown v.knots v.degree v.tolerance (vector v.knots v.degree (of_bits binary64 v.tolerance))

abbrev gives : List (Outcome Float) → ℕ → ℕ → List Pair → Vector
gives cs d t ps = record { knots = cs; degree = d; tolerance = t; refusal = 0; pairs = ps }

abbrev refuses : List (Outcome Float) → ℕ → ℕ → ℕ → Vector
refuses cs d t r = record { knots = cs; degree = d; tolerance = t; refusal = r; pairs = [] }

vectors : List Vector
vectors =
    -- held against the run's first, not the knot before
    gives (is nought ∷ is six ∷ is twelve ∷ []) 3 one (pair nought 2 ∷ pair twelve 1 ∷ [])
    -- the first's bits stand; 0 then -0 is no fall
    ∷ gives (is minus_nought ∷ is nought ∷ []) 1 nought (pair minus_nought 2 ∷ [])
    ∷ gives (is nought ∷ is minus_nought ∷ []) 1 minus_nought (pair nought 2 ∷ [])
    -- a difference that overflows begins a run
    ∷ gives (is minus_huge ∷ is huge ∷ []) 1 huge (pair minus_huge 1 ∷ pair huge 1 ∷ [])
    -- a fall within the tolerance; NaN; infinity
    ∷ refuses (is one ∷ is half ∷ []) 3 one 14
    ∷ refuses (is one ∷ is not_a_number ∷ []) 3 one 14
    ∷ refuses (is endless_up ∷ []) 3 one 14
    -- ORDER before MULTIPLE; degree plus one knots are taken
    ∷ refuses (is one ∷ is one ∷ is one ∷ is half ∷ []) 1 one 14
    ∷ refuses (is one ∷ is one ∷ is one ∷ []) 1 nought 15
    ∷ gives (is one ∷ is one ∷ is two ∷ []) 1 nought (pair one 2 ∷ pair two 1 ∷ [])
    -- the lowest refused place, before ORDER; ARGUMENT before it
    ∷ refuses (is one ∷ is half ∷ Err UNITS ∷ Err FRACTION ∷ []) 3 one 6
    ∷ refuses (Err UNITS ∷ []) 0 one 16
    ∷ refuses (Err UNITS ∷ []) 10 one 16
    ∷ refuses (Err UNITS ∷ []) 9 not_a_number 16
    ∷ refuses (Err UNITS ∷ []) 9 endless_up 16
    ∷ refuses (Err UNITS ∷ []) 9 0x8000_0000_0000_0001 16
    ∷ refuses [] 3 one 16
    ∷ []

vectors_known : map worked vectors ≡ vectors
unfolding vectors vector merged uncrowded tolerable argument_fault endless falls crowded runs runs_from unless bind each lt eq le sub to_bits of_bits
vectors_known = refl

-- ---- two spellings of three tenths of a metre: 300 mm is 0.3, 3 dm is 0.30000000000000004, a last place above

abbrev millimetres : ℕ
millimetres = 0x3fd3_3333_3333_3333

abbrev decimetres : ℕ
decimetres = 0x3fd3_3333_3333_3334

-- a last place below, 0.29999999999999993
abbrev before : ℕ
before = 0x3fd3_3333_3333_3332

-- a last place, 2 ^ -54, and two
abbrev place : ℕ
place = 0x3c90_0000_0000_0000

abbrev two-places : ℕ
two-places = 0x3ca0_0000_0000_0000

spellings : List Vector
spellings =
    -- where the first begins the run the other joins it
    gives (is millimetres ∷ is decimetres ∷ []) 3 place (pair millimetres 2 ∷ [])
    -- in the middle of a run they part, though they are no further from each other
    ∷ gives (is before ∷ is millimetres ∷ is decimetres ∷ []) 3 place (pair before 2 ∷ pair decimetres 1 ∷ [])
    -- a tolerance that holds all three together keeps them in one run
    ∷ gives (is before ∷ is millimetres ∷ is decimetres ∷ []) 3 two-places (pair before 3 ∷ [])
    ∷ []

spellings_known : map worked spellings ≡ spellings
unfolding spellings vector merged uncrowded tolerable argument_fault endless falls crowded runs runs_from unless bind each lt eq le sub to_bits of_bits
spellings_known = refl

-- the three differences of the second: each within the last place but the whole
abbrev within : ℕ → ℕ → Bool
within f x = joins (of_bits binary64 place) (of_bits binary64 f) (of_bits binary64 x)

parting : (within before millimetres ≡ true) × (within millimetres decimetres ≡ true) × (within before decimetres ≡ false)
unfolding le sub of_bits
parting = (refl, refl, refl)

-- ---- quotients: the left knot's place, x's bits, 0 and the quotient's bits or a refusal's number and 0

record Span : Type 0 where
  knots : List (Outcome Float)
  tolerance : ℕ
  place : ℕ
  x : ℕ
  refusal : ℕ
  result : ℕ

abbrev span_of : List (Outcome Float) → ℕ → ℕ → ℕ → ℕ → ℕ → Span
span_of cs t i x r q = record { knots = cs; tolerance = t; place = i; x = x; refusal = r; result = q }

abbrev told : Span → Outcome Float → Span
told s (Ok q) = span_of s.knots s.tolerance s.place s.x 0 (to_bits binary64 q)
told s (Err w) = span_of s.knots s.tolerance s.place s.x (number w) 0

abbrev found : Span → Span
found s = told s (quotient s.knots 3 (of_bits binary64 s.tolerance) s.place (of_bits binary64 s.x))

spans : List Span
spans =
    -- a merged span is +0 for every x, NaN too
    span_of (is nought ∷ is six ∷ is twelve ∷ []) one 0 not_a_number 0 nought
    ∷ span_of (is nought ∷ is six ∷ is twelve ∷ []) one 0 six 0 nought
    -- the next: from 0, the first of the run, to 1.2
    ∷ span_of (is nought ∷ is six ∷ is twelve ∷ []) one 1 six 0 half
    ∷ span_of (is nought ∷ is six ∷ is twelve ∷ []) one 1 not_a_number 0 not_a_number
    -- from the first of 300 mm's run to 3 dm, at 300 mm: half way
    ∷ span_of (is before ∷ is millimetres ∷ is decimetres ∷ []) place 1 millimetres 0 half
    -- no span there; one knot has none; ORDER comes first
    ∷ span_of (is nought ∷ is six ∷ is twelve ∷ []) one 2 six 16 0
    ∷ span_of (is nought ∷ []) one 0 six 16 0
    ∷ span_of (is one ∷ is half ∷ []) one 7 six 14 0
    -- a divisor that overflows: 0 at 0, NaN at 1e308
    ∷ span_of (is minus_huge ∷ is huge ∷ []) one 0 nought 0 nought
    ∷ span_of (is minus_huge ∷ is huge ∷ []) one 0 huge 0 not_a_number
    ∷ []

spans_known : map found spans ≡ spans
unfolding spans quotient quotient_at run_of vector merged uncrowded tolerable argument_fault endless falls crowded runs runs_from unless bind each lt eq le sub div to_bits of_bits
spans_known = refl
