-- What a caller of the calls as they ship makes of an answer: of an exported one by the number that is told and what lies in the room, of one over lent rows by the count or the places beside it. A quantity and a quotient over lent rows are the outcome itself.
use Rattle.std.specs.Prelude.{List, [], ◌∷◌, ℕ, zero, suc, ◌+◌, eqb, Float, get_or, drop}
use Rattle.std.specs.Float.{binary64, nan}
use Rattle.std.specs.Float.Ieee.{of_bits}
use Rattle.exponents.specs.Words.{pick}
use Rattle.exponents.specs.Outcome.{Refusal, TABLE, SHAPE, UNKNOWN, ROOM, RANGE, UNITS, FRACTION, DIVZERO, ZERONEG, NONWHOLE, NAN, FORMAT, DENOMINATOR, ORDER, MULTIPLE, ARGUMENT, number, Outcome, Ok, Err, apply}
use Rattle.units.specs.declared.Quantity.{Quantity}
use Rattle.counted.specs.declared.Counted.{Counted}
use Rattle.askcounted.specs.Records.{counted_at}
use Rattle.wire.specs.Bytes.{le, run_at}
use Rattle.wire.specs.Records.{quantity_at}
use Rattle.knotruns.specs.Runs.{Run, run}

-- the refusal with a number
unfoldable pub named : ℕ → Refusal
named n =
    pick (eqb n (number TABLE)) TABLE (pick (eqb n (number SHAPE)) SHAPE (pick (eqb n (number UNKNOWN)) UNKNOWN (pick (eqb n (number ROOM)) ROOM
    (pick (eqb n (number RANGE)) RANGE (pick (eqb n (number UNITS)) UNITS (pick (eqb n (number FRACTION)) FRACTION (pick (eqb n (number DIVZERO)) DIVZERO
    (pick (eqb n (number ZERONEG)) ZERONEG (pick (eqb n (number NONWHOLE)) NONWHOLE (pick (eqb n (number NAN)) NAN
    (pick (eqb n (number FORMAT)) FORMAT (pick (eqb n (number DENOMINATOR)) DENOMINATOR
    (pick (eqb n (number ORDER)) ORDER (pick (eqb n (number MULTIPLE)) MULTIPLE ARGUMENT))))))))))))))

-- an answer where the number is 0
unfoldable pub heard : {A : Type 0} → ℕ → A → Outcome A
heard n a = pick (eqb n 0) (Ok a) (Err (named n))

-- from an exported call: the number that it returned, and what its room holds
abbrev pub outcome_from : ℕ → List ℕ → Outcome Quantity
outcome_from n end = heard n (quantity_at end 0)

-- ---- counted conversions: the quantity, and the multiplications that it took

abbrev pub counted_in : Outcome Counted → Outcome (Quantity × ℕ)
counted_in r = apply (λ c. (c.quantity, c.count)) r

abbrev pub counted_from : ℕ → List ℕ → Outcome (Quantity × ℕ)
counted_from n end = heard n (counted_at end 0)

-- ---- knot vectors and span quotients

-- 16 bytes: a distinct value by its bits, then its multiplicity
unfoldable pub distinct_at : List ℕ → ℕ → Run
distinct_at s i = run (of_bits binary64 (le 8 s i)) (le 4 s (i + 8))

-- as many as the first four bytes tell, from the ninth byte on
unfoldable pub runs_in : List ℕ → List Run
runs_in s = run_at distinct_at 16 (le 4 s 0) s 8

-- from an exported call
abbrev pub vector_from : ℕ → List ℕ → Outcome (List Run)
vector_from n end = heard n (runs_in end)

abbrev pub quotient_from : ℕ → List ℕ → Outcome Float
quotient_from n end = heard n (of_bits binary64 (le 8 end 0))

-- the first n places lent for values, each with its place lent for multiplicities
unfoldable pub placed : ℕ → List Float → List ℕ → List Run
placed zero fs ks = []
placed (suc n) fs ks = run (get_or fs 0 nan) (get_or ks 0 0) ∷ placed n (drop 1 fs) (drop 1 ks)

-- from a call over lent rows: what it told, and the places
abbrev pub vector_in : Outcome ℕ → List Float → List ℕ → Outcome (List Run)
vector_in r fs ks = apply (λ n. placed n fs ks) r
