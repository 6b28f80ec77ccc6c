-- Lists of factors: their shape, product, quotient and power (01, "Records and sizes", last sentence of "Canonical form").
use Rattle.std.specs.Prelude.{Bool, false, not, ◌||◌, List, [], ◌∷◌, ◌++◌, map, ℕ, ◌+◌, ◌-◌, ltb, pos, length, take, replicate}
use Rattle.exponents.specs.Outcome.{Outcome, Ok, SHAPE, UNKNOWN, ROOM, unless, bind, each, apply}
use Rattle.exponents.specs.Fractions.{neg, mul?, faulty}
use Rattle.exponents.specs.declared.Exponent.{Exponent}
use Rattle.units.specs.Prefixes.{prefix_fault}
use Rattle.units.specs.declared.Prefix.TheVariants.{Metric}
use Rattle.units.specs.declared.Factor.{Factor}
use Rattle.units.specs.declared.Factors.{Factors}

-- ---- a value and its list

-- what stands past the end: row 0, Metric(0), 0/1
abbrev pub no_factor : Factor
no_factor = record { row = 0; prefix = Metric (pos 0); exponent = record { num = pos 0; den = 1 } }

-- the factors of a value: its first `len` places
abbrev pub list_of : Factors → List Factor
list_of l = take l.len l.at

-- the value of a list, its places past the end clean
unfoldable pub pack : List Factor → Factors
pack fs = record { at = fs ++ replicate (16 - length fs) no_factor; len = length fs }

-- how code hands a list over
abbrev pub made_of : Outcome (List Factor) → Outcome Factors
made_of o = apply pack o

-- ---- what a given list must be

-- a prefix or an exponent breaks its rule
unfoldable pub factor_fault : Factor → Bool
factor_fault f = prefix_fault f.prefix || faulty f.exponent

-- some element has the fault
unfoldable pub some : {A : Type 0} → (A → Bool) → List A → Bool
some fault [] = false
some fault (a ∷ l) = fault a || some fault l

-- the factor names a row that isn't there
abbrev pub unknown : ℕ → Factor → Bool
unknown rows f = not (ltb f.row rows)

-- the factors of a list given with so many rows: SHAPE of all of it, then UNKNOWN
unfoldable pub checked : ℕ → Factors → Outcome (List Factor)
checked rows l =
    unless (ltb 16 l.len || some factor_fault (list_of l)) SHAPE
    (unless (some (unknown rows) (list_of l)) UNKNOWN
    (Ok (list_of l)))

-- two lists, in argument order
unfoldable pub both : ℕ → Factors → Factors → Outcome (List Factor × List Factor)
both rows a b = bind (checked rows a) (λ fs. apply (λ gs. (fs, gs)) (checked rows b))

-- ---- products, quotients, powers

-- the same row and prefix with another exponent
unfoldable pub with_exponent : Factor → Exponent → Factor
with_exponent f e = record { row = f.row; prefix = f.prefix; exponent = e }

-- the lists joined, unmerged: over 16 factors is ROOM
unfoldable pub joined : List Factor → List Factor → Outcome (List Factor)
joined fs gs = unless (ltb 16 (length fs + length gs)) ROOM (Ok (fs ++ gs))

-- the exponent negated
unfoldable pub inverted : Factor → Factor
inverted f = with_exponent f (neg f.exponent)

-- the exponent multiplied
unfoldable pub raised : Exponent → Factor → Outcome Factor
raised e f = apply (with_exponent f) (mul? f.exponent e)

-- ---- the calls, on any lists, with so many rows in the table
unfoldable pub product : ℕ → Factors → Factors → Outcome (List Factor)
product rows a b = bind (both rows a b) (λ p. joined p.0 p.1)

-- the second list's exponents are negated
unfoldable pub quotient : ℕ → Factors → Factors → Outcome (List Factor)
quotient rows a b = bind (both rows a b) (λ p. joined p.0 (map inverted p.1))

-- each exponent multiplied, unmerged, zeros kept; the exponent given is looked at after the list
unfoldable pub list_power : ℕ → Factors → Exponent → Outcome (List Factor)
list_power rows a e = bind (checked rows a) (λ fs. unless (faulty e) SHAPE (each (raised e) fs))
