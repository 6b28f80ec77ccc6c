-- Admission of rows (01, "Records and sizes", "The refusals"): in row order, for each TABLE, SHAPE, RANGE and DENOMINATOR in the order of the steps, FRACTION; its base exponents, key and scale are worked out.
use Rattle.std.specs.Prelude.{Bool, true, false, not, ◌||◌, List, [], ◌∷◌, ◌++◌, map, ℕ, zero, suc, ltb, eqb, ℤ, length, get_or, take, Float}
use Rattle.std.specs.Float.{binary64, nan}
use Rattle.std.specs.Float.Ieee.{mul}
use Rattle.exponents.specs.Words.{pick}
use Rattle.exponents.specs.Outcome.{Refusal, TABLE, SHAPE, Outcome, Ok, Err, unless, apply, bind}
use Rattle.exponents.specs.Fractions.{nought, unit}
use Rattle.exponents.specs.declared.Exponent.{Exponent}
use Rattle.floats.specs.Power.{one}
use Rattle.floats.specs.Values.{is_positive}
use Rattle.units.specs.declared.Factor.{Factor}
use Rattle.units.specs.declared.Kind.{Kind}
use Rattle.units.specs.declared.Kind.TheVariants.{Base, Derived}
use Rattle.units.specs.declared.Row.{Row}
use Rattle.units.specs.declared.Rows.{Rows}
use Rattle.units.specs.Lists.{some, factor_fault}
use Rattle.tables.specs.Lists.{base}
use Rattle.keys.specs.Key.{key}
use Rattle.tables.specs.Scale.{doubles, scale, size_by}
use Rattle.tables.specs.declared.Slot.{Slot}

-- ---- what is known of an admitted row

pub record Facts : Type 0 where
  -- base exponents and key, one number for each base row in rank order
  pub exps : List Exponent
  pub key : List ℤ
  pub scale : Float
  pub rank : ℕ
  pub base : Bool

-- what a row that isn't there reads as: never met in an answer
abbrev pub nobody : Facts
nobody = record { exps = []; key = []; scale = nan; rank = 0; base = false }

-- each row's exponent at the base row of place j
unfoldable pub exp_at : List Facts → ℕ → ℕ → Exponent
exp_at ks j r = get_or (get_or ks r nobody).exps j nought

unfoldable pub scale_at : List Facts → ℕ → Float
scale_at ks r = (get_or ks r nobody).scale

-- the places 0, .., n - 1 from p on
unfoldable pub places : ℕ → ℕ → List ℕ
places p zero = []
places p (suc n) = p ∷ places (suc p) n

-- the base rows of a table that has n of them
abbrev pub bases : ℕ → List Facts → List (ℕ → Exponent)
bases n ks = map (exp_at ks) (places 0 n)

-- ---- the base rows, in rank order

-- a base row put in by exchanges: the one of lower rank stays, the other goes on
unfoldable pub placed : Slot → List Slot → List Slot
placed s [] = s ∷ []
placed s (t ∷ l) = pick (ltb s.rank t.rank) (s ∷ placed t l) (t ∷ placed s l)

-- the first sixteen find room: the seventeenth is TABLE at its own row
unfoldable pub slotted : Kind → Slot → List Slot → List Slot
slotted (Derived f) s l = l
slotted Base s l = pick (ltb (length l) 16) (placed s l) l

-- from row i on
unfoldable pub slots_from : ℕ → List Slot → List Row → List Slot
slots_from i l [] = l
slots_from i l (r ∷ rs) = slots_from (suc i) (slotted r.kind (record { row = i; rank = r.rank }) l) rs

abbrev pub slots : List Row → List Slot
slots rs = slots_from 0 [] rs

-- ---- one row, over the rows ks before it

-- its definition
abbrev pub def_of : Row → List Factor
def_of r = take r.len r.def

unfoldable pub is_base : Kind → Bool
is_base Base = true
is_base (Derived f) = false

-- how many of the rows are base
unfoldable pub count : List Facts → ℕ
count [] = 0
count (k ∷ ks) = pick k.base (suc (count ks)) (count ks)

-- a seventeenth base row, a base row with a definition; a factor that isn't finite and above zero
unfoldable pub kind_fault : Kind → ℕ → ℕ → Bool
kind_fault Base bases len = ltb 15 bases || not (eqb len 0)
kind_fault (Derived f) bases len = not (is_positive f)

-- a rank met before, a definition of over 8 factors, one that names its own or a higher row
unfoldable pub table_fault : List Facts → Row → Bool
table_fault ks r =
    some (λ k. eqb k.rank r.rank) ks
    || kind_fault r.kind (count ks) r.len
    || ltb 8 r.len
    || some (λ f. not (ltb f.row (length ks))) (def_of r)

-- row i's own slot
abbrev pub self_exp : ℕ → Slot → Exponent
self_exp i s = pick (eqb s.row i) unit nought

-- a base row has 1 at itself, a derived row what its definition has
unfoldable pub row_exps : Kind → List Slot → List Facts → Row → Outcome (List Exponent)
row_exps Base ss ks r = Ok (map (self_exp (length ks)) ss)
row_exps (Derived f) ss ks r = base (bases (length ss) ks) (def_of r)

-- a base row's scale is 1, a derived row's its factor times its definition's
unfoldable pub row_scale : Kind → List Facts → Row → Outcome Float
row_scale Base ks r = Ok one
row_scale (Derived f) ks r = apply (mul binary64 f) (scale doubles (size_by (scale_at ks)) (def_of r))

-- RANGE or DENOMINATOR of the base exponents, DENOMINATOR of the key, then FRACTION
unfoldable pub worked_out : List Slot → List Facts → Row → Outcome Facts
worked_out ss ks r =
    bind (row_exps r.kind ss ks r) (λ e.
    bind (key e) (λ k.
    bind (row_scale r.kind ks r) (λ s.
    Ok (record { exps = e; key = k; scale = s; rank = r.rank; base = is_base r.kind }))))

unfoldable pub row_facts : List Slot → List Facts → Row → Outcome Facts
row_facts ss ks r =
    unless (table_fault ks r) TABLE
    (unless (some factor_fault (def_of r)) SHAPE
    (worked_out ss ks r))

-- ---- the table

-- all rows, or the refusal and the rows before the fault
pub data Admission : Type 0 where
  admitted : List Facts → Admission
  stopped : Refusal → List Facts → Admission

-- `next` is the rest of the fold over the rows; a refusal ends it
abbrev pub admit_on : Outcome Facts → List Facts → (Facts → Admission) → Admission
admit_on (Ok k) ks next = next k
admit_on (Err w) ks next = stopped w ks

unfoldable pub admit_from : List Slot → List Facts → List Row → Admission
admit_from ss ks [] = admitted ks
admit_from ss ks (r ∷ rs) = admit_on (row_facts ss ks r) ks (λ k. admit_from ss (ks ++ (k ∷ [])) rs)

-- the rows of a value: its first `len` places, where `len` is the true count
abbrev pub rows_of : Rows → List Row
rows_of r = take r.len r.at

-- over 128 rows: TABLE, before any row
unfoldable pub admit : Rows → Admission
admit r = pick (ltb 128 r.len) (stopped TABLE []) (admit_from (slots (rows_of r)) [] (rows_of r))

-- what is known of the rows, or the table's refusal
abbrev pub known : Admission → Outcome (List Facts)
known (admitted ks) = Ok ks
known (stopped r ks) = Err r

abbrev pub table : Rows → Outcome (List Facts)
table t = known (admit t)

-- the base rows of a table, in rank order
abbrev pub base_rows : Rows → List Slot
base_rows t = slots (rows_of t)
