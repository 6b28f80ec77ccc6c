-- An answer, or one of the refusals of 01's table and of 02's orders. A refusal is passed on as it is: what stands above an operation never names its refusal.
use Rattle.std.specs.Prelude.{Bool, true, false, List, [], ◌∷◌, ℕ, Result}
pub use Rattle.std.specs.declared.result.Result.TheVariants.{Ok, Err}
use Rattle.exponents.specs.declared.refusals.Refusal.{Refusal as Refusalᵛ}
use Rattle.exponents.specs.declared.refusals.Refusal.TheVariants.{Table, Shape, Unknown, Room, Range, Units, Fraction, DivZero, ZeroNeg, NonWhole, Nan, Format, Denominator, Order, Multiple, Argument}

-- code's refusals, by 01's names
abbrev pub Refusal : Type 0
Refusal = Refusalᵛ

abbrev pub TABLE : Refusal
TABLE = Table

abbrev pub SHAPE : Refusal
SHAPE = Shape

abbrev pub UNKNOWN : Refusal
UNKNOWN = Unknown

abbrev pub ROOM : Refusal
ROOM = Room

abbrev pub RANGE : Refusal
RANGE = Range

abbrev pub UNITS : Refusal
UNITS = Units

abbrev pub FRACTION : Refusal
FRACTION = Fraction

abbrev pub DIVZERO : Refusal
DIVZERO = DivZero

abbrev pub ZERONEG : Refusal
ZERONEG = ZeroNeg

abbrev pub NONWHOLE : Refusal
NONWHOLE = NonWhole

abbrev pub NAN : Refusal
NAN = Nan

abbrev pub FORMAT : Refusal
FORMAT = Format

abbrev pub DENOMINATOR : Refusal
DENOMINATOR = Denominator

abbrev pub ORDER : Refusal
ORDER = Order

abbrev pub MULTIPLE : Refusal
MULTIPLE = Multiple

abbrev pub ARGUMENT : Refusal
ARGUMENT = Argument

-- 01, "The refusals", and 02: the numbers
abbrev pub number : Refusal → ℕ
number Table = 1
number Shape = 2
number Unknown = 3
number Room = 4
number Range = 5
number Units = 6
number Fraction = 7
number DivZero = 8
number ZeroNeg = 9
number NonWhole = 10
number Nan = 11
number Format = 12
number Denominator = 13
number Order = 14
number Multiple = 15
number Argument = 16

-- an answer, or the refusal
abbrev pub Outcome : Type 0 → Type 0
Outcome A = Result A Refusal

-- the refusal r where the fault stands, else what follows
unfoldable pub unless : {A : Type 0} → Bool → Refusal → Outcome A → Outcome A
unless true r o = Err r
unless false r o = o

module _ {A B : Type 0} where
  -- f of an answer; a refusal stays
  abbrev pub apply : (A → B) → Outcome A → Outcome B
  apply f (Ok a) = Ok (f a)
  apply f (Err r) = Err r

  -- go on with an answer; a refusal stays
  unfoldable pub bind : Outcome A → (A → Outcome B) → Outcome B
  bind (Ok a) f = f a
  bind (Err r) f = Err r

-- f at each of a list, from left to right; the first refusal stays
unfoldable pub each : {A B : Type 0} → (A → Outcome B) → List A → Outcome (List B)
each f [] = Ok []
each f (a ∷ l) = bind (f a) (λ b. apply (λ m. b ∷ m) (each f l))

-- whether there is an answer, for a call that only looks: nothing, or the refusal
abbrev pub tested : {A : Type 0} → Outcome A → Outcome (Unit {0})
tested o = apply (λ _. tt) o

-- how an outcome is handed over as a number: 0 where there is an answer, else the refusal's
abbrev pub refusal_of : {A : Type 0} → Outcome A → ℕ
refusal_of (Ok a) = 0
refusal_of (Err r) = number r
