-- How code makes the own list ready, by a flag, and what it keeps of a conversion for any value, with the multiplications that it took.
use Rattle.std.specs.Prelude.{Bool, true, false, List, Float}
use Prim.Native.Nat.{Ordering}
use Rattle.std.specs.Float.{binary64}
use Rattle.std.specs.Float.Ieee.{mul, div}
use Rattle.floats.specs.Power.{tally}
use Rattle.floats.specs.Values.{is_zero}
use Rattle.floats.specs.declared.Tally.{Tally}
use Rattle.exponents.specs.Words.{pick}
use Rattle.exponents.specs.Outcome.{Outcome, Ok, apply, bind}
use Rattle.units.specs.declared.Factor.{Factor}
use Rattle.tables.specs.Order.{Atom}
use Rattle.canonical.specs.Canonical.{canon}
use Rattle.conversion.specs.Conversion.{standing}
use Rattle.conversion.specs.declared.convert.Scales.{Scales}
use Rattle.conversion.specs.declared.convert.Rate.{Rate}
use Rattle.conversion.specs.declared.convert.Rate.TheVariants.{Same, By}

-- canonical if the flag says so, else as it stands
abbrev pub ready_if : (Atom → Atom → Ordering) → Bool → List Factor → Outcome (List Factor)
ready_if cmp true l = canon cmp l
ready_if cmp false l = standing l

-- ---- any value, by what is kept of a conversion

-- times the own scale, divided by the target's, with the multiplications that both took
unfoldable pub scaled_by : Scales → Float → Tally
scaled_by s x = tally (div binary64 (mul binary64 x s.own) s.target) s.count

abbrev pub tallied_by : Outcome Scales → Float → Outcome Tally
tallied_by o x = apply (λ s. scaled_by s x) o

-- a zero, and any value of equal lists, stays as it is, which takes nothing
unfoldable pub any_by : Rate → Float → Outcome Tally
any_by Same x = Ok (tally x 0)
any_by (By o) x = pick (is_zero x) (Ok (tally x 0)) (tallied_by o x)

unfoldable pub counted_by : Outcome Rate → Float → Outcome Tally
counted_by o x = bind o (λ r. any_by r x)

-- without its count
unfoldable pub rated_by : Outcome Rate → Float → Outcome Float
rated_by o x = apply (λ (t : Tally). t.value) (counted_by o x)
