-- A fault that a call tests before the rest of its work.
use mathlib.Core.Path.{◌≡◌}
use mathlib.Core.Bool.{Bool, true, false}
use Rattle.exponents.specs.Outcome.{Refusal, Outcome, Err, unless}

pub fault_stops : {A : Type 0} (t : Bool) (r : Refusal) (o : Outcome A) → t ≡ true → unless t r o ≡ Err r
unfolding unless
fault_stops t r o e = rw e

pub fault_passes : {A : Type 0} (t : Bool) (r : Refusal) (o : Outcome A) → t ≡ false → unless t r o ≡ o
unfolding unless
fault_passes t r o e = rw e
