-- What a call replies into lent room tells what its export returns.
use mathlib.Core.Path.{◌≡◌, refl}
use mathlib.Core.List.{List}
use Prim.Native.Nat.{ℕ}
use Rattle.exponents.specs.Outcome.{Outcome, Ok, Err, refusal_of}
use Rattle.replies.specs.Held.{reply_of}

pub number_is : (o : Outcome (List ℕ)) → refusal_of (reply_of o) ≡ refusal_of o
number_is (Ok bs) = refl
number_is (Err r) = refl
