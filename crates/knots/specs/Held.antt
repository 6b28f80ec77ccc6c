-- How code keeps the conversions of the units that it has met, and fills the values.
use Rattle.std.specs.Prelude.{◌≡◌, List, ℕ, ◌+◌, ◌≤◌, ◌<◌, Float, length, take, get_or}
use Rattle.exponents.specs.Outcome.{Outcome, Ok, Err, NAN, apply, tested}
use Rattle.units.specs.declared.Factors.{Factors}
use Rattle.units.specs.declared.Quantity.{Quantity}
use Rattle.units.specs.declared.Rows.{Rows}
use Rattle.conversion.specs.Held.{rated_by}
use Rattle.conversion.specs.declared.convert.Rate.{Rate}
use Rattle.quantities.specs.Calls.{merged_value}
use Rattle.wire.specs.Records.{list_at}
use Rattle.knotruns.specs.Knots.{converted, roomy, firsts_into, times_into}
use Rattle.knotruns.specs.Held.{all}
use Rattle.knots.specs.declared.Rule.{Rule}
use Rattle.knots.specs.declared.Shelf.{Shelf}
use Rattle.knots.specs.Calls.{knots_in, knot_vector}

-- r makes of any value of the unit at a place of s what its conversion to m does
pub record Makes (t : Rows) (m : Factors) (s : List ℕ) (r : Outcome Rate) (at : ℕ) : Type 0 where
  pub so : (q : Quantity) → q.unit ≡ list_at s at → rated_by r q.value ≡ merged_value t q m

-- each place on a shelf has a list's bytes behind it, of n bytes
pub record Inside (n : ℕ) (f : Shelf) : Type 0 where
  pub rates : length f.rates ≡ 8
  pub places : length f.places ≡ 8
  pub next : f.next < 8
  pub whole : (k : ℕ) → k < 8 → get_or f.places k 0 + 324 ≤ n

-- what a read past the end of a shelf would be
abbrev pub absent : Outcome Rate
absent = Err NAN

-- and each conversion there is that of the unit at its place
pub record Shelved (t : Rows) (m : Factors) (s : List ℕ) (f : Shelf) : Type 0 where
  pub each : (k : ℕ) → k < 8 → Makes t m s (get_or f.rates k absent) (get_or f.places k 0)

-- r is the refusal of the lowest that is refused; where none is, the conversions are the values
pub record Filling (cs : List (Outcome Float)) (r : Outcome (Unit {0})) (vs : List Float) : Type 0 where
  pub tells : r ≡ tested (converted cs)
  pub there : r ≡ Ok tt → cs ≡ all (take (length cs) vs)

-- what a call on the knots s by the rule u tells, and leaves in the places lent for values and for multiplicities; ROOM comes last
pub record Vectored (t : Rows) (s : List ℕ) (u : Rule) (r : Outcome ℕ) (fs fs' : List Float) (ks ks' : List ℕ) : Type 0 where
  pub told : r ≡ apply length (roomy (length fs) (length ks) (knot_vector t (knots_in s) u))
  pub firsts : fs' ≡ firsts_into (roomy (length fs) (length ks) (knot_vector t (knots_in s) u)) fs
  pub times : ks' ≡ times_into (roomy (length fs) (length ks) (knot_vector t (knots_in s) u)) ks
