-- `floats::raised` meets its contract. The invariant: what is left to do gives the whole, and takes what is left of its multiplications.
use mathlib.Core.Path.{◌≡◌}
use Prim.Native.Nat.{◌+◌}
use Rattle.floats.specs.Power.{one, bits, raise, multiplications}
use Rattle.floats.proofs.raised.Given as goal

abbrev pub invariant-loop-left : goal.invariant-loop-left
invariant-loop-left l = (raise (bits l.left) l.r l.a ≡ raise (bits l.m) one l.base) × (l.count + multiplications (bits l.left) ≡ multiplications (bits l.m))

abbrev pub decreases-loop-left : goal.decreases-loop-left
decreases-loop-left l = l.left
