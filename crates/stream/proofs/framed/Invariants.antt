-- `framed` meets its contract: what is left to look at lies as the whole request does.
use mathlib.Core.Path.{◌≡◌}
use Prim.Native.Nat.{◌-◌, ◌≤◌}
use lib.ListN.{length}
use Rattle.stream.specs.Stream.{arguments, framed}
use Rattle.stream.proofs.framed.Given as goal

abbrev pub invariant-loop-k : goal.invariant-loop-k
invariant-loop-k l = (l.at ≤ length l.s) × (arguments l.code l.k (l.n - l.k) l.s l.at ≡ framed l.code l.s l.from)
