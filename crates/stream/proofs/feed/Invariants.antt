-- `feed` meets its contract: each turn answers one request more.
use mathlib.Core.Path.{◌≡◌}
use Prim.Native.Nat.{◌-◌, ◌≤◌}
use lib.ListN.{length}
use Rattle.stream.specs.Stream.{next}
use Rattle.stream.proofs.Answering.{Answered}
use Rattle.stream.proofs.feed.Given as goal

abbrev pub invariant-loop-next : goal.invariant-loop-next
invariant-loop-next l = record {
  inside : l.at ≤ length l.inp;
  few : l.n ≤ l.at;
  fits : l.o ≤ length l.out;
  long : length l.out ≡ length l.initial.out;
  so_far : Answered l.inp l.initial.out l.n l.at l.o l.out;
  lies : l.next ≡ next l.inp l.at;
}

abbrev pub decreases-loop-next : goal.decreases-loop-next
decreases-loop-next l = length l.inp - l.at
