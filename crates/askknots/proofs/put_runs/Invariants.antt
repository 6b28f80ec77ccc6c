-- `put_runs` meets its contract. The invariant: what is left to store makes the bytes of all.
use mathlib.Core.Path.{◌≡◌}
use mathlib.Core.List.{List}
use lib.ListN.{length, take}
use Rattle.knotruns.specs.Runs.{Run, firsts as firstsOf, multiplicities}
use Rattle.askknots.proofs.Stored.{Left}
use Rattle.askknots.proofs.put_runs.Given as goal

abbrev pub invariant-loop-i : goal.invariant-loop-i
invariant-loop-i l = record {
  size : length l.out ≡ length l.initial.out;
  so_far : (rs : List Run) (m : l.n ≡ length rs) (f : take l.n l.firsts ≡ firstsOf rs) (k : take l.n l.times ≡ multiplicities rs) → Left l.n l.firsts l.times rs m f k l.initial.out l.at l.out l.i;
}
