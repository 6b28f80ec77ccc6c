-- `candidates` meets its contract.
use mathlib.Core.Path.{◌≡◌}
use Rattle.lent.specs.Lent.{no_candidate}
use Rattle.wire.specs.Bytes.{run_at, pad_to}
use Rattle.wire.specs.Records.{candidate_at}
use Rattle.wire.proofs.arguments.candidates.Given as goal

abbrev pub invariant-loop-i : goal.invariant-loop-i
invariant-loop-i l = l.at ≡ pad_to no_candidate 32 (run_at candidate_at 328 l.i l.s 0)
