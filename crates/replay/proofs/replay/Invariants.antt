-- `replay` keeps what is read and not used within its buffer.
use Rattle.std.proofs.Common.{◌≤◌, length}
use Rattle.replay.proofs.replay.Given as goal

abbrev pub invariant-loop : goal.invariant-loop
invariant-loop g l = (l.b.h.at ≤ l.b.h.end) × (l.b.h.end ≤ length l.inp)
