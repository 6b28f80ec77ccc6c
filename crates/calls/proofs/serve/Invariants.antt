-- `serve` keeps what is read and not used within its buffer.
use Rattle.std.proofs.Common.{◌≤◌, length}
use Rattle.calls.proofs.serve.Given as goal

abbrev pub invariant-loop : goal.invariant-loop
invariant-loop g l = (l.s.at ≤ l.s.end) × (l.s.end ≤ length l.inp)
