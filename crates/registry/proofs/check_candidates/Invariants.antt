-- `check_candidates` meets its contract. The invariant: the candidates before i are in order, and their lists passed.
use mathlib.Core.Path.{◌≡◌}
use lib.ListN.{take, drop}
use Rattle.exponents.specs.Outcome.{tested}
use Rattle.registry.specs.Registry.{lists_from, candidate_lists}
use Rattle.registry.proofs.check_candidates.Given as goal

abbrev pub invariant-loop-i : goal.invariant-loop-i
invariant-loop-i l = tested (lists_from l.rows l.least (drop l.i (take l.n l.c.at))) ≡ tested (candidate_lists l.rows l.c)
