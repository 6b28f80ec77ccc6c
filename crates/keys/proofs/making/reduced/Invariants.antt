-- The places before i hold their parts.
use Rattle.exponents.proofs.Places.{Mapped}
use Rattle.keys.specs.Held.{part}
use Rattle.keys.proofs.making.reduced.Given as goal

abbrev pub invariant-loop-i : goal.invariant-loop-i
invariant-loop-i l = Mapped (part l.s l.g l.m) l.d l.i l.k
