-- `read_derived` meets its contract where the row is whole.
use Prim.Native.Nat.{◌+◌}
use mathlib.Core.Path.{sym, ap, ◌∙◌}
use native.Mathlib.Omega.{arith}
use lib.Ieee.{binary64, of_bits}
use Rattle.groups.proofs.Steps.{number_gives}
use Rattle.filereads.proofs.Filled.{places_read, derived_read}
use Rattle.filereads.proofs.read_derived.Goals as goal

pub returns : goal.returns
returns c =
    let s = c.args in
    let n = c.in_ok-n in
    let d = c.in_ok-def in
    let r = number_gives s.s.now (s.at + 8) 8 n.n n.l (sym c.read_up_to.ensures ∙ n.was) in
    let x = c.of_bits-x.ensures ∙ ap (of_bits binary64) c.read_u64.ensures in
    derived_read s.s.now s.at s.rank n.n n.l _ d.def d.next (omega arith) r.0 (places_read s.s.now n.l n.n d.def d.next (sym c.read_places.ensures ∙ d.was)) x
