-- `read_factor` meets its contract where the five numbers are read.
use Rattle.std.proofs.Common.{rules, ◌≡◌, w32, to_z, of_z, ◌∙◌, sym}
use Rattle.groups.specs.Taken.{then}
use Rattle.groups.specs.Numbers.{signed?}
use Rattle.files.specs.Records.{factor?}
use Rattle.groups.proofs.Steps.{number_gives}
use Rattle.filereads.proofs.read_factor.Goals as goal

pub returns : goal.returns
unfolding factor? then signed?
returns c =
    let x : to_z w32 (of_z w32 c.unfold-2.result) ≡ c.unfold-2.result = search rules in
    let y : to_z w32 (of_z w32 c.unfold.result) ≡ c.unfold.result = search rules in
    let s = c.args.s.now in
    let e1 = number_gives s c.args.at 4294967295 c.in_ok-row.row c.in_ok-row.i (sym c.read_number.ensures ∙ c.in_ok-row.was) in
    let e2 = number_gives s c.in_ok-row.i 1 c.in_ok-k.k c.in_ok-k.j (sym c.read_up_to.ensures ∙ c.in_ok-k.was) in
    let e3 = number_gives s c.in_ok-k.j 4294967295 c.in_ok-n.n c.in_ok-n.l (sym c.read_number-2.ensures ∙ c.in_ok-n.was) in
    let e4 = number_gives s c.in_ok-n.l 4294967295 c.in_ok-num.num c.in_ok-num.m (sym c.read_number-3.ensures ∙ c.in_ok-num.was) in
    let e5 = number_gives s c.in_ok-num.m 4294967295 c.in_ok-den.den c.in_ok-den.next (sym c.read_number-4.ensures ∙ c.in_ok-den.was) in
    simp (e1.0, e2.0, e3.0, e4.0, e5.0, e5.1, c.prefix_of-prefix.ensures, y ∙ c.unfold.ensures, x ∙ c.unfold-2.ensures)
