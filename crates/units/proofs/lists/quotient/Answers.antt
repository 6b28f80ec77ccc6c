use Rattle.units.specs.Lists.{inverted}
use Rattle.units.proofs.Checked.{short, first_passed, second_passed}
use Rattle.units.proofs.Laws.{mapped_short}
use Rattle.units.proofs.lists.quotient.Goals as goal

pub joined-requires : goal.joined-requires
joined-requires c =
    let a = c.args in
    let h = c.in_ok-check_pair.ensures in
    (short a.rows a.a (first_passed a.rows a.a a.b h), mapped_short inverted a.b _ c.inverse.ensures (short a.rows a.b (second_passed a.rows a.a a.b h)))
