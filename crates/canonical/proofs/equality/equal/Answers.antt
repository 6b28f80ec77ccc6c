-- `equal` meets its contract.
use mathlib.Core.Path.{◌∙◌, ap}
use Rattle.exponents.specs.Outcome.{Ok}
use Rattle.canonical.proofs.Judged.{canon_formed, says}
use Rattle.canonical.proofs.equality.equal.Goals as goal

pub returns : goal.returns
returns c v fs gs r s =
    let a = canon_formed v _ fs _ r (c.in_ok-c.ensures v fs r) in
    let b = canon_formed v _ gs _ s (c.in_ok-d.ensures v gs s) in
    ap Ok (c.same.ensures v a.answer b.answer a.list b.list) ∙ says v.order fs gs a.answer b.answer a.is b.is
