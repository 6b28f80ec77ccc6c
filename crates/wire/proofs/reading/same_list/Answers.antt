-- `same_list` meets its contract where all numbers are the same.
use mathlib.Core.Path.{sym, ap, ◌∙◌}
use Rattle.wire.specs.Bytes.{count_of}
use Rattle.wire.proofs.Alike.{list_alike}
use Rattle.wire.proofs.reading.same_list.Goals as goal

pub returns : goal.returns
returns c e =
    let l = sym c.read_u32-len.ensures in
    list_alike _ _ _ c.count-n.result c.loop-k.k (l ∙ c.if-len-read_u32.false ∙ c.read_u32.ensures) (c.count-n.ensures.0 ∙ ap (count_of 16) (sym l)) c.loop-k-test.false c.loop-k.invariant
