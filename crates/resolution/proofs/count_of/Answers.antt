-- `count_of` meets its contract. The invariant: the factors before j are counted.
use native.Mathlib.Omega.{arith}
use Rattle.resolution.proofs.Counting.{by_keys, by_ranks, place-most, class_most, counting_on, counting_end}
use Rattle.resolution.proofs.count_of.Goals as goal

pub loop-j-preserved : goal.loop-j-preserved
loop-j-preserved c =
    let o = c.loop-j in
    let a = c.args in
    let k = by_keys a.keys.now o.j a.i in
    let rest = by_ranks a.named.now a.ranks.now o.j a.i in
    let u = c.counted-c.result in
    let e = c.counted-c.ensures k rest c.compare_keys-o.ensures c.lower-low.ensures in (
      omega (arith, place-most o.c u k rest e),
      omega (arith, class_most o.c u k rest e),
      λ ks l h. counting_on h.named o.j a.i (omega arith) (omega arith) a.ranks.now h.ranked o.c u e (o.invariant.2 ks l h),
    )

pub returns : goal.returns
returns c ks l h =
    let o = c.loop-j in
    counting_end ks l _ o.c o.j (o.invariant.2 ks l h) (omega (arith, h.all))
