-- `factors_of` meets its contract. The invariant: the factors before i stand in o.
use borrow.Author.Rules.{rules}
use mathlib.Core.Path.{◌≡◌}
use native.Mathlib.Omega.{arith}
use lib.ListN.{length}
use Rattle.exponents.proofs.Words.{unmapped}
use Rattle.canonical.proofs.Seen.{len_items}
use Rattle.lists.proofs.Given.{pushed, all_factors}
use Rattle.lists.proofs.opening.factors_of.Goals as goal

pub loop-i-init : goal.loop-i-init
loop-i-init c = c.empty-o.ensures

pub loop-i-preserved : goal.loop-i-preserved
loop-i-preserved c =
    let items-full : length c.args.l.at ≡ 16 = search (rules, unmapped) in
    let k = c.loop-i in
    let full = items-full in
    pushed c.args.l.at k.i _ k.o (omega arith) (omega arith) k.invariant

pub returns : goal.returns
returns c v fs r =
    let k = c.loop-i in
    let n = len_items v fs c.args.l r.is in
    let same = c.capped-n.ensures.1 (omega (arith, r.short)) in
    all_factors v fs c.args.l r.is k.i k.o (omega arith) k.invariant
