-- `read_places` meets its contract.
use borrow.Author.Rules.{rules}
use mathlib.Core.Path.{◌≡◌, ◌∙◌}
use Rattle.std.specs.declared.option.Option.TheVariants.{None}
use Rattle.filereads.proofs.Filled.{factor_found, factor_missing, filled_none, filled_on, filled_off, filled_end}
use Rattle.filereads.proofs.read_places.Goals as goal

pub loop-i-init : goal.loop-i-init
loop-i-init c = filled_none _ _ _ _ c.requires.1 (simp c.no_factor-none.ensures)

pub returns-in_err-f : goal.returns-in_err-f
returns-in_err-f c =
    let s = c.args in
    let k = c.loop-i in
    let e : c.from_residual.result ≡ None = search rules in
    e ∙ filled_off s.s.now s.at s.n k.a k.p k.i c.loop-i-test.true k.invariant (factor_missing s.s.now k.p _ c.read_factor.ensures c.in_err-f.was)

pub loop-i-preserved : goal.loop-i-preserved
loop-i-preserved c =
    let s = c.args in
    let k = c.loop-i in
    filled_on s.s.now s.at s.n k.a k.p k.i _ _ c.loop-i-test.true c.requires.0 k.invariant (factor_found s.s.now k.p c.in_ok-f.q c.in_ok-f.f _ c.read_factor.ensures c.in_ok-f.was)

pub returns : goal.returns
returns c =
    let s = c.args in
    let k = c.loop-i in
    filled_end s.s.now s.at s.n k.a k.p k.i c.loop-i-test.false k.invariant
