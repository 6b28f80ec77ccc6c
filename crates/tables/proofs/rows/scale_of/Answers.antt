-- `scale_of` meets its contract.
use mathlib.Core.Path.{◌≡◌, sym, ap, ◌∙◌}
use mathlib.Core.List.{List}
use Prim.Native.Nat.{ℕ, ◌<◌}
use native.Mathlib.Omega.{arith}
use lib.ListN.{length, get_or}
use lib.Ieee.{Float, nan}
use Rattle.std.specs.Result.{result_from_control_flow}
use Rattle.exponents.proofs.Handed.{handed_on}
use Rattle.floats.specs.Power.{one}
use Rattle.tables.specs.Rows.{Facts, scale_at}
use Rattle.tables.specs.Held.{Sized}
use Rattle.tables.proofs.Terms.{get_any, nil_factor, named_at}
use Rattle.tables.proofs.Scaling.{factor_on, factor_off}
use Rattle.tables.proofs.rows.scale_of.Goals as goal

-- its scale, read there
scale-read : (ks : List Facts) (scales : List Float) (r : ℕ) → Sized ks scales → r < length ks → r < length scales → get_or scales r nan ≡ scale_at ks r
scale-read ks scales r p h k = get_any scales r nan one k ∙ p r h

pub bounds-scales-f : goal.bounds-scales-f
bounds-scales-f c =
    let r = named_at 128 c.args.def.now c.loop-f.f-index nil_factor c.loop-f-test.true c.requires.0 in
    omega arith

pub returns-in_err-p : goal.returns-in_err-p
returns-in_err-p c ks q p =
    let l = c.args.def.now in
    let k = c.loop-f in
    let h = c.loop-f-test.true in
    let r = named_at 128 l k.f-index nil_factor h c.requires.0 in
    let is = scale-read ks c.args.scales.now _ p (named_at (length ks) l k.f-index nil_factor h q) (omega arith) in
    let e = sym c.raised.ensures ∙ c.branch-p.ensures ∙ ap result_from_control_flow c.in_err-p.is in
    handed_on _ _ c.from_residual.ensures.1 ∙ factor_off l ks k.f-index k.acc (k.invariant ks q p) nil_factor c.factor_of.result _ h c.factor_of.ensures is _ e

pub loop-f-preserved : goal.loop-f-preserved
loop-f-preserved c ks q p =
    let l = c.args.def.now in
    let k = c.loop-f in
    let h = c.loop-f-test.true in
    let r = named_at 128 l k.f-index nil_factor h c.requires.0 in
    let is = scale-read ks c.args.scales.now _ p (named_at (length ks) l k.f-index nil_factor h q) (omega arith) in
    let e = sym c.raised.ensures ∙ c.branch-p.ensures ∙ ap result_from_control_flow c.in_ok-p.is in
    factor_on l ks k.f-index k.acc (k.invariant ks q p) nil_factor c.factor_of.result _ h c.factor_of.ensures is _ e
