-- `exps_of` meets its contract.
use mathlib.Core.Path.{refl, sym, ap, ◌∙◌}
use Prim.Native.Nat.{◌<◌}
use native.Mathlib.Omega.{arith}
use lib.ListN.{length-set}
use Rattle.std.specs.Result.{result_from_control_flow}
use Rattle.exponents.proofs.Handed.{handed_on}
use Rattle.tables.proofs.Terms.{exping_none, exping_on, exping_off}
use Rattle.tables.proofs.rows.exps_of.Goals as goal

pub loop-s-init : goal.loop-s-init
loop-s-init c = record { long = refl; so_far = λ ks q p. exping_none _ _ }

pub returns-in_err-out : goal.returns-in_err-out
returns-in_err-out c ks q p =
    let a = c.args in
    let k = c.loop-s in
    let w : k.s < 16 = omega (arith, c.requires.0) in
    let e = sym (c.exponent_in.ensures ks q p) ∙ c.branch-out.ensures ∙ ap result_from_control_flow c.in_err-out.is in
    handed_on _ _ c.from_residual.ensures.1 ∙ exping_off a.def.now a.n ks k.out k.s (k.invariant.so_far ks q p) c.loop-s-test.true w _ e

pub loop-s-preserved : goal.loop-s-preserved
loop-s-preserved c =
    let a = c.args in
    let k = c.loop-s in
    let w : k.s < 16 = omega (arith, c.requires.0) in
    record {
      long = length-set k.out k.s c.in_ok-out.field-0 ∙ k.invariant.long;
      so_far = λ ks q p.
          let e = sym (c.exponent_in.ensures ks q p) ∙ c.branch-out.ensures ∙ ap result_from_control_flow c.in_ok-out.is in
          exping_on a.def.now a.n ks k.out k.s (k.invariant.so_far ks q p) c.loop-s-test.true w _ e;
    }
