-- `exponent_in` meets its contract.
use mathlib.Core.Path.{refl, sym, ap, ◌∙◌}
use native.Mathlib.Omega.{arith}
use lib.ListN.{length}
use Rattle.std.specs.Result.{result_from_control_flow}
use Rattle.exponents.proofs.Handed.{handed_on}
use Rattle.exponents.proofs.Sound.{nought_sound}
use Rattle.tables.specs.Lists.{base_at}
use Rattle.tables.proofs.Terms.{nil_factor, sound_at, named_at, exponent_is, term_sound, inner_on, inner_off}
use Rattle.tables.proofs.rows.exponent_in.Goals as goal

pub loop-f-init : goal.loop-f-init
unfolding base_at
loop-f-init c = record { sound = nought_sound; so_far = λ ks q p. refl }

pub exponent_at-d-requires : goal.exponent_at-d-requires
exponent_at-d-requires c =
    let r = named_at 128 c.args.def.now c.loop-f.f-index nil_factor (omega arith) c.requires.2 in
    (omega arith, omega arith)

pub returns-in_err-acc : goal.returns-in_err-acc
returns-in_err-acc c ks q p =
    let a = c.args in
    let k = c.loop-f in
    let d = c.exponent_at-d in
    let is = exponent_is ks _ _ _ a.s d.result p (named_at (length ks) a.def.now k.f-index nil_factor c.loop-f-test.true q) c.requires.0 d.ensures.0 d.ensures.1 in
    let e = sym (c.with_term.ensures (sound_at a.def.now k.f-index nil_factor c.loop-f-test.true c.requires.1) k.invariant.sound) ∙ c.branch-acc.ensures ∙ ap result_from_control_flow c.in_err-acc.is in
    handed_on _ _ c.from_residual.ensures.1 ∙ sym (inner_off a.def.now ks a.s k.f-index k.acc (k.invariant.so_far ks q p) nil_factor d.result c.loop-f-test.true is _ e)

pub loop-f-preserved : goal.loop-f-preserved
loop-f-preserved c =
    let a = c.args in
    let k = c.loop-f in
    let d = c.exponent_at-d in
    let e = sym (c.with_term.ensures (sound_at a.def.now k.f-index nil_factor c.loop-f-test.true c.requires.1) k.invariant.sound) ∙ c.branch-acc.ensures ∙ ap result_from_control_flow c.in_ok-acc.is in
    record {
      sound = term_sound k.acc _ _ _ e;
      so_far = λ ks q p.
          let is = exponent_is ks _ _ _ a.s d.result p (named_at (length ks) a.def.now k.f-index nil_factor c.loop-f-test.true q) c.requires.0 d.ensures.0 d.ensures.1 in
          inner_on a.def.now ks a.s k.f-index k.acc (k.invariant.so_far ks q p) nil_factor d.result c.loop-f-test.true is _ e;
    }
