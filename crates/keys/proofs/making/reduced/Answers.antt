-- `reduced` meets its contract. The invariant: the places before i hold their parts.
use mathlib.Core.Path.{◌≡◌, refl, sym, ◌∙◌}
use native.Mathlib.Omega.{arith}
use mir.Syntax.{w64}
use lib.ListN.{length}
use mir.Facts.{to_z-of_z}
use Rattle.exponents.proofs.Places.{mapped_on, mapped_end}
use Rattle.keys.proofs.KeyLaws.{reduced_is}
use Rattle.keys.specs.Held.{part}
use Rattle.keys.proofs.making.reduced.Goals as goal

pub loop-i-init : goal.loop-i-init
loop-i-init c =
    let z : length c.args.d ≡ 16 = omega arith in
    record { within = omega arith; long = sym z; so_far = refl }

pub loop-i-preserved : goal.loop-i-preserved
loop-i-preserved c =
    let a = c.args in
    let l = c.loop-i in
    let z : length a.d ≡ 16 = omega arith in
    mapped_on (part _ _ a.m) a.d _ l.i l.k _ (omega arith) (to_z-of_z {w = w64} (record { sfits = c.part.type_inv }) ∙ c.part.ensures) l.invariant

pub returns : goal.returns
returns c =
    let t = c in
    let a = c.args in
    let l = c.loop-i in
    let z : length a.d ≡ 16 = omega arith in
    mapped_end (part c.turned-s.result c.divisor-g.result a.m) a.d l.i l.k (omega arith) l.invariant
    ∙ reduced_is a.m a.d c.turned-s.result c.divisor-g.result c.turned-s.ensures c.divisor-g.ensures
