-- `put_exps` meets its contract. The invariant: those from s on are still to be put.
use borrow.Author.Rules.{rules}
use mathlib.Core.Path.{◌≡◌, refl, ap, ◌∙◌}
use mathlib.Core.List.{[]}
use native.Mathlib.Omega.{arith}
use native.Mathlib.Nat.{add-zero}
use lib.IntN.{pos}
use lib.ListN.{length, get_or, drop, length-set, drop_of_length-le}
use mir.Syntax.{w32}
use mir.Val.{to_z, of_z}
use Rattle.exponents.specs.declared.Exponent.{Exponent}
use Rattle.tables.specs.Held.{tops, bottoms}
use Rattle.exponents.proofs.Places.{rest, put_on}
use Rattle.tables.proofs.pages.put_exps.Goals as goal

pub loop-s-init : goal.loop-s-init
loop-s-init c = (refl, refl, simp add-zero, simp add-zero)

pub loop-s-preserved : goal.loop-s-preserved
loop-s-preserved c =
    let l = c.loop-s in
    let z : length c.args.e ≡ 16 = omega arith in
    let d : Exponent = record { num = pos 0; den = 0 } in
    let v : to_z w32 (of_z w32 (get_or c.args.e l.s d).num) ≡ (get_or c.args.e l.s d).num = search rules in (
      simp length-set l.invariant.0,
      simp length-set l.invariant.1,
      rw v (put_on l.nums _ _ _ c.args.at l.s (ap tops (rest c.args.e d l.s (omega arith)))) ∙ l.invariant.2,
      put_on l.dens _ _ _ c.args.at l.s (ap bottoms (rest c.args.e d l.s (omega arith))) ∙ l.invariant.3,
    )

pub returns : goal.returns
returns c =
    let l = c.loop-s in
    let z : length c.args.e ≡ 16 = omega arith in
    let e : drop l.s c.args.e ≡ [] = drop_of_length-le c.args.e {i = l.s} (omega arith) in
    (rw e at l.invariant.2, rw e at l.invariant.3)
