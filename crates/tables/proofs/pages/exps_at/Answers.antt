-- `exps_at` meets its contract. The invariant: the first s exponents are read.
use mathlib.Core.Path.{refl, sym, ◌∙◌}
use native.Mathlib.Omega.{arith}
use lib.IntN.{pos}
use lib.ListN.{length-set}
use Rattle.exponents.specs.declared.Exponent.{Exponent}
use Rattle.exponents.proofs.Places.{part_long, part_at}
use Rattle.tables.proofs.Paging.{read_on, read_end}
use Rattle.tables.proofs.pages.exps_at.Goals as goal

pub loop-s-init : goal.loop-s-init
loop-s-init c = (refl, refl, refl)

pub loop-s-preserved : goal.loop-s-preserved
loop-s-preserved c =
    let l = c.loop-s in
    let x = c.exponent_at in
    let n = part_long c.args.bases.nums.now c.args.at c.requires.0 in
    let d = part_long c.args.bases.dens.now c.args.at c.requires.1 in (
      length-set l.e l.s x.result ∙ l.invariant.0,
      read_on (λ (y : Exponent). y.num) l.e _ l.s x.result (pos 0) (omega arith) (omega arith) (x.ensures.0 ∙ sym (part_at c.args.bases.nums.now c.args.at l.s (pos 0) (omega arith))) l.invariant.1,
      read_on (λ (y : Exponent). y.den) l.e _ l.s x.result 1 (omega arith) (omega arith) (x.ensures.1 ∙ sym (part_at c.args.bases.dens.now c.args.at l.s 1 (omega arith))) l.invariant.2,
    )

pub returns : goal.returns
returns c =
    let l = c.loop-s in
    let n = part_long c.args.bases.nums.now c.args.at c.requires.0 in
    let d = part_long c.args.bases.dens.now c.args.at c.requires.1 in
    (read_end (λ (y : Exponent). y.num) l.e _ l.s (omega arith) (omega arith) l.invariant.1, read_end (λ (y : Exponent). y.den) l.e _ l.s (omega arith) (omega arith) l.invariant.2)
