-- `own_exps` meets its contract.
use mathlib.Core.Path.{refl, ◌∙◌}
use native.Mathlib.Omega.{arith}
use lib.ListN.{length-set}
use Rattle.tables.proofs.Placing.{len_slots}
use Rattle.tables.proofs.Working.{own_none, own_on}
use Rattle.tables.proofs.rows.own_exps.Goals as goal

pub loop-s-init : goal.loop-s-init
loop-s-init c = record { long = refl; so_far = λ ss e. own_none c.args.i c.args.slots ss e }

pub loop-s-preserved : goal.loop-s-preserved
loop-s-preserved c =
    let k = c.loop-s in
    record {
      long = length-set k.out k.s c.own_exponent.result ∙ k.invariant.long;
      so_far = λ ss e.
          let n = len_slots c.args.slots ss e in
          own_on c.args.i c.args.slots ss e k.s _ k.out c.own_exponent.result (omega arith) (omega arith) c.own_exponent.ensures (k.invariant.so_far ss e);
    }
