-- `fill` meets its contract.
use mathlib.Core.Path.{refl, ◌∙◌}
use Prim.Native.Nat.{◌+◌, ◌*◌}
use native.Mathlib.Omega.{arith}
use lib.ListN.{length-set}
use Rattle.std.proofs.lemmas.Result.{err_from_is_err_and}
use Rattle.tables.specs.Held.{Admits}
use Rattle.knots.proofs.Filling.{Serves, hand_start, serves_alike, serves_turned, upto_none, upto_on, upto_stop, upto_all}
use Rattle.knots.proofs.fill.Goals as goal
use Rattle.knots.proofs.fill.Goals.{then-not-same_list, else-not-same_list}

pub loop-i-init : goal.loop-i-init
loop-i-init c = record {
  size = refl;
  hand = hand_start _ _ _ _ 12 (omega arith) c.rate_at-rate.ensures;
  so_far = λ rows a. upto_none rows _ _ _ _ (omega arith);
}

pub returns-in_err-values : goal.returns-in_err-values
returns-in_err-values c =
    let i = c.loop-i.i in
    let a = c.args in
    let v : Serves (λ rows. Admits rows a.t a.columns.now.nums a.columns.now.dens a.columns.now.scales a.columns.now.ranks a.columns.now.based) a.target a.knots.now c.if-not-same_list.rate c.if-not-same_list.place c.if-not-same_list.shelf (i * 336 + 12) =
    elim c.if-not-same_list.branch [
      | then-not-same_list w ↦ serves_turned _ _ _ (i * 336 + 12) c.loop-i.invariant.hand (omega arith) w.shelved-rate.ensures.0 w.shelved-rate.ensures.1 w.rate-is w.place-is w.shelf-is
      | else-not-same_list w ↦ serves_alike _ _ _ (i * 336 + 12) c.loop-i.invariant.hand (c.same_list.ensures w.if-not-same_list.false) w.rate-is w.place-is w.shelf-is
    ]
    in
    let p = err_from_is_err_and c.from_residual.result c.from_residual.ensures.1 in (
      c.loop-i.invariant.size,
      λ rows a. rw (p.1, p.2) (upto_stop rows _ _ _ i _ (c.loop-i.invariant.so_far rows a) c.loop-i-test.true _ (v.serves rows a) _ c.read_value-value.ensures _ c.rated.ensures _ c.in_err-values.was _),
    )

pub loop-i-preserved : goal.loop-i-preserved
loop-i-preserved c =
    let i = c.loop-i.i in
    let a = c.args in
    let v : Serves (λ rows. Admits rows a.t a.columns.now.nums a.columns.now.dens a.columns.now.scales a.columns.now.ranks a.columns.now.based) a.target a.knots.now c.if-not-same_list.rate c.if-not-same_list.place c.if-not-same_list.shelf (i * 336 + 12) =
    elim c.if-not-same_list.branch [
      | then-not-same_list w ↦ serves_turned _ _ _ (i * 336 + 12) c.loop-i.invariant.hand (omega arith) w.shelved-rate.ensures.0 w.shelved-rate.ensures.1 w.rate-is w.place-is w.shelf-is
      | else-not-same_list w ↦ serves_alike _ _ _ (i * 336 + 12) c.loop-i.invariant.hand (c.same_list.ensures w.if-not-same_list.false) w.rate-is w.place-is w.shelf-is
    ]
    in record {
      size = length-set c.loop-i.values i _ ∙ c.loop-i.invariant.size;
      hand = v.hand;
      so_far = λ rows a. upto_on rows _ _ _ i _ (c.loop-i.invariant.so_far rows a) c.loop-i-test.true _ (v.serves rows a) _ c.read_value-value.ensures _ c.rated.ensures _ c.in_ok-values.was;
    }

pub returns : goal.returns
returns c =
    (c.loop-i.invariant.size, λ rows a. upto_all rows _ _ _ _ _ (c.loop-i.invariant.so_far rows a) c.loop-i-test.false)
