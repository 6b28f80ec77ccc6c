-- `representative` meets its contract. The invariant: r holds the greatest of the items before i.
use mathlib.Core.Path.{◌≡◌, refl, sym, ◌∙◌, subst}
use mathlib.Core.List.{◌∷◌}
use Prim.Native.Nat.{ℕ, ◌+◌}
use native.Mathlib.Omega.{arith}
use lib.ListN.{drop, get_or}
use Rattle.reduction.proofs.Resolved.{items_len, item_at}
use Rattle.targets.specs.Groups.{greatest}
use Rattle.targets.proofs.Grouping.{greatest_stays, greatest_moves, greatest_end}
use Rattle.targets.proofs.groups.representative.Goals as goal
use Rattle.targets.proofs.groups.representative.Goals.{then-not-above, else-not-above}

pub loop-i-init : goal.loop-i-init
loop-i-init c = (omega arith, omega arith, λ v f fs e h. (omega arith, refl))

pub loop-i-preserved : goal.loop-i-preserved
loop-i-preserved c =
    let k = c.loop-i in
    let b = c.args.l in
    let u = c.above in (
      elim c.if-not-above.branch [ then-not-above w ↦ omega arith | else-not-above w ↦ omega arith ],
      omega arith,
      λ v f fs e h.
          let n = items_len v b (f ∷ fs) e in
          let same = c.capped-i-end.ensures.1 (omega arith) in
          let s = (k.invariant.2 v f fs e h).1 in
          let o = (k.invariant.2 v f fs e h).0 in
          let is = u.ensures v _ _ (item_at v b (f ∷ fs) e k.r _ f (omega arith)) (item_at v b (f ∷ fs) e k.i _ f (omega arith)) in (
            elim c.if-not-above.branch [ then-not-above w ↦ omega arith | else-not-above w ↦ omega arith ],
            elim c.if-not-above.branch [
              | then-not-above w ↦ subst (λ (r : ℕ). greatest v.base (get_or (f ∷ fs) r f) (drop (k.i + 1) (f ∷ fs)) ≡ greatest v.base f fs) (sym w.r-is) (greatest_moves v.base f fs k.r k.i s (omega arith) (sym is ∙ w.if-not-above.true))
              | else-not-above w ↦ subst (λ (r : ℕ). greatest v.base (get_or (f ∷ fs) r f) (drop (k.i + 1) (f ∷ fs)) ≡ greatest v.base f fs) (sym w.r-is) (greatest_stays v.base f fs k.r k.i s (omega arith) (sym is ∙ w.if-not-above.false))
            ],
          ),
    )

pub returns : goal.returns
returns c =
    let k = c.loop-i in (
      omega arith,
      λ v f fs e h.
          let n = items_len v c.args.l (f ∷ fs) e in
          let same = c.capped-i-end.ensures.1 (omega arith) in
          ((k.invariant.2 v f fs e h).0, greatest_end v.base f fs k.r k.i (k.invariant.2 v f fs e h).1 (omega arith)),
    )
