-- What is made of resolved lists is resolved: their common factors, inverted, and a list over those. There the table's order merges as places do.
use mathlib.Core.Path.{◌≡◌, sym, ◌∙◌, ap}
use mathlib.Core.List.{List, map}
use native.Mathlib.Omega.{arith}
use lib.ListN.{length-map}
use Rattle.exponents.specs.Outcome.{Ok}
use Rattle.exponents.proofs.Holds.{take_out}
use Rattle.units.specs.declared.Factor.{Factor}
use Rattle.units.specs.Lists.{inverted}
use Rattle.tables.specs.Order.{Atom}
use Rattle.tables.specs.Held.{View, Stands, by_place, pack_items, Resolved}
use Rattle.tables.specs.declared.Items.{Items}
use Rattle.canonical.specs.Canonical.{canon}
use Rattle.canonical.proofs.Agree.{Atoms, canon_atoms, canon_agrees}
use Rattle.canonical.proofs.Total.{by_place_weak}
use Rattle.common.specs.Common.{common, over}
use Rattle.common.specs.Held.{lessen}
use Rattle.common.proofs.Shaped.{common_kept, common_short, inverted-kept, lessen_kept, lessen_short}
use Rattle.common.proofs.Merging.{over_common, own_common}
use Rattle.common.proofs.Agreeing.{common_atoms, inverted_atoms, over_atoms, lessen_atoms, common_agrees, lessen_agrees}

-- the view's lists name the row
abbrev Named : View → Atom → Type 0
Named v u = Stands u.row v.among

module _ (v : View) {l m : Items} (fs gs : List Factor) (rl : Resolved v l fs) (rm : Resolved v m gs) where
  -- ---- by place as in the table's order
  pub common_placed : common (by_place v) fs gs ≡ common v.order fs gs
  common_placed = common_agrees (Named v) (by_place v) v.order rl.placed.order fs gs rl.named rm.named

  pub lessen_placed : lessen (by_place v) fs gs ≡ lessen v.order fs gs
  lessen_placed = lessen_agrees (Named v) (by_place v) v.order rl.placed.order fs gs rl.named rm.named

  -- ---- what is made is resolved
  pub over_resolved : (r : Items) → r ≡ pack_items v (map inverted (common v.order fs gs)) → Resolved v r (map inverted (common v.order fs gs))
  over_resolved r e = record {
    is = e;
    short = omega (arith, rl.short, length-map (common v.order fs gs) inverted, common_short v.order fs gs);
    shaped = inverted-kept (common v.order fs gs) (common_kept v.order fs gs rl.shaped rm.shaped);
    named = inverted_atoms (Named v) (common v.order fs gs) (common_atoms (Named v) v.order fs gs rl.named);
    placed = rl.placed;
  }

  pub lessen_resolved : (ts : List Factor) → lessen v.order fs gs ≡ Ok ts → (r : Items) → r ≡ pack_items v ts → Resolved v r ts
  lessen_resolved ts p r e = record {
    is = e;
    short = omega (arith, rl.short, take_out (lessen_short v.order fs gs) p);
    shaped = take_out (lessen_kept v.order fs gs rl.shaped) p;
    named = take_out (lessen_atoms (Named v) v.order fs gs rl.named) p;
    placed = rl.placed;
  }

  -- ---- either list over the common factors of both forms, merged, is its form lessened
  module _ (cl cm : List Factor) (p : canon v.order fs ≡ Ok cl) (q : canon v.order gs ≡ Ok cm) where
    abbrev shared : List Factor
    shared = common v.order cl cm

    own_named : Atoms (Named v) cl
    own_named = take_out (canon_atoms (Named v) v.order fs rl.named) p

    target-named : Atoms (Named v) cm
    target-named = take_out (canon_atoms (Named v) v.order gs rm.named) q

    shared_named : Atoms (Named v) shared
    shared_named = common_atoms (Named v) v.order cl cm own_named

    form_placed : (hs : List Factor) → Atoms (Named v) hs → canon (by_place v) hs ≡ canon v.order hs
    form_placed = canon_agrees (Named v) (by_place v) v.order rl.placed.order

    shared_placed : common (by_place v) cl cm ≡ shared
    shared_placed = common_agrees (Named v) (by_place v) v.order rl.placed.order cl cm own_named target-named

    -- merged by place, and so in the table's order
    in_order : (hs ch : List Factor) → Atoms (Named v) hs → Atoms (Named v) ch →
        canon (by_place v) (over hs (common (by_place v) cl cm)) ≡ lessen (by_place v) ch (map inverted (common (by_place v) cl cm)) → canon v.order (over hs shared) ≡ lessen v.order ch (map inverted shared)
    in_order hs ch n k e =
        sym (form_placed (over hs shared) (over_atoms (Named v) hs shared n shared_named))
        ∙ ap (λ c. canon (by_place v) (over hs c)) (sym shared_placed)
        ∙ e
        ∙ ap (λ c. lessen (by_place v) ch (map inverted c)) shared_placed
        ∙ lessen_agrees (Named v) (by_place v) v.order rl.placed.order ch (map inverted shared) k (inverted_atoms (Named v) shared shared_named)

    pub over-merged : canon v.order (over gs shared) ≡ lessen v.order cm (map inverted shared)
    over-merged = in_order gs cm rm.named target-named (over_common (by_place v) (by_place_weak v) fs gs cl cm (form_placed fs rl.named ∙ p) (form_placed gs rm.named ∙ q))

    pub own_merged : canon v.order (over fs shared) ≡ lessen v.order cl (map inverted shared)
    own_merged = in_order fs cl rl.named own_named (own_common (by_place v) (by_place_weak v) fs cl cm (form_placed fs rl.named ∙ p))
