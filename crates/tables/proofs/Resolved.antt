-- Resolved lists: the empty one, and one with an item more.
use mathlib.Core.Path.{◌≡◌, refl, sym, ap, ap₂, ◌∙◌}
use mathlib.Core.List.{List, [], ◌∷◌, ◌++◌, map, map-append}
use Prim.Native.Nat.{ℕ, ◌+◌, ◌-◌, ◌<◌}
use native.Mathlib.Omega.{arith}
use lib.ListN.{length, set, replicate, length-map, length-append}
use Rattle.units.specs.declared.Factor.{Factor}
use Rattle.units.specs.Lists.{some}
use Rattle.units.proofs.Laws.{stored}
use Rattle.tables.specs.declared.Item.{Item}
use Rattle.tables.specs.declared.Items.{Items}
use Rattle.tables.specs.Held.{View, Placed, item_of, no_item, pack_items, packed, no_items_lem, Resolved}

-- the empty list is what any view holds of no factors
pub no_items : (v : View) → no_items_lem ≡ pack_items v []
unfolding packed pack_items
no_items v = refl

pub none_resolved : (v : View) → Placed v → (l : Items) → l ≡ no_items_lem → Resolved v l []
unfolding some
none_resolved v p l e = record { is = e ∙ no_items v; short = omega arith; shaped = refl; named = tt; placed = p }

-- one more put behind the others
pub push_items : (v : View) (done : List Factor) (f : Factor) (o : Items) (x : Item) (n : ℕ) → o ≡ pack_items v done → x ≡ item_of v f → length done ≡ n → n < 16 →
    ◌≡◌ {A = Items} (record { at = set o.at n x; len = n + 1 }) (pack_items v (done ++ (f ∷ [])))
unfolding pack_items
push_items v done f o x n e q s h =
    let are = map (item_of v) done in
    ap₂ (λ (l : List Item) (k : ℕ). record { at = l; len = k })
    (ap₂ (λ (o : Items) (x : Item). set o.at n x) e q
    ∙ ap (λ k. set (are ++ replicate (16 - k) no_item) n (item_of v f)) (sym (length-map done (item_of v)))
    ∙ stored are no_item (item_of v f) n (length-map done (item_of v) ∙ s) h
    ∙ ap (λ (l : List Item). l ++ replicate (16 - length l) no_item) (sym (map-append (item_of v) done (f ∷ [])))
    ∙ ap (λ k. map (item_of v) (done ++ (f ∷ [])) ++ replicate (16 - k) no_item) (length-map (done ++ (f ∷ [])) (item_of v)))
    (sym (length-append done (f ∷ []) ∙ ap (λ k. k + 1) s))
