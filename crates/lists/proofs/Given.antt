-- A resolved list's factors, taken out one by one: they are the list that was given.
use mathlib.Core.Path.{◌≡◌, refl, sym, ap, ap₂, ◌∙◌}
use mathlib.Core.List.{List, [], ◌∷◌, map, map-append}
use Prim.Native.Nat.{ℕ, ◌+◌, ◌<◌}
use native.Mathlib.Numerals.{add-one}
use native.Mathlib.Omega.{arith}
use lib.ListN.{length, take, set, get_or, length-map}
use lib.Seq.{take-suc, length-take-le}
use Rattle.units.specs.declared.Factor.{Factor}
use Rattle.units.specs.declared.Factors.{Factors}
use Rattle.units.specs.Lists.{pack}
use Rattle.units.proofs.Laws.{push_pack}
use Rattle.tables.specs.declared.Item.{Item}
use Rattle.tables.specs.declared.Items.{Items}
use Rattle.tables.specs.Held.{View, item_of, pack_items}
use Rattle.canonical.proofs.Seen.{len_items, list_items}

abbrev pub factor_of : Item → Factor
factor_of x = x.factor

module _ (is : List Item) (i : ℕ) where
  pub pushed : (d : Item) (o : Factors) → i < length is → i < 16 → o ≡ pack (map factor_of (take i is)) → ◌≡◌ {A = Factors} (record { at = set o.at i (factor_of (get_or is i d)); len = i + 1 }) (pack (map factor_of (take (i + 1) is)))
  pushed d o h k e =
      let long : length (map factor_of (take i is)) ≡ i = length-map (take i is) factor_of ∙ length-take-le i is (omega arith) in
      ap₂ (λ (o : Factors) (n : ℕ). record { at = set o.at n (factor_of (get_or is i d)); len = n + 1 }) e (sym long)
      ∙ push_pack (map factor_of (take i is)) (factor_of (get_or is i d)) (omega arith)
      ∙ ap pack (sym (rw (add-one i) (ap (map factor_of) (take-suc is i d h) ∙ map-append factor_of (take i is) (get_or is i d ∷ []))))

map_self : (v : View) (fs : List Factor) → map factor_of (map (item_of v) fs) ≡ fs
map_self v [] = refl
map_self v (f ∷ fs) = ap (λ l. f ∷ l) (map_self v fs)

pub all_factors : (v : View) (fs : List Factor) (l : Items) → l ≡ pack_items v fs → (i : ℕ) (o : Factors) → i ≡ length fs → o ≡ pack (map factor_of (take i l.at)) → o ≡ pack fs
all_factors v fs l e i o h p = p ∙ ap (λ n. pack (map factor_of (take n l.at))) (h ∙ sym (len_items v fs l e)) ∙ ap (λ m. pack (map factor_of m)) (list_items v fs l e) ∙ ap pack (map_self v fs)
