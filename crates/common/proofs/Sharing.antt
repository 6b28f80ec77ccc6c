-- What two canonical lists share, as code finds it: a walk through the first that fills an array with what is shared, and for each factor one through the second.
use mathlib.Core.Path.{◌≡◌, refl, sym, ap, ap₂, ◌∙◌, subst}
use mathlib.Core.Bool.{true, false, true≢false, false≢true}
use mathlib.Core.List.{List, [], ◌∷◌, ◌++◌, map, map-append, append_assoc, append-nil}
use Prim.Native.Nat.{ℕ, ◌+◌, ◌-◌, ◌≤◌, ◌<◌, Ordering}
use lib.ListN.{length, drop, get_or, set, replicate, length-append, length-map, drop_of_length-le}
use Rattle.exponents.specs.Fractions.{faulty}
use Rattle.exponents.specs.Outcome.{Ok}
use Rattle.exponents.specs.Held.{neg?}
use Rattle.exponents.specs.declared.Exponent.{Exponent}
use Rattle.exponents.proofs.Numbers.{negated_is}
use Rattle.units.specs.declared.Factor.{Factor}
use Rattle.units.specs.Lists.{no_factor, some, factor_fault, with_exponent, inverted}
use Rattle.units.proofs.Laws.{stored}
use Rattle.tables.specs.Held.{View, item_of, no_item, pack_items, packed, by_place}
use Rattle.tables.specs.declared.Item.{Item}
use Rattle.tables.specs.declared.Items.{Items}
use Rattle.exponents.proofs.Places.{rest}
use Rattle.tables.specs.Order.{atom, of}
use Rattle.keys.specs.Orders.{is_eq}
use Rattle.canonical.specs.Held.{spots, with_factor}
use Rattle.reduction.proofs.Resolved.{item_at, sound_at}
use Rattle.std.specs.declared.option.Option.{Option}
use Rattle.std.specs.declared.option.Option.TheVariants.{Some, None}
use Rattle.common.specs.Common.{meet, if_same, with_shared, shared_with_lem, common}
use Rattle.common.proofs.Shaped.{taken_sound}

-- ---- an exponent that keeps its rule, negated: so is the factor
pub inverted_item : (e : Exponent) → faulty e ≡ false → (x : Item) (n : Exponent) → Ok n ≡ neg? e → with_factor x (of (atom x.factor) n) ≡ with_factor x (inverted (of (atom x.factor) e))
unfolding inverted with_exponent
inverted_item e h x n p = ap (λ n. with_factor x (of (atom x.factor) n)) (negated_is e h n p)

-- ---- one factor against a list: the places before i have nothing of its row and prefix
module _ (v : View) (m : Items) (gs : List Factor) (is : m ≡ pack_items v gs) (p : ℕ) (f : Factor) (at : p ≡ v.place f.row) (i : ℕ)
    (so_far : shared_with_lem (by_place v) f gs ≡ shared_with_lem (by_place v) f (drop i gs)) where
  pub shared_end : length gs ≤ i → None ≡ shared_with_lem (by_place v) f gs
  unfolding shared_with_lem
  shared_end h = sym (so_far ∙ ap (shared_with_lem (by_place v) f) (drop_of_length-le gs h))

  -- d stands past the end of the array
  module _ (h : i < length gs) (d : Item) where
    abbrev here : Item
    here = get_or m.at i d

    step : {o : Ordering} → spots p f.prefix here.place here.factor.prefix ≡ o → shared_with_lem (by_place v) f gs ≡ if_same o (meet f.exponent here.factor.exponent) (shared_with_lem (by_place v) f (drop (i + 1) gs))
    unfolding shared_with_lem
    step {o} e =
        let g = get_or gs i no_factor in
        let x : here ≡ item_of v g = item_at v m gs is i d no_factor h in
        let q : by_place v (atom f) (atom g) ≡ o = sym (ap₂ (λ (p : ℕ) (x : Item). spots p f.prefix x.place x.factor.prefix) at x) ∙ e in
        so_far
        ∙ ap (shared_with_lem (by_place v) f) (rest gs no_factor i h)
        ∙ ap₂ (λ (o : Ordering) (x : Item). if_same o (meet f.exponent x.factor.exponent) (shared_with_lem (by_place v) f (drop (i + 1) gs))) q (sym x)

    pub shared_here : is_eq (spots p f.prefix here.place here.factor.prefix) ≡ true → meet f.exponent here.factor.exponent ≡ shared_with_lem (by_place v) f gs
    unfolding if_same is_eq
    shared_here q = sym (step refl ∙ go _ _ _ q)
      where
        go : (o : Ordering) (a b : Option Exponent) → is_eq o ≡ true → if_same o a b ≡ a
        go Ordering.lt a b e = absurd (false≢true e)
        go Ordering.eq a b e = refl
        go Ordering.gt a b e = absurd (false≢true e)

    pub shared_past : is_eq (spots p f.prefix here.place here.factor.prefix) ≡ false → shared_with_lem (by_place v) f gs ≡ shared_with_lem (by_place v) f (drop (i + 1) gs)
    unfolding if_same is_eq
    shared_past q = step refl ∙ go _ _ _ q
      where
        go : (o : Ordering) (a b : Option Exponent) → is_eq o ≡ false → if_same o a b ≡ b
        go Ordering.lt a b e = refl
        go Ordering.eq a b e = absurd (true≢false e)
        go Ordering.gt a b e = refl

-- ---- factors put one by one into an array of items
-- the first k items are those of `done`, and the rest is clean
pub record Filled (v : View) (done : List Factor) (o : Items) (k : ℕ) : Type 0 where
  pub sized : length done ≡ k
  pub at : o.at ≡ (packed (map (item_of v) done)).at

pub filled_none : (v : View) (o : Items) → o ≡ packed [] → Filled v [] o 0
filled_none v o e = record { sized = refl; at = ap (λ (o : Items). o.at) e }

module _ (v : View) (done : List Factor) (o : Items) (k : ℕ) (s : Filled v done o k) where
  pub filled_on : k < 16 → (f : Factor) (y : Item) (n : ℕ) → y ≡ item_of v f → Filled v (done ++ (f ∷ [])) (record { at = set o.at k y; len = n }) (k + 1)
  unfolding packed
  filled_on h f y n e = record {
    sized = length-append done (f ∷ []) ∙ ap (λ k. k + 1) s.sized;
    at = ap₂ (λ (l : List Item) (y : Item). set l k y) s.at e
        ∙ stored (map (item_of v) done) no_item (item_of v f) k (length-map done (item_of v) ∙ s.sized) h
        ∙ ap (λ l. (packed l).at) (sym (map-append (item_of v) done (f ∷ [])));
  }

  pub filled_end : ◌≡◌ {A = Items} (record { at = o.at; len = k }) (pack_items v done)
  unfolding packed pack_items
  filled_end =
      ap₂ (λ (l : List Item) (n : ℕ). record { at = l; len = n })
      (s.at ∙ ap (λ n. map (item_of v) done ++ replicate (16 - n) no_item) (length-map done (item_of v)))
      (sym s.sized)

-- ---- all of a list: the factors before i are done, and what they share stands in o
pub record Gathered (v : View) (fs gs : List Factor) (o : Items) (k i : ℕ) : Type 0 where
  pub done : List Factor
  pub filled : Filled v done o k
  pub so_far : map inverted (common (by_place v) fs gs) ≡ done ++ map inverted (common (by_place v) (drop i fs) gs)

pub gathered_none : (v : View) (fs gs : List Factor) (o : Items) → o ≡ packed [] → Gathered v fs gs o 0 0
gathered_none v fs gs o e = record { done = []; filled = filled_none v o e; so_far = refl }

-- an item tells its own row's place
pub own_place : (v : View) (x : Item) (f : Factor) → x ≡ item_of v f → x.place ≡ v.place x.factor.row
own_place v x f e = ap (λ (x : Item). x.place) e ∙ sym (ap (λ (x : Item). v.place x.factor.row) e)

module _ (v : View) (fs gs : List Factor) (o : Items) (k i : ℕ) (s : Gathered v fs gs o k i) where
  pub gathered_end : length fs ≤ i → ◌≡◌ {A = Items} (record { at = o.at; len = k }) (pack_items v (map inverted (common (by_place v) fs gs)))
  unfolding common
  gathered_end h =
      filled_end v s.done o k s.filled
      ∙ ap (pack_items v) (sym (s.so_far ∙ ap (λ l. s.done ++ map inverted (common (by_place v) l gs)) (drop_of_length-le fs h) ∙ append-nil s.done))

  -- x is the item that code reads, and w what it found to be shared
  module _ (h : i < length fs) (x : Item) (is : x ≡ item_of v (get_or fs i no_factor)) (w : Option Exponent) (shares : w ≡ shared_with_lem (by_place v) x.factor gs) where
    turn : {t : Option Exponent} → w ≡ t → map inverted (common (by_place v) fs gs) ≡ s.done ++ map inverted (with_shared t (get_or fs i no_factor) (common (by_place v) (drop (i + 1) fs) gs))
    unfolding common
    turn {t} e =
        let f = get_or fs i no_factor in
        let q : shared_with_lem (by_place v) f gs ≡ t = sym (ap (λ (x : Item). shared_with_lem (by_place v) x.factor gs) is) ∙ sym shares ∙ e in
        s.so_far
        ∙ ap (λ l. s.done ++ map inverted (common (by_place v) l gs)) (rest fs no_factor i h)
        ∙ ap (λ t. s.done ++ map inverted (with_shared t f (common (by_place v) (drop (i + 1) fs) gs))) q

    pub gathered_past : w ≡ None → Gathered v fs gs o k (i + 1)
    unfolding with_shared
    gathered_past e = record { done = s.done; filled = s.filled; so_far = turn e }

    pub gathered_on : some factor_fault fs ≡ false → some factor_fault gs ≡ false → k < 16 → (e : Exponent) → w ≡ Some e → (y : Item) (n : ℕ) →
        (faulty e ≡ false → y ≡ with_factor x (inverted (of (atom x.factor) e))) → Gathered v fs gs (record { at = set o.at k y; len = n }) (k + 1) (i + 1)
    unfolding with_shared inverted with_exponent
    gathered_on p q r e t y n made =
        let f = get_or fs i no_factor in
        let sound = taken_sound (by_place v) x.factor gs e (ap (λ (x : Item). faulty x.factor.exponent) is ∙ sound_at fs i no_factor h p) q (sym shares ∙ t) in
        let made_of : y ≡ item_of v (inverted (of (atom f) e)) = made sound ∙ ap (λ (x : Item). with_factor x (inverted (of (atom x.factor) e))) is in record {
          done = s.done ++ (inverted (of (atom f) e) ∷ []);
          filled = filled_on v s.done o k s.filled r (inverted (of (atom f) e)) y n made_of;
          so_far = turn t ∙ sym (append_assoc s.done (inverted (of (atom f) e) ∷ []) (map inverted (common (by_place v) (drop (i + 1) fs) gs)));
        }

pub moved : {v : View} {fs gs : List Factor} {o o' : Items} {k k' i : ℕ} → o' ≡ o → k' ≡ k → Gathered v fs gs o k i → Gathered v fs gs o' k' i
moved {v} {fs} {gs} {o} {k'} {i} p q h = subst (λ (o : Items). Gathered v fs gs o k' i) (sym p) (subst (λ (k : ℕ). Gathered v fs gs o k i) (sym q) h)
