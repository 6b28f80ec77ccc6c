-- A resolved list as code holds it: what stands at a place, and its scale with the multiplications that it takes.
use mathlib.Core.Path.{◌≡◌, refl, sym, ap, ◌∙◌}
use mathlib.Core.Bool.{false}
use mathlib.Core.List.{List, [], ◌∷◌, ◌++◌, map}
use Prim.Native.Nat.{ℕ, ◌+◌, ◌-◌, ◌≤◌, ◌<◌}
use native.Mathlib.Omega.{arith}
use lib.ListN.{length, take, drop, get_or, replicate, length-map, length-take, get_or-append}
use lib.Ieee.{Float, binary64, nan, mul}
use Rattle.exponents.specs.Outcome.{Refusal, Outcome, Ok, Err, apply, bind}
use Rattle.exponents.specs.Fractions.{faulty}
use Rattle.exponents.proofs.Holds.{bind_given, bind_refused}
use Rattle.exponents.proofs.Following.{bind_bind}
use Rattle.units.specs.declared.Factor.{Factor}
use Rattle.floats.specs.Power.{tally}
use Rattle.floats.specs.declared.Tally.{Tally}
use Rattle.units.specs.Prefixes.{factor_of, factor_count}
use Rattle.units.specs.Lists.{some, factor_fault}
use Rattle.units.proofs.Laws.{none_at}
use Rattle.units.proofs.Sound.{exponent_sound}
use Rattle.tables.specs.declared.Item.{Item}
use Rattle.tables.specs.declared.Items.{Items}
use Rattle.tables.specs.Scale.{Numbers, doubles, counting, raised_to, scale_from_lem, size_by, counted_size}
use Rattle.tables.specs.Held.{View, item_of, no_item, pack_items, Resolved}
use Rattle.canonical.proofs.Seen.{list_items}
use Rattle.tables.proofs.Terms.{nil_factor, get_map}
use Rattle.tables.proofs.Scaling.{scale_on, scale_off, scale_end}
use Rattle.tables.proofs.Forgetting.{more, more-raised, more_scale}

-- what a read past the end of an array gives: never met
abbrev pub nil_item : Item
nil_item = record { factor = nil_factor; scale = nan; place = 0; class = 0; base = false }

module _ (v : View) (l : Items) (fs : List Factor) (e : l ≡ pack_items v fs) where
  pub items_len : l.len ≡ length fs
  unfolding pack_items
  items_len = ap (λ (l : Items). l.len) e

  pub item_at : (i : ℕ) (d : Item) (f : Factor) → i < length fs → get_or l.at i d ≡ item_of v (get_or fs i f)
  unfolding pack_items
  item_at i d f h =
      let k : i < length (map (item_of v) fs) = omega (arith, length-map fs (item_of v)) in
      ap (λ (l : Items). get_or l.at i d) e
      ∙ get_or-append (map (item_of v) fs) (replicate (16 - length fs) no_item) d i k
      ∙ get_map (item_of v) fs i f d h

pub taken_few : (m : ℕ) (is : List Item) → m ≤ 16 → length (take m is) ≤ 16
taken_few m is h = simp length-take (omega arith)

-- the items that a loop goes over, of which code takes no more than there are places for
module _ (v : View) (l : Items) (fs : List Factor) (r : Resolved v l fs) (m : ℕ) (capped : (m ≤ 16) × (l.len ≤ 16 → m ≡ l.len)) where
  taken : take m l.at ≡ map (item_of v) fs
  taken = ap (λ n. take n l.at) (capped.1 (omega (arith, r.short, items_len v l fs r.is))) ∙ list_items v fs l r.is

  pub taken_len : length (take m l.at) ≡ length fs
  taken_len = ap length taken ∙ length-map fs (item_of v)

  pub taken_at : (i : ℕ) (d : Item) (f : Factor) → i < length fs → get_or (take m l.at) i d ≡ item_of v (get_or fs i f)
  taken_at i d f h = ap (λ is. get_or is i d) taken ∙ get_map (item_of v) fs i f d h

-- a checked list's exponents keep their rule
pub sound_at : (fs : List Factor) (i : ℕ) (f : Factor) → i < length fs → some factor_fault fs ≡ false → faulty (get_or fs i f).exponent ≡ false
sound_at fs i f h e = exponent_sound (get_or fs i f) (none_at factor_fault fs i f h e)

-- a list's sizes, with what they took
abbrev pub sizes : View → Factor → Tally
sizes v = counted_size (size_by v.scale)

-- ---- the scale of a resolved list: one factor more. `it` is the item read, g its prefix's factor; k is counted so far
module _ (v : View) (fs : List Factor) (i : ℕ) (f : Factor) (h : i < length fs) (it : Item) (is : it ≡ item_of v (get_or fs i f)) (g : Tally) (prefix : g ≡ tally (factor_of it.factor.prefix) (factor_count it.factor.prefix))
    (start acc : Float) (k : ℕ) (so_far : scale_from_lem (counting doubles) (sizes v) (tally acc k) (drop i fs) ≡ scale_from_lem (counting doubles) (sizes v) (tally start 0) fs) where
  -- what the code has raised
  abbrev power : Outcome Tally
  power = raised_to (counting doubles) (tally (mul binary64 g.value it.scale) 0) it.factor.exponent

  there : raised_to (counting doubles) (tally (mul binary64 g.value it.scale) g.count) it.factor.exponent ≡ raised_to (counting doubles) (sizes v (get_or fs i f)) (get_or fs i f).exponent
  there =
      ap (λ (g : Tally). raised_to (counting doubles) (tally (mul binary64 g.value it.scale) g.count) it.factor.exponent) prefix
      ∙ ap (λ (it : Item). raised_to (counting doubles) (tally (mul binary64 (factor_of it.factor.prefix) it.scale) (factor_count it.factor.prefix)) it.factor.exponent) is

  pub item_on : (t : Tally) → power ≡ Ok t → scale_from_lem (counting doubles) (sizes v) (tally (mul binary64 acc t.value) (k + (g.count + t.count))) (drop (i + 1) fs) ≡ scale_from_lem (counting doubles) (sizes v) (tally start 0) fs
  item_on t e = sym (scale_on (counting doubles) (sizes v) fs (tally acc k) i f h _ (sym there ∙ more-raised doubles _ g.count it.factor.exponent ∙ ap (apply (more g.count)) e)) ∙ so_far

  pub item_off : (r : Refusal) → power ≡ Err r → Err r ≡ scale_from_lem (counting doubles) (sizes v) (tally start 0) fs
  item_off r e =
      sym (sym so_far ∙ scale_off (counting doubles) (sizes v) fs (tally acc k) i f h r (sym there ∙ more-raised doubles _ g.count it.factor.exponent ∙ ap (apply (more g.count)) e))

pub items_end : (v : View) (fs : List Factor) (i : ℕ) (start acc : Float) (k : ℕ) → length fs ≤ i
    → scale_from_lem (counting doubles) (sizes v) (tally acc k) (drop i fs) ≡ scale_from_lem (counting doubles) (sizes v) (tally start 0) fs
    → Ok (tally acc k) ≡ scale_from_lem (counting doubles) (sizes v) (tally start 0) fs
items_end v fs i start acc k h so_far = sym (sym so_far ∙ scale_end (counting doubles) (sizes v) fs (tally acc k) i h)

-- ---- the scale of joined lists
module _ {R : Type 0} (N : Numbers R) (size : Factor → R) where
  pub scale_join : (s : R) (fs gs : List Factor) → scale_from_lem N size s (fs ++ gs) ≡ bind (scale_from_lem N size s fs) (λ t. scale_from_lem N size t gs)
  unfolding scale_from_lem bind
  scale_join s [] gs = refl
  scale_join s (f ∷ fs) gs =
      ap (bind (raised_to N (size f) f.exponent)) (λ i p. scale_join (N.times s p) fs gs i)
      ∙ sym (bind_bind (raised_to N (size f) f.exponent) (λ p. scale_from_lem N size (N.times s p) fs) (λ t. scale_from_lem N size t gs))

module _ (v : View) (fs gs : List Factor) (s : Tally) where
  abbrev first : Outcome Tally
  first = scale_from_lem (counting doubles) (sizes v) s fs

  abbrev whole : Outcome Tally
  whole = scale_from_lem (counting doubles) (sizes v) s (fs ++ gs)

  module _ (t : Tally) (e : first ≡ Ok t) where
    -- the second list's from the first's on, which the code counts anew
    abbrev second : Outcome Tally
    second = scale_from_lem (counting doubles) (sizes v) (tally t.value 0) gs

    goes_on : whole ≡ apply (more t.count) second
    goes_on = scale_join (counting doubles) (sizes v) s fs gs ∙ bind_given _ e ∙ more_scale doubles (sizes v) t.value t.count gs

    pub joined_on : (u : Tally) → second ≡ Ok u → Ok (tally u.value (t.count + u.count)) ≡ whole
    joined_on u d = sym (goes_on ∙ ap (apply (more t.count)) d)

    pub joined_end : (r : Refusal) → second ≡ Err r → Err r ≡ whole
    joined_end r d = sym (goes_on ∙ ap (apply (more t.count)) d)

  pub joined_off : (r : Refusal) → first ≡ Err r → Err r ≡ whole
  joined_off r e = sym (scale_join (counting doubles) (sizes v) s fs gs ∙ bind_refused _ e)
