-- A unit that cancels wholly isn't read (02, order 3): conversions by rules whose sizes agree on the reduced lists have one answer, and so have those in tables whose scales agree there, whatever the other scales are.
use mathlib.Core.Path.{◌≡◌, refl, sym, ap, ◌∙◌}
use mathlib.Core.Bool.{◌||◌}
use mathlib.Core.List.{List, [], ◌∷◌, map}
use Prim.Native.Nat.{ℕ, compare, Ordering}
use native.Mathlib.Omega.{arith}
use lib.Ieee.{binary64, mul}
use lib.ListN.{length, get_or, length-map, get_or-map}
use Rattle.exponents.specs.Words.{All}
use Rattle.exponents.specs.Outcome.{Outcome, Ok, apply, bind}
use Rattle.exponents.specs.Fractions.{nought}
use Rattle.exponents.proofs.Holds.{Holds, take_out, bind_given, holds_imp}
use Rattle.exponents.proofs.Following.{bind_same}
use Rattle.exponents.proofs.Each.{all_imp}
use Rattle.floats.specs.Power.{one}
use Rattle.units.specs.declared.Factor.{Factor}
use Rattle.units.specs.declared.Factors.{Factors}
use Rattle.units.specs.declared.Quantity.{Quantity}
use Rattle.units.specs.declared.Row.{Row}
use Rattle.units.specs.declared.Rows.{Rows}
use Rattle.units.specs.Lists.{both}
use Rattle.units.specs.Prefixes.{factor_of}
use Rattle.keys.specs.Orders.{then, lists, pairs}
use Rattle.keys.specs.Key.{entries}
use Rattle.tables.specs.Lists.{base}
use Rattle.tables.specs.Scale.{Numbers, raised_to, scale_from_lem}
use Rattle.tables.specs.Rows.{Facts, nobody, exp_at, scale_at, places, bases, slots, admitted, admit_from, rows_of, table, base_rows}
use Rattle.tables.specs.Order.{Atom, key_order, row_order, order, order_in}
use Rattle.tables.specs.Rules.{Rules, rules_in}
use Rattle.tables.proofs.Filled.{admit-rows, table-length}
use Rattle.tables.proofs.Alike.{table_sound}
use Rattle.resolution.proofs.Keyed.{admits}
use Rattle.canonical.specs.Canonical.{canon, same_list, same_all}
use Rattle.canonical.proofs.Agree.{bind_agrees}
use Rattle.common.specs.Common.{common, over}
use Rattle.conversion.specs.Conversion.{judged, choose, rescaled, against, unlike, convert_by, cancelling}
use Rattle.values.specs.Quantities.{fresh}
use Rattle.quantities.specs.Calls.{convert_merged}

-- P holds of each factor of the two reduced lists: either list over the factors that both forms have in common, made canonical
abbrev pub OnReduced : (Factor → Type 0) → (Atom → Atom → Ordering) → List Factor → List Factor → Type 0
OnReduced P cmp l m = (cl cm : List Factor) → canon cmp l ≡ Ok cl → canon cmp m ≡ Ok cm →
    Holds (All P) (canon cmp (over l (common cmp cl cm))) × Holds (All P) (canon cmp (over m (common cmp cl cm)))

pub on_reduced_imp : {P Q : Factor → Type 0} (cmp : Atom → Atom → Ordering) (l m : List Factor) → ((f : Factor) → P f → Q f) → OnReduced P cmp l m → OnReduced Q cmp l m
on_reduced_imp cmp l m g h cl cm p q = let k = h cl cm p q in (holds_imp k.0 (λ own. all_imp own g), holds_imp k.1 (λ t. all_imp t g))

-- ---- by rules
module _ {A : Type 0} where
  -- sizes that agree on a list give it one scale
  pub scale_agrees : (N : Numbers A) (size size' : Factor → A) (s : A) (l : List Factor) → All (λ f. size f ≡ size' f) l → scale_from_lem N size s l ≡ scale_from_lem N size' s l
  unfolding scale_from_lem
  scale_agrees N size size' s [] h = refl
  scale_agrees N size size' s (f ∷ l) h = λ i. bind (raised_to N (h.0 i) f.exponent) (λ p. scale_agrees N size size' (N.times s p) l h.1 i)

  -- the same rules for conversion, but for the sizes
  pub record Like (R R' : Rules A) : Type 0 where
    pub order : R.order ≡ R'.order
    pub bases : R.bases ≡ R'.bases
    pub numbers : R.numbers ≡ R'.numbers

  module _ (R R' : Rules A) where
    abbrev agree : Factor → Type 0
    agree f = R.size f ≡ R'.size f

    -- order, base exponents and numbers by R, the rest by R'
    abbrev mixed : Rules A
    mixed = record { order = R.order; bases = R.bases; numbers = R.numbers; size = R'.size; alike = R'.alike; is_base = R'.is_base; lead = R'.lead }

    rescaled_agrees : (own t : List Factor) (v : A) → All agree own → All agree t → rescaled R own t v ≡ rescaled mixed own t v
    unfolding rescaled
    rescaled_agrees own t v h k =
        λ i. bind (scale_agrees R.numbers R.size R'.size R.numbers.one own h i)
        (λ s. apply (λ u. R.numbers.divide (R.numbers.times v s) u) (scale_agrees R.numbers R.size R'.size R.numbers.one t k i))

    against_agrees : (own : List Factor) (target : Outcome (List Factor)) (v : A) → All agree own → Holds (All agree) target → against R own target v ≡ against mixed own target v
    unfolding against
    against_agrees own target v h k =
        bind_same (base R.bases own) _ _ λ x. bind_agrees target _ _ λ t e. bind_same (base R.bases t) _ _ λ y.
        ap (judged (same_all x y)) (rescaled_agrees own t v h (take_out k e))

    mixed_same : (l m : List Factor) (v : A) → OnReduced agree R.order l m → cancelling R l m v ≡ cancelling mixed l m v
    unfolding convert_by unlike
    mixed_same l m v h =
        bind_agrees (canon R.order l) _ _ λ cl p. bind_agrees (canon R.order m) _ _ λ cm q.
        let k = h cl cm p q in
        ap (choose (R.numbers.is_zero v || same_list R.order cl cm) v)
        (bind_agrees (canon R.order (over l (common R.order cl cm))) _ _ λ own e. against_agrees own _ v (take_out k.0 e) k.1)

    -- sizes that agree on the reduced lists give one answer
    pub rules_unread : Like R R' → (l m : List Factor) (v : A) → OnReduced agree R.order l m → cancelling R l m v ≡ cancelling R' l m v
    rules_unread e l m v h =
        mixed_same l m v h
        ∙ (λ i. cancelling (record { order = e.order i; bases = e.bases i; numbers = e.numbers i; size = R'.size; alike = R'.alike; is_base = R'.is_base; lead = R'.lead }) l m v)

-- ---- in tables

-- what is known of a row but for its scale
abbrev pub bare : Facts → Facts
bare k = record { exps = k.exps; key = k.key; scale = one; rank = k.rank; base = k.base }

module _ (ks ks' : List Facts) (e : map bare ks ≡ map bare ks') where
  bare_at : (r : ℕ) → bare (get_or ks r nobody) ≡ bare (get_or ks' r nobody)
  bare_at r = sym (get_or-map bare ks r nobody) ∙ ap (λ l. get_or l r (bare nobody)) e ∙ get_or-map bare ks' r nobody

  pub bare_length : length ks ≡ length ks'
  bare_length = sym (length-map ks bare) ∙ ap length e ∙ length-map ks' bare

  pub bare_bases : (n : ℕ) → bases n ks ≡ bases n ks'
  unfolding exp_at
  bare_bases n = λ i. map (λ j r. get_or (bare_at r i).exps j nought) (places 0 n)

  bare_order : order_in ks ≡ order_in ks'
  unfolding row_order key_order
  bare_order = ap order λ i r s. then (lists pairs (entries 0 (bare_at r i).key) (entries 0 (bare_at s i).key)) (then (compare (bare_at r i).rank (bare_at s i).rank) (compare r s))

  -- as many base rows: each row has one exponent for each
  bare_slots : (rs rs' : List Row) → admit_from (slots rs) [] rs ≡ admitted ks → admit_from (slots rs') [] rs' ≡ admitted ks' → length (slots rs) ≡ length (slots rs')
  bare_slots [] [] a a' = refl
  bare_slots [] (r' ∷ rs') a a' = absurd (omega (arith, bare_length, table-length _ [] ks a, table-length _ (r' ∷ rs') ks' a'))
  bare_slots (r ∷ rs) [] a a' = absurd (omega (arith, bare_length, table-length _ (r ∷ rs) ks a, table-length _ [] ks' a'))
  bare_slots (r ∷ rs) (r' ∷ rs') a a' =
      sym (table_sound _ (r ∷ rs) ks a r 0 (omega arith)).sized ∙ ap (λ (k : Facts). length k.exps) (bare_at 0) ∙ (table_sound _ (r' ∷ rs') ks' a' r' 0 (omega arith)).sized

-- two admitted tables that differ in scales alone
module _ (t t' : Rows) (ks ks' : List Facts) (k : table t ≡ Ok ks) (k' : table t' ≡ Ok ks') (e : map bare ks ≡ map bare ks') where
  like : Like (rules_in t ks) (rules_in t' ks')
  like = record {
    order = bare_order ks ks' e;
    bases = bare_bases ks ks' e (length (base_rows t)) ∙ ap (λ n. bases n ks') (bare_slots ks ks' e (rows_of t) (rows_of t') (admit-rows t ks (admits t ks k)) (admit-rows t' ks' (admits t' ks' k')));
    numbers = refl;
  }

  -- a call answers alike in both where the rows named by the reduced lists have the same scale in both: no other scale is read
  pub unread : (q : Quantity) (m : Factors) →
      ((fs gs : List Factor) → both (length ks) q.unit m ≡ Ok (fs, gs) → OnReduced (λ f. scale_at ks f.row ≡ scale_at ks' f.row) (order_in ks) fs gs) →
      convert_merged t q m ≡ convert_merged t' q m
  unfolding convert_merged
  unread q m h =
      bind_given _ k
      ∙ bind_agrees (both (length ks) q.unit m) _ _ (λ p b.
      ap (apply (λ v. fresh v p.1))
      (rules_unread (rules_in t ks) (rules_in t' ks') like p.0 p.1 q.value
      (on_reduced_imp (order_in ks) p.0 p.1 (λ f s. ap (mul binary64 (factor_of f.prefix)) s) (h p.0 p.1 b))))
      ∙ ap (λ n. bind (both n q.unit m) (λ p. apply (λ v. fresh v p.1) (cancelling (rules_in t' ks') p.0 p.1 q.value))) (bare_length ks ks' e)
      ∙ sym (bind_given _ k')
