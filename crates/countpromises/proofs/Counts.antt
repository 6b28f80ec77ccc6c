-- What the counted conversions promise (02, order 5; readings 30 and 31), at the calls, for any table, quantity and list: value and refusal are those of the conversions that don't count, the count of an answer is exactly what the factors of its two scales take, shortcuts and refusals count 0, and no count passes its bound.
use mathlib.Core.Path.{◌≡◌, refl, sym, ◌∙◌, ap}
use mathlib.Core.Bool.{true, ◌||◌, or-true}
use mathlib.Core.List.{List, [], ◌∷◌}
use Prim.Native.Nat.{ℕ, ◌+◌, ◌*◌, ◌≤◌}
use native.Mathlib.Omega.{arith}
use borrow.Author.Tests.{ltb-false}
use lib.Dec.{ltb}
use lib.Ieee.{Float}
use lib.ListN.{length, length-take}
use Rattle.exponents.specs.Outcome.{Refusal, SHAPE, UNKNOWN, Outcome, Ok, Err, apply, bind}
use Rattle.exponents.proofs.Following.{bind_same, apply_apply, apply_bind}
use Rattle.exponents.proofs.Holds.{Holds, held, take_out, one_answer, holds_eq, holds_both, holds_unless, holds_map, holds_bind, bind_given}
use Rattle.exponents.proofs.InRange.{or_left, or_right}
use Rattle.floats.specs.Power.{tally}
use Rattle.floats.specs.Values.{is_zero}
use Rattle.floats.specs.declared.Tally.{Tally}
use Rattle.units.specs.declared.Factor.{Factor}
use Rattle.units.specs.declared.Factors.{Factors}
use Rattle.units.specs.declared.Quantity.{Quantity}
use Rattle.units.specs.declared.Rows.{Rows}
use Rattle.units.specs.Lists.{list_of, factor_fault, some, checked, both}
use Rattle.tables.specs.Rows.{Facts, table}
use Rattle.tables.specs.Order.{order_in}
use Rattle.tables.specs.Rules.{Rules, rules_in, counted}
use Rattle.tables.proofs.Forgetting.{plain}
use Rattle.canonical.specs.Canonical.{canon, same_list}
use Rattle.canonical.specs.Equality.{equal}
use Rattle.canonical.proofs.Total.{Weak, through_weak, order_in_total}
use Rattle.conversion.specs.Conversion.{standing, convert_by, convert, cancelling}
use Rattle.conversion.proofs.Forgetting.{forget_convert}
use Rattle.lists.specs.Calls.{same_lists}
use Rattle.values.specs.Quantities.{fresh}
use Rattle.quantities.specs.Calls.{convert_with, convert_to, convert_merged}
use Rattle.counted.specs.Calls.{count_with_lem, convert_to_counted, convert_merged_counted, counted_of}
use Rattle.counted.specs.declared.Counted.{Counted}
use Rattle.countpromises.proofs.Merged.{Short, Took, took, stays, merged-most}
use Rattle.countpromises.proofs.Longest.{convert_most}

-- ---- the lists of a call
checked-short : (rows : ℕ) (l : Factors) → Holds (Short 16) (checked rows l)
unfolding checked
checked-short rows l =
    holds_unless _ SHAPE λ s. holds_unless _ UNKNOWN λ _. held {a = list_of l} (record {
      few = let h = ltb-false 16 l.len (or_left (ltb 16 l.len) (some factor_fault (list_of l)) s) in simp length-take (omega arith);
      kept = or_right (ltb 16 l.len) (some factor_fault (list_of l)) s;
    })

both-short : (rows : ℕ) (a b : Factors) → Holds (λ p. Short 16 p.0 × Short 16 p.1) (both rows a b)
unfolding both
both-short rows a b = holds_bind _ (checked-short rows a) λ fs h. holds_map _ (checked-short rows b) λ gs k. (h, k)

in_order : (ks : List Facts) → Weak (order_in ks)
in_order ks = through_weak (order_in_total ks) (λ u. u)

-- how the own list over the common factors is made ready, in a table known as ks: by 01's rule, and by order 3's
abbrev pub Making : Type 0
Making = List Facts → List Factor → Outcome (List Factor)

abbrev pub as_it_stands : Making
as_it_stands ks = standing

abbrev pub merging : Making
merging ks = canon (order_in ks)

abbrev pub quantity_of : Outcome (Quantity × ℕ) → Outcome Quantity
quantity_of o = apply (λ p. p.0) o

-- what a counted conversion took, as it is handed over: nothing if it is refused
abbrev pub multiplied : Outcome Counted → ℕ
multiplied (Ok c) = c.count
multiplied (Err r) = 0

module _ (t : Rows) (q : Quantity) (m : Factors) where
  -- ---- values and refusals

  both_stay : (f : Rules Tally → List Factor → List Factor → Tally → Outcome Tally) (g : Rules Float → List Factor → List Factor → Float → Outcome Float) →
      ((R : Rules Float) (l m : List Factor) (x : Tally) → apply plain (f (counted R) l m x) ≡ g R l m x.value) → quantity_of (count_with_lem t f q m) ≡ convert_with t g q m
  both_stay f g h =
      apply_bind (table t) _ _
      ∙ bind_same (table t) _ _ λ ks. apply_bind (both (length ks) q.unit m) _ _
      ∙ bind_same (both (length ks) q.unit m) _ _ λ p. apply_apply _ _ (f (counted (rules_in t ks)) p.0 p.1 (tally q.value 0))
      ∙ sym (apply_apply plain (λ v. fresh v p.1) (f (counted (rules_in t ks)) p.0 p.1 (tally q.value 0)))
      ∙ ap (apply (λ v. fresh v p.1)) (h (rules_in t ks) p.0 p.1 (tally q.value 0))

  -- THEOREM: the count left out, a counted conversion is the conversion: the same quantity, the same refusal
  pub values_stay : (quantity_of (convert_to_counted t q m) ≡ convert_to t q m) × (quantity_of (convert_merged_counted t q m) ≡ convert_merged t q m)
  unfolding convert_to_counted convert_to convert_merged_counted convert_merged
  values_stay = (both_stay (λ R. convert R) (λ R. convert R) λ R. forget_convert R standing, both_stay (λ R. cancelling R) (λ R. cancelling R) λ R. forget_convert R (canon R.order))

  -- THEOREM: a refusal counts 0: it is handed over with nothing beside it
  pub refused_none : (r : Refusal) → (convert_to_counted t q m ≡ Err r → (counted_of (convert_to_counted t q m) ≡ Err r) × (multiplied (counted_of (convert_to_counted t q m)) ≡ 0))
      × (convert_merged_counted t q m ≡ Err r → (counted_of (convert_merged_counted t q m) ≡ Err r) × (multiplied (counted_of (convert_merged_counted t q m)) ≡ 0))
  refused_none r = (λ e. (ap counted_of e, ap (λ o. multiplied (counted_of o)) e), λ e. (ap counted_of e, ap (λ o. multiplied (counted_of o)) e))

  -- ---- the count of an answer

  -- n is what was taken, by the rules of the table, between the lists, which passed the check
  pub record Accounted (ready : Making) (n : ℕ) : Type 0 where
    pub ks : List Facts
    pub own : List Factor
    pub target : List Factor
    pub known : table t ≡ Ok ks
    pub lists : both (length ks) q.unit m ≡ Ok (own, target)
    pub own_short : Short 16 own
    pub target-short : Short 16 target
    pub exactly : Took (rules_in t ks) (ready ks) own target (tally q.value 0) n

  counts : (ready : Making) → Holds (λ (p : Quantity × ℕ). Accounted ready p.1) (bind (table t) (λ ks. bind (both (length ks) q.unit m) (λ p. apply (λ v. (fresh v.value p.1, v.count)) (convert_by (counted (rules_in t ks)) (ready ks) p.0 p.1 (tally q.value 0)))))
  counts ready =
      holds_bind _ (holds_eq (table t)) λ ks k.
      holds_bind _ (holds_both (holds_eq (both (length ks) q.unit m)) (both-short (length ks) q.unit m)) λ p s.
      holds_map _ (took (rules_in t ks) (ready ks) p.0 p.1 (tally q.value 0)) λ w e.
      record { ks = ks; own = p.0; target = p.1; known = k; lists = s.0; own_short = s.1.0; target-short = s.1.1; exactly = e }

  -- P holds of what 01's conversion counts, Q of what order 3's counts
  abbrev pub Both : (ℕ → Type 0) → (ℕ → Type 0) → Type 0
  Both P Q = (p : Quantity × ℕ) → (convert_to_counted t q m ≡ Ok p → P p.1) × (convert_merged_counted t q m ≡ Ok p → Q p.1)

  -- THEOREM: the count of an answer is exactly what was taken: 0 by a shortcut, else what the factors of both scales take
  pub counted_exactly : Both (Accounted as_it_stands) (Accounted merging)
  unfolding convert_to_counted convert_merged_counted
  counted_exactly p = (λ e. take_out (counts as_it_stands) e, λ e. take_out (counts merging) e)

  of-both : {P Q : ℕ → Type 0} → ((n : ℕ) → Accounted as_it_stands n → P n) → ((n : ℕ) → Accounted merging n → Q n) → Both P Q
  of-both f g p = (λ e. f p.1 ((counted_exactly p).0 e), λ e. g p.1 ((counted_exactly p).1 e))

  -- THEOREM: a zero counts 0
  pub zero_none : is_zero q.value ≡ true → Both (λ n. n ≡ 0) (λ n. n ≡ 0)
  zero_none z = of-both (none as_it_stands) (none merging)
    where
      none : (ready : Making) (n : ℕ) → Accounted ready n → n ≡ 0
      none ready n c = stays (rules_in t c.ks) (ready c.ks) c.own c.target (tally q.value 0) (λ cl cm _ _. ap (λ b. b || same_list (order_in c.ks) cl cm) z) n c.exactly

  -- THEOREM: equal lists count 0
  pub equal_none : same_lists t q.unit m ≡ Ok true → Both (λ n. n ≡ 0) (λ n. n ≡ 0)
  unfolding same_lists equal
  equal_none h = of-both (none as_it_stands) (none merging)
    where
      none : (ready : Making) (n : ℕ) → Accounted ready n → n ≡ 0
      none ready n c =
          stays (rules_in t c.ks) (ready c.ks) c.own c.target (tally q.value 0)
          (λ cl cm el em. ap (λ b. is_zero q.value || b) (one_answer (sym (bind_given _ c.known ∙ bind_given _ c.lists ∙ bind_given _ el ∙ ap (apply _) em) ∙ h)) ∙ or-true (is_zero q.value))
          n c.exactly

  -- THEOREM: no conversion takes more than 3,744 by 01's rule, within the order's 3,840, nor more than 2,560 by order 3's
  pub bounds : Both (λ n. n ≤ 3744) (λ n. n ≤ 2560)
  bounds =
      of-both
      (λ n c. convert_most (rules_in t c.ks) (in_order c.ks) 16 c.own c.target c.own_short c.target-short (tally q.value 0) n c.exactly)
      (λ n c. merged-most (rules_in t c.ks) (in_order c.ks) 16 c.own c.target c.own_short c.target-short (tally q.value 0) n c.exactly)

-- ---- knots: each is converted by order 3's rule, and its conversion counted
module _ (t : Rows) (m : Factors) where
  -- what all of them take; one that is refused counts 0
  unfoldable pub spent : List Quantity → ℕ
  spent [] = 0
  spent (q ∷ ks) = multiplied (counted_of (convert_merged_counted t q m)) + spent ks

  slot : (o : Outcome (Quantity × ℕ)) → ((p : Quantity × ℕ) → o ≡ Ok p → p.1 ≤ 2560) → multiplied (counted_of o) ≤ 2560
  slot (Ok p) h = h p refl
  slot (Err r) h = omega arith

  -- THEOREM: one knot takes at most 2,560, whatever it is
  pub knot_bound : (q : Quantity) → multiplied (counted_of (convert_merged_counted t q m)) ≤ 2560
  knot_bound q = slot (convert_merged_counted t q m) λ p. (bounds t q m p).1

  -- THEOREM: so n of them at most 2,560 each
  pub knots_bound : (ks : List Quantity) → spent ks ≤ 2560 * length ks
  unfolding spent
  knots_bound [] = omega arith
  knots_bound (q ∷ ks) = omega (arith, knot_bound q, knots_bound ks)

  -- and the 512 of a knot vector 1,310,720
  pub vector_bound : (ks : List Quantity) → length ks ≤ 512 → spent ks ≤ 1310720
  vector_bound ks h = omega (arith, knots_bound ks)
