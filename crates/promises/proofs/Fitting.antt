-- Every quantity, list and multiple that a call answers fits its bytes, so that what is written is read back as the answer.
use mathlib.Core.Path.{◌≡◌}
use mathlib.Core.Bool.{Bool, true, false}
use mathlib.Core.List.{List, ◌++◌, map as along}
use Prim.Native.Nat.{ℕ}
use native.Mathlib.Omega.{arith}
use lib.Dec.{eqb}
use lib.Ieee.{Float, binary64, neg}
use lib.Ieee.Fits as ieee
use lib.ListN.{length}
use Rattle.exponents.specs.Words.{pick}
use Rattle.exponents.specs.Outcome.{Outcome, Ok, DIVZERO, ZERONEG, apply}
use Rattle.exponents.specs.declared.Exponent.{Exponent}
use Rattle.exponents.proofs.Holds.{holds_all, Holds, held, holds_any, holds_imp, holds_both, holds_unless, holds_map, holds_bind}
use Rattle.exponents.proofs.InRange.{InRange, sound}
use Rattle.floats.specs.Values.{is_zero}
use Rattle.floats.proofs.Laws as floats
use Rattle.floats.proofs.Patterns.{bits_fit}
use Rattle.floats.proofs.Laws.{abs_fits}
use Rattle.units.specs.declared.Candidates.{Candidates}
use Rattle.units.specs.declared.Factor.{Factor}
use Rattle.units.specs.declared.Factors.{Factors}
use Rattle.units.specs.declared.Prefix.{Prefix}
use Rattle.units.specs.declared.Quantity.{Quantity}
use Rattle.units.specs.declared.Rows.{Rows}
use Rattle.units.specs.Prefixes.{prefix_fault}
use Rattle.units.specs.Lists.{pack, inverted}
use Rattle.tables.specs.Rows.{Facts, base_rows}
use Rattle.tables.specs.Rules.{Rules, rules_in}
use Rattle.exponents.proofs.Each.{all_imp}
use Rattle.exponents.proofs.Words.{pick_is}
use Rattle.reduction.specs.Multiple.{Maybe, times, none}
use Rattle.reduction.specs.Reduction as reductions
use Rattle.lists.specs.Calls as lists
use Rattle.conversion.specs.Conversion.{standing, convert}
use Rattle.values.specs.Quantities.{made, fresh}
use Rattle.values.specs.Calls as values
use Rattle.quantities.specs.Calls as quantities
use Rattle.sums.specs.Sums.{combined, together, nonzero_sum}
use Rattle.sums.specs.Calls as sums
use Rattle.powers.specs.Powers.{over1, raised_to}
use Rattle.powers.specs.Calls as powers
use Rattle.targets.proofs.Within.{Fine, is_fine}
use Rattle.simplification.specs.Steps.{Amount, quantity_of, simplify}
use Rattle.simplification.specs.Calls as simplification
use Rattle.simplification.proofs.Sounding.{simplify_within}
use Rattle.registry.specs.Calls as registry
use Rattle.registry.proofs.Upheld.{candidates_all, registered_any}
use Rattle.wire.specs.Records.{prefix_number, quantity_at, quantity_bytes}
use Rattle.wire.specs.Arguments.{bad_quantity, quantity_from}
use Rattle.wire.proofs.Round.{ExponentFits, PrefixFits, FactorFits, ListFits, QuantityFits, quantity_form}
use Rattle.wire.proofs.Back.{pack-fits}
use Rattle.replies.proofs.Back.{MultipleFits}
use Rattle.filelaws.proofs.Words.{num_least, prefix_least}
use Rattle.promises.proofs.Bounded.{Bounded, Bounds, still_bounded, joined_bounds, inverted_bounded, raised_bounds, checked_bounds, reduced_bounds, of_one, of_two, product_bounds, quotient_bounds, power_bounds, canonical_bounds, reduction_bounds, smaller_bounds, listed_bounds}
use Rattle.promises.proofs.Rounded.{ValueFits, combined_value, scale_value, convert_value, simplify_value}

-- ---- a factor whose numbers are in range

exponent_fits : (e : Exponent) → InRange e → ExponentFits e
exponent_fits e h = record { num = num_least e.num h.numerator; den = omega (arith, h.denominator) }

prefix_fits : (p : Prefix) → prefix_fault p ≡ false → PrefixFits p
prefix_fits p h = record { number = num_least (prefix_number p) (omega (arith, prefix_least p h)) }

pub factor-fits : (f : Factor) → Bounded f → FactorFits f
factor-fits f b = record { row = omega (arith, b.row); prefix = prefix_fits f.prefix b.prefix; exponent = exponent_fits f.exponent b.exponent }

pub list_fits : (fs : List Factor) → Bounds fs → ListFits (pack fs)
list_fits fs h = pack-fits fs (all_imp fs factor-fits h.1) h.0

-- ---- quantities of such values and lists

abbrev AmountFits : Amount → Type 0
AmountFits a = ValueFits a.0 × Bounds a.1

simplify_amount : (t : Rows) (ks : List Facts) (v : Float) (l : List Factor) → ValueFits v → Bounds l → Holds AmountFits (simplify (rules_in t ks) v l)
simplify_amount t ks v l h b = holds_both (simplify_value t ks v l h) (simplify_within Bounded still_bounded (rules_in t ks) 16 v l b)

made-fits : (mark : Bool) (v : Float) (fs : List Factor) → ValueFits v → Bounds fs → QuantityFits (made mark v fs)
made-fits mark v fs h b = record { value = h; unit = list_fits fs b }

all_made : (mark : Bool) (v : Float) {o : Outcome (List Factor)} → ValueFits v → Holds Bounds o → Holds QuantityFits (apply (made mark v) o)
all_made mark v h b = holds_map _ b λ fs. made-fits mark v fs h

amounts_fit : {o : Outcome Amount} → Holds AmountFits o → Holds QuantityFits (apply quantity_of o)
amounts_fit h = holds_map _ h λ a p. made-fits true a.0 a.1 p.0 p.1

-- the sum of two nonzero values
sum_fits : (R : Rules Float) (minus : Bool) (x y : Float) (fs gs : List Factor) → Bounds fs → Bounds gs → Holds QuantityFits (nonzero_sum R minus x y fs gs)
unfolding nonzero_sum together
sum_fits R minus x y fs gs h k =
    holds_bind _ (holds_any _) λ same _. pick_is (Holds QuantityFits) same {a = Ok (fresh (combined minus x y) fs)} (held (made-fits true _ fs (combined_value minus x y) h))
    (holds_bind _ (holds_any _) λ first _. holds_bind _ (holds_any _) λ a _.
    holds_all _ (convert R gs (pick first fs gs) y) λ b. made-fits true _ (pick first fs gs) (combined_value minus a b) (pick_is Bounds first {a = fs} {b = gs} h k))

-- ---- the calls on quantities

module _ (t : Rows) (q : Quantity) where
  pub reduce-fits : Holds QuantityFits (values.reduce t q)
  unfolding values.reduce
  reduce-fits = holds_map _ (reduction_bounds t q.unit) λ p h. made-fits true _ p.0 (ieee.mul-fits binary64 q.value p.1) h

  module _ (v : ValueFits q.value) where
    pub negate_fits : Holds QuantityFits (values.negate t q)
    unfolding values.negate
    negate_fits = all_made true _ (ieee.neg-fits binary64 q.value v) (listed_bounds t q.unit)

    pub magnitude_fits : Holds QuantityFits (values.magnitude t q)
    unfolding values.magnitude
    magnitude_fits = all_made true _ (abs_fits q.value v) (listed_bounds t q.unit)

    pub unmarked_fits : Holds QuantityFits (values.no_simplify t q)
    unfolding values.no_simplify
    unmarked_fits = all_made false _ v (listed_bounds t q.unit)

    pub convert_fits : (m : Factors) → Holds QuantityFits (quantities.convert_to t q m)
    unfolding quantities.convert_to
    convert_fits m = of_two t q.unit m _ λ ks fs gs h k. holds_map _ (convert_value t ks standing fs gs q.value v) λ x f. made-fits true x gs f k

    pub merged-fits : (m : Factors) → Holds QuantityFits (quantities.convert_merged t q m)
    unfolding quantities.convert_merged
    merged-fits m = of_two t q.unit m _ λ ks fs gs h k. holds_map _ (convert_value t ks _ fs gs q.value v) λ x f. made-fits true x gs f k

    pub simplify_fits : Holds QuantityFits (simplification.full_simplify t q)
    unfolding simplification.full_simplify
    simplify_fits = of_one t q.unit _ λ ks k fs h.
        pick_is (Holds QuantityFits) q.mark {b = Ok (made false q.value fs)} (amounts_fit (simplify_amount t ks q.value fs v h)) (held (made-fits false q.value fs v h))

    pub with_fits : (c : Candidates) → Holds QuantityFits (registry.full_simplify_with t q c)
    unfolding registry.full_simplify_with
    with_fits c = of_one t q.unit _ λ ks k fs h. holds_bind _ (candidates_all Bounds (length ks) (checked_bounds t ks k) c) λ ms b.
        pick_is (Holds QuantityFits) q.mark {b = Ok (made false q.value fs)}
        (amounts_fit (holds_bind _ (simplify_amount t ks q.value fs v h) λ a j.
        let to : (m : List Factor) → Bounds m → Holds (λ x. AmountFits (x, m)) (convert (rules_in t ks) a.1 m a.0) = λ m i. holds_imp (convert_value t ks standing a.1 m a.0 j.0) λ x f. (f, i) in
        registered_any (rules_in t ks) a AmountFits (base_rows t) ms j (λ xs e. to _ (reduced_bounds t ks k a.1 xs e)) (all_imp ms to b)))
        (held (made-fits false q.value fs v h))

  module _ (p : Quantity) where
    pub multiply_fits : Holds QuantityFits (values.multiply t q p)
    unfolding values.multiply
    multiply_fits = all_made true _ (ieee.mul-fits binary64 q.value p.value) (product_bounds t q.unit p.unit)

    pub divide_fits : Holds QuantityFits (values.checked_div t q p)
    unfolding values.checked_div
    divide_fits = of_two t q.unit p.unit _ λ ks fs gs h k. holds_unless _ DIVZERO λ _. all_made true _ (ieee.div-fits binary64 q.value p.value) (joined_bounds fs (along inverted gs) h.1 (inverted_bounded gs k.1))

    pub power-fits : Holds QuantityFits (powers.checked_power t q p)
    unfolding powers.checked_power raised_to
    power-fits = of_two t q.unit p.unit _ λ ks fs gs h k.
        holds_bind _ (holds_any _) λ x _. holds_unless _ ZERONEG λ _. holds_bind _ (holds_any _) λ n _. all_made true _ (floats.power-fits q.value n) (raised_bounds (over1 n) 16 fs h)

    module _ (v : ValueFits q.value) (w : ValueFits p.value) where
      summed-fits : (minus : Bool) (lead : List Factor → Quantity) → ((fs : List Factor) → Bounds fs → QuantityFits (lead fs)) → Holds QuantityFits (sums.summed t minus lead q p)
      unfolding sums.summed
      summed-fits minus lead f = of_two t q.unit p.unit _ λ ks fs gs h k.
          pick_is (Holds QuantityFits) (is_zero q.value) {a = Ok (lead gs)} (held (f gs k))
          (pick_is (Holds QuantityFits) (is_zero p.value) {a = Ok (made q.mark q.value fs)} (held (made-fits q.mark q.value fs v h))
          (sum_fits (rules_in t ks) minus q.value p.value fs gs h k))

      pub add-fits : Holds QuantityFits (sums.add t q p)
      unfolding sums.add
      add-fits = summed-fits false _ λ fs. made-fits p.mark p.value fs w

      pub subtract_fits : Holds QuantityFits (sums.subtract t q p)
      unfolding sums.subtract
      subtract_fits = summed-fits true _ λ fs. made-fits true (neg p.value) fs (ieee.neg-fits binary64 p.value w)

-- ---- the calls on lists

fine_fits : (m : Maybe) → Fine m → MultipleFits m
fine_fits (times e) h = exponent_fits e (sound e h).0
fine_fits none h = tt

module _ (t : Rows) (a : Factors) where
  pub list_power-fits : (e : Exponent) → Holds (λ fs. ListFits (pack fs)) (lists.list_power t a e)
  list_power-fits e = holds_imp (power_bounds t a e) list_fits

  pub canonical_fits : Holds (λ fs. ListFits (pack fs)) (lists.canonical t a)
  canonical_fits = holds_imp (canonical_bounds t a) list_fits

  scale_fits : Holds (λ p. ValueFits p.1) (lists.reduction t a)
  unfolding lists.reduction reductions.reduction
  scale_fits = holds_bind _ (holds_any _) λ ks _. holds_bind _ (holds_any _) λ fs _. holds_bind _ (holds_any _) λ es _. holds_map _ (scale_value t ks fs) λ s f. f

  pub reduction_fits : Holds (λ p. ListFits (pack p.0) × ValueFits p.1) (lists.reduction t a)
  reduction_fits = holds_both (holds_imp (reduction_bounds t a) λ p. list_fits p.0) scale_fits

  module _ (b : Factors) where
    pub product-fits : Holds (λ fs. ListFits (pack fs)) (lists.product t a b)
    product-fits = holds_imp (product_bounds t a b) list_fits

    pub quotient_fits : Holds (λ fs. ListFits (pack fs)) (lists.quotient t a b)
    quotient_fits = holds_imp (quotient_bounds t a b) list_fits

    pub smaller_fits : Holds (λ fs. ListFits (pack fs)) (lists.smaller_unit t a b)
    smaller_fits = holds_imp (smaller_bounds t a b) list_fits

    pub multiple-fits : Holds MultipleFits (lists.multiple t a b)
    unfolding lists.multiple
    multiple-fits = of_two t a b _ λ ks fs gs h k. holds_imp (is_fine (rules_in t ks).bases fs gs) fine_fits

-- ---- written and read

-- THEOREM: a quantity's bytes, whatever stands behind them, read as the quantity
pub read_back : (q : Quantity) → QuantityFits q → (s : List ℕ) → quantity_at (quantity_bytes q ++ s) 0 ≡ q
read_back q h s = quantity_form.back q s h

-- a quantity read has a value that fits, so that no call on bytes has to ask for it
pub read_fits : (s : List ℕ) → ValueFits (quantity_from s).value
unfolding quantity_from quantity_at
read_fits s = pick_is (λ q. ValueFits q.value) (eqb (length s) 336) {a = quantity_at s 0} {b = bad_quantity} (bits_fit _) (bits_fit 0)
