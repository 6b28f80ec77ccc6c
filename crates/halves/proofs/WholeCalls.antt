-- If every denominator given is 1, in rows and lists, no admission, reduction or conversion is refused by DENOMINATOR (02, order 2): a theorem for each call.
use mathlib.Core.Path.{◌≡◌, refl}
use mathlib.Core.Bool.{Bool, true, false, ◌||◌}
use mathlib.Core.List.{List, [], ◌++◌, map}
use Prim.Native.Nat.{ℕ}
use lib.Dec.{eqb}
use lib.Ieee.{Float, is_nan}
use lib.ListN.{length}
use Rattle.exponents.specs.Words.{All}
use Rattle.exponents.specs.Outcome.{SHAPE, UNKNOWN, ROOM, RANGE, UNITS, DIVZERO, ZERONEG, NONWHOLE, NAN, DENOMINATOR, number, Outcome, Ok, Err, bind, each}
use Rattle.exponents.specs.declared.Exponent.{Exponent}
use Rattle.exponents.proofs.Words.{pick_is}
use Rattle.floats.specs.Values.{is_zero}
use Rattle.units.specs.declared.Factor.{Factor}
use Rattle.units.specs.declared.Factors.{Factors}
use Rattle.units.specs.declared.Quantity.{Quantity}
use Rattle.units.specs.declared.Rows.{Rows}
use Rattle.units.specs.Lists as units
use Rattle.units.specs.Lists.{checked, both, joined, with_exponent, inverted, raised}
use Rattle.tables.specs.declared.Slot.{Slot}
use Rattle.tables.specs.Rows.{Facts, table, base_rows}
use Rattle.tables.specs.Rules.{Rules, rules_in}
use Rattle.canonical.specs.Equality as equality
use Rattle.canonical.proofs.Keeping.{all_append}
use Rattle.reduction.specs.Reduction as reductions
use Rattle.lists.specs.Calls as lists
use Rattle.values.specs.Calls as values
use Rattle.quantities.specs.Comparisons.{equal_to, ordered}
use Rattle.quantities.specs.Calls as quantities
use Rattle.sums.specs.Sums.{together, nonzero_sum}
use Rattle.sums.specs.Calls as sums
use Rattle.powers.specs.Whole.{whole_exponent}
use Rattle.powers.specs.Powers.{over1, raised_to}
use Rattle.powers.specs.Calls as powers
use Rattle.halves.specs.Wholes.{WholeExponent, WholeFactor, WholeList, WholeRows}
use Rattle.halves.proofs.Wholes.{Spared, gives, stops, Any, never, spared_unless, spared_map, spared_bind, spared_each, mul-whole, ranged-whole, WholeBase, base-whole, canon_whole, inverted-whole, scale_spared, convert_whole, cancelling_whole}
use Rattle.halves.proofs.WholeTables.{table-whole, rules_whole}

-- ---- the lists of a call

checked-whole : (rows : ℕ) (l : Factors) → WholeList l → Spared (All WholeFactor) (checked rows l)
unfolding checked
checked-whole rows l h = spared_unless _ SHAPE refl (spared_unless _ UNKNOWN refl (gives h))

abbrev Both : List Factor × List Factor → Type 0
Both p = All WholeFactor p.0 × All WholeFactor p.1

both-whole : (rows : ℕ) (a b : Factors) → WholeList a → WholeList b → Spared Both (both rows a b)
unfolding both
both-whole rows a b h k = spared_bind _ (checked-whole rows a h) λ fs p. spared_map _ (checked-whole rows b k) λ gs q. (p, q)

joined-whole : (fs gs : List Factor) → All WholeFactor fs → All WholeFactor gs → Spared (All WholeFactor) (joined fs gs)
unfolding joined
joined-whole fs gs h k = spared_unless _ ROOM refl (gives {a = fs ++ gs} (all_append WholeFactor fs gs h k))

raised-whole : (e : Exponent) → WholeExponent e → (l : List Factor) → All WholeFactor l → Spared (All WholeFactor) (each (raised e) l)
unfolding raised with_exponent
raised-whole e w = spared_each (raised e) λ f p. spared_map _ (ranged-whole _ (mul-whole f.exponent e p w)) λ x q. q

-- ---- by rules whose base exponents are whole
module _ (R : Rules Float) (w : All WholeBase R.bases) where
  equal-whole : (l m : List Factor) → All WholeFactor l → All WholeFactor m → Spared Any (equality.equal R.order l m)
  unfolding equality.equal
  equal-whole l m h k = spared_bind _ (canon_whole R.order l h) λ c _. spared_map _ (canon_whole R.order m k) λ d _. tt

  reduction_whole : (ss : List Slot) (l : List Factor) → All WholeFactor l → Spared Any (reductions.reduction R ss l)
  unfolding reductions.reduction
  reduction_whole ss l h = spared_bind _ (base-whole R.bases l w h) λ es _. spared_map _ (scale_spared R l) λ s _. tt

  reduced-whole : (l : List Factor) → All WholeFactor l → Spared Any (reductions.reduced_scale R l)
  unfolding reductions.reduced_scale
  reduced-whole l h = spared_bind _ (base-whole R.bases l w h) λ es _. scale_spared R l

  smaller_whole : (l m : List Factor) → All WholeFactor l → All WholeFactor m → Spared Any (reductions.smaller_unit R l m)
  unfolding reductions.smaller_unit
  smaller_whole l m h k = spared_bind _ (reduced-whole l h) λ s _. spared_map _ (reduced-whole m k) λ u _. tt

  together_whole : (minus : Bool) (x y : Float) (fs gs u : List Factor) → All WholeFactor fs → All WholeFactor gs → All WholeFactor u → Spared Any (together R minus x y fs gs u)
  unfolding together
  together_whole minus x y fs gs u h k c = spared_bind _ (convert_whole R w fs u x h c) λ a _. spared_map _ (convert_whole R w gs u y k c) λ b _. tt

  added_whole : (minus : Bool) (x y : Float) (fs gs : List Factor) → All WholeFactor fs → All WholeFactor gs → Spared Any (nonzero_sum R minus x y fs gs)
  unfolding nonzero_sum
  added_whole minus x y fs gs h k =
      spared_bind _ (equal-whole fs gs h k) λ same _.
      pick_is (Spared Any) same (gives tt)
      (spared_bind _ (smaller_whole fs gs h k) λ first _. together_whole minus x y fs gs _ h k (pick_is (All WholeFactor) first {a = fs} {b = gs} h k))

-- ---- what follows a conversion

verdict_whole : (x : Float) {o : Outcome Float} → Spared Any o → Spared Any (equal_to x o)
unfolding equal_to
verdict_whole x (gives h) = gives tt
verdict_whole x (stops {r = r} s) = pick_is (Spared Any) (eqb (number r) (number UNITS)) {a = Ok false} {b = Err r} (gives tt) (stops s)

ordered-whole : (x y : Float) → Spared Any (ordered x y)
unfolding ordered
ordered-whole x y = spared_unless _ NAN refl (gives tt)

exponent_whole : (x : Float) → Spared Any (whole_exponent x)
unfolding whole_exponent
exponent_whole x = spared_unless _ NONWHOLE refl (spared_unless _ RANGE refl (gives tt))

power-whole : (v : Float) (fs : List Factor) (x : Float) → All WholeFactor fs → Spared Any (raised_to v fs x)
unfolding raised_to
power-whole v fs x h = spared_unless _ ZERONEG refl (spared_bind _ (exponent_whole x) λ n _. spared_map _ (raised-whole (over1 n) refl fs h) λ l _. tt)

-- ---- the calls, over a table whose rows are whole
module _ (t : Rows) (w : WholeRows t) where
  -- after the table and one list, or two
  module _ {B : Type 0} {Q : B → Type 0} where
    of_one : (a : Factors) (f : List Facts → List Factor → Outcome B) → WholeList a →
        ((ks : List Facts) → All WholeBase (rules_in t ks).bases → (fs : List Factor) → All WholeFactor fs → Spared Q (f ks fs)) →
        Spared Q (bind (table t) (λ ks. bind (checked (length ks) a) (f ks)))
    of_one a f h g = spared_bind _ (table-whole t w) λ ks k. spared_bind _ (checked-whole (length ks) a h) (g ks (rules_whole t ks k))

    of_two : (a b : Factors) (f : List Facts → List Factor × List Factor → Outcome B) → WholeList a → WholeList b →
        ((ks : List Facts) → All WholeBase (rules_in t ks).bases → (p : List Factor × List Factor) → Both p → Spared Q (f ks p)) →
        Spared Q (bind (table t) (λ ks. bind (both (length ks) a b) (f ks)))
    of_two a b f h k g = spared_bind _ (table-whole t w) λ ks d. spared_bind _ (both-whole (length ks) a b h k) (g ks (rules_whole t ks d))

  -- THEOREM: admission
  pub table_never : table t ≡ Err DENOMINATOR → ⊥
  table_never = never (table-whole t w)

  -- ---- one list
  module _ (a : Factors) (h : WholeList a) where
    -- THEOREM: the canonical form
    pub canonical_never : lists.canonical t a ≡ Err DENOMINATOR → ⊥
    unfolding lists.canonical
    canonical_never = never (of_one a _ h λ ks b fs p. canon_whole (rules_in t ks).order fs p)

    reduction_spared : Spared Any (lists.reduction t a)
    unfolding lists.reduction
    reduction_spared = of_one a _ h λ ks b fs p. reduction_whole (rules_in t ks) b (base_rows t) fs p

    -- THEOREM: the reduction of a list
    pub reduction_never : lists.reduction t a ≡ Err DENOMINATOR → ⊥
    reduction_never = never reduction_spared

    -- THEOREM: its power to a whole exponent
    pub power_never : (e : Exponent) → WholeExponent e → lists.list_power t a e ≡ Err DENOMINATOR → ⊥
    unfolding lists.list_power units.list_power
    power_never e x = never (of_one a _ h λ ks b fs p. spared_unless _ SHAPE refl (raised-whole e x fs p))

  -- ---- two lists
  module _ (a b : Factors) (h : WholeList a) (k : WholeList b) where
    -- THEOREM: equality of lists
    pub same_never : lists.same_lists t a b ≡ Err DENOMINATOR → ⊥
    unfolding lists.same_lists
    same_never = never (of_two a b _ h k λ ks d p q. equal-whole (rules_in t ks) d p.0 p.1 q.0 q.1)

    -- THEOREM: the smaller unit
    pub smaller_never : lists.smaller_unit t a b ≡ Err DENOMINATOR → ⊥
    unfolding lists.smaller_unit
    smaller_never = never (of_two a b _ h k λ ks d p q. spared_map {Q = Any} _ (smaller_whole (rules_in t ks) d p.0 p.1 q.0 q.1) λ s _. tt)

    product_spared : Spared (All WholeFactor) (lists.product t a b)
    unfolding lists.product units.product
    product_spared = of_two a b _ h k λ ks d p q. joined-whole p.0 p.1 q.0 q.1

    -- THEOREM: the product
    pub product_never : lists.product t a b ≡ Err DENOMINATOR → ⊥
    product_never = never product_spared

    -- THEOREM: the quotient
    pub quotient_never : lists.quotient t a b ≡ Err DENOMINATOR → ⊥
    unfolding lists.quotient units.quotient
    quotient_never = never (of_two a b _ h k λ ks d p q. joined-whole p.0 (map inverted p.1) q.0 (inverted-whole p.1 q.1))

  -- ---- one quantity
  module _ (q : Quantity) (h : WholeList q.unit) where
    -- THEOREM: the reduction of a quantity
    pub reduce_never : values.reduce t q ≡ Err DENOMINATOR → ⊥
    unfolding values.reduce
    reduce_never = never (spared_map {Q = Any} _ (reduction_spared q.unit h) λ p _. tt)

    -- THEOREM: its conversion
    pub convert_never : (m : Factors) → WholeList m → quantities.convert_to t q m ≡ Err DENOMINATOR → ⊥
    unfolding quantities.convert_to
    convert_never m k = never (of_two q.unit m _ h k λ ks d p c. spared_map {Q = Any} _ (convert_whole (rules_in t ks) d p.0 p.1 q.value c.0 c.1) λ v _. tt)

    -- THEOREM: and with factors cancelled on both sides (02, order 3)
    pub merged_never : (m : Factors) → WholeList m → quantities.convert_merged t q m ≡ Err DENOMINATOR → ⊥
    unfolding quantities.convert_merged
    merged_never m k = never (of_two q.unit m _ h k λ ks d p c. spared_map {Q = Any} _ (cancelling_whole (rules_in t ks) d p.0 p.1 q.value c.0 c.1) λ v _. tt)

  -- ---- two quantities
  module _ (q p : Quantity) (h : WholeList q.unit) (k : WholeList p.unit) where
    -- THEOREM: equality
    pub equal_never : quantities.equal t q p ≡ Err DENOMINATOR → ⊥
    unfolding quantities.equal
    equal_never = never (of_two q.unit p.unit _ h k λ ks d l c. verdict_whole q.value (convert_whole (rules_in t ks) d l.1 l.0 p.value c.1 c.0))

    -- THEOREM: comparison
    pub compare_never : quantities.compare t q p ≡ Err DENOMINATOR → ⊥
    unfolding quantities.compare
    compare_never =
        never (of_two q.unit p.unit _ h k λ ks d l c.
        spared_unless (is_nan q.value || is_nan p.value) NAN refl
        (spared_bind _ (convert_whole (rules_in t ks) d l.1 l.0 p.value c.1 c.0) λ y _. ordered-whole q.value y))

    -- THEOREM: the product of quantities
    pub multiply_never : values.multiply t q p ≡ Err DENOMINATOR → ⊥
    unfolding values.multiply
    multiply_never = never (spared_map {Q = Any} _ (product_spared q.unit p.unit h k) λ l _. tt)

    -- THEOREM: their quotient
    pub divide_never : values.checked_div t q p ≡ Err DENOMINATOR → ⊥
    unfolding values.checked_div
    divide_never =
        never (of_two q.unit p.unit _ h k λ ks d l c.
        spared_unless _ DIVZERO refl (spared_map {Q = Any} _ (joined-whole l.0 (map inverted l.1) c.0 (inverted-whole l.1 c.1)) λ m _. tt))

    summed_spared : (minus : Bool) (lead : List Factor → Quantity) → Spared Any (sums.summed t minus lead q p)
    unfolding sums.summed
    summed_spared minus lead =
        of_two q.unit p.unit _ h k λ ks d l c.
        pick_is (Spared Any) (is_zero q.value) (gives tt)
        (pick_is (Spared Any) (is_zero p.value) (gives tt)
        (added_whole (rules_in t ks) d minus q.value p.value l.0 l.1 c.0 c.1))

    -- THEOREM: their sum
    pub add_never : sums.add t q p ≡ Err DENOMINATOR → ⊥
    unfolding sums.add
    add_never = never (summed_spared false _)

    -- THEOREM: their difference
    pub subtract_never : sums.subtract t q p ≡ Err DENOMINATOR → ⊥
    unfolding sums.subtract
    subtract_never = never (summed_spared true _)

    -- THEOREM: a power, whose exponent is converted to scalar
    pub raise_never : powers.checked_power t q p ≡ Err DENOMINATOR → ⊥
    unfolding powers.checked_power
    raise_never =
        never (of_two q.unit p.unit _ h k λ ks d l c.
        spared_bind _ (convert_whole (rules_in t ks) d l.1 [] p.value c.1 tt) λ x _. power-whole q.value l.0 x c.0)
