-- DEMAND 3, sentence by sentence, at the calls that users make: units obey exponent algebra. Everything here is in an admitted table, with no exponent leaving 01's range.
use mathlib.Core.Path.{◌≡◌, refl, sym, ◌∙◌, ap}
use mathlib.Core.Bool.{false, ◌&&◌, ◌||◌}
use mathlib.Core.Logic.{◌↔◌}
use mathlib.Core.List.{List, [], ◌∷◌, ◌++◌, map as along}
use Prim.Native.Nat.{ℕ, ◌<◌}
use native.Mathlib.Omega.{arith}
use lib.IntN.{ℤ}
use lib.Ieee.{Float, mul, div, lt}
use lib.Ieee as ieee
use lib.ListN.{length, get_or}
use Rattle.exponents.specs.Words.{All}
use Rattle.exponents.specs.Outcome.{Refusal, UNITS, FRACTION, Outcome, Ok, Err, apply, each}
use Rattle.exponents.specs.Fractions.{faulty}
use Rattle.exponents.specs.declared.Exponent.{Exponent}
use Rattle.exponents.proofs.Holds.{one_answer, Holds, Only, take_out, bind_given}
use Rattle.exponents.proofs.InRange.{sound}
use Rattle.exponents.proofs.Halves.{OutOfRange}
use Rattle.exponents.proofs.Rationals.{value}
use Rattle.floats.specs.Values.{is_zero}
use Rattle.units.specs.declared.Factor.{Factor}
use Rattle.units.specs.declared.Factors.{Factors}
use Rattle.units.specs.declared.Kind.TheVariants.{Base, Derived}
use Rattle.units.specs.declared.Quantity.{Quantity}
use Rattle.units.specs.declared.Row.{Row}
use Rattle.units.specs.declared.Rows.{Rows}
use Rattle.units.specs.Lists.{list_of, checked, both, inverted, raised}
use Rattle.units.proofs.Laws.{list_pack}
use Rattle.tables.specs.Lists.{base}
use Rattle.tables.specs.Rows.{Facts, def_of, rows_of, table, base_rows}
use Rattle.tables.specs.Rules.{Rules, rules_in, scale_by}
use Rattle.tables.specs.Held.{no_slot}
use Rattle.tables.proofs.Filled.{admit-rows}
use Rattle.resolution.proofs.Keyed.{admits}
use Rattle.canonical.specs.Canonical.{canon, same_list}
use Rattle.canonical.specs.Equality as equality
use Rattle.canonical.proofs.Bases.{Agree}
use Rattle.canonical.proofs.Define.{define}
use Rattle.canonical.proofs.Equal.{same_list_lem}
use Rattle.canonical.proofs.Total.{order_in_total}
use Rattle.reduction.specs.Reduction.{reduced}
use Rattle.reduction.specs.Reduction as reductions
use Rattle.lists.specs.Calls as lists
use Rattle.common.specs.Common.{common, over}
use Rattle.conversion.specs.Conversion.{standing, convert}
use Rattle.conversion.specs.Fractional.{fractional}
use Rattle.conversion.proofs.Ready.{stands}
use Rattle.conversion.proofs.Cases.{Reduced}
use Rattle.conversion.proofs.Refusals.{Fraction}
use Rattle.values.specs.Quantities.{fresh}
use Rattle.values.specs.Calls.{multiply, checked_div}
use Rattle.quantities.specs.Calls.{convert_to}
use Rattle.powers.specs.Whole.{zero, whole_exponent}
use Rattle.powers.specs.Powers.{over1}
use Rattle.powers.specs.Calls.{checked_power}
use Rattle.simplification.specs.Calls.{full_simplify}
use Rattle.simplification.proofs.Agreed.{canon_agree}
use Rattle.promises.specs.Demand.{Answers, sums, differences, multiples}
use Rattle.promises.proofs.BaseUnits as units
use Rattle.promises.proofs.BaseUnits.{Rising}
use Rattle.promises.proofs.Conversion as conversion
use Rattle.promises.proofs.Products.{Room, joins, divides_list, powers_list, multiplies, divides, raises}
use Rattle.promises.proofs.Simplification as simplification
use Rattle.promises.proofs.WholeLists.{joined-sums, over-differences, raised-multiples, agree_is, is_agree}

-- t is an admitted table, ks what is known of its rows
module _ (t : Rows) (ks : List Facts) (k : table t ≡ Ok ks) where
  -- ---- what the sentences speak of

  -- the table's rules
  abbrev pub rules : Rules Float
  rules = rules_in t ks

  -- the base exponents of a list, one for each base row in rank order, as 01 works them out
  abbrev pub Has : List Factor → List Exponent → Type 0
  Has fs xs = base rules.bases fs ≡ Ok xs

  -- two lists have the same base exponents: as exact fractions, also where a step on the way to them would leave the range
  abbrev pub SameBase : List Factor → List Factor → Type 0
  SameBase fs gs = Agree value rules.bases fs gs

  -- where both are worked out, that is equality
  pub same_base : (fs gs : List Factor) (xs ys : List Exponent) → Has fs xs → Has gs ys → SameBase fs gs ↔ (xs ≡ ys)
  same_base fs gs xs ys p q = (agree_is rules.bases fs gs xs ys p q, is_agree rules.bases fs gs xs ys p q)

  -- the scale of a list
  abbrev pub Scale : List Factor → Outcome Float
  Scale fs = scale_by rules fs

  -- `reduce_list` shows them: those that aren't zero, as base factors
  pub reduce_shows : (a : Factors) (fs : List Factor) (xs : List Exponent) (s : Float) → checked (length ks) a ≡ Ok fs → Has fs xs → Scale fs ≡ Ok s → lists.reduction t a ≡ Ok (reduced (base_rows t) xs, s)
  unfolding lists.reduction reductions.reduction
  reduce_shows a fs xs s h p q = bind_given _ k ∙ bind_given _ h ∙ bind_given _ p ∙ rw q

  -- ---- "the base exponents of a product are the sums, of a quotient the differences, of a power the multiples"

  module _ (fs gs : List Factor) (xs ys zs : List Exponent) (p : Has fs xs) (q : Has gs ys) (room : Room fs gs) where
    module _ (r : Has (fs ++ gs) zs) where
      pub product-sums : (a b : Factors) → both (length ks) a b ≡ Ok (fs, gs) → Answers (lists.product t a b) (λ l. Has l zs × (sums xs ys ≡ Ok zs))
      product-sums a b h = (fs ++ gs, joins t ks k a b fs gs h room, (r, joined-sums rules.bases fs gs xs ys zs p q r))

      pub multiply_sums : (u v : Quantity) → both (length ks) u.unit v.unit ≡ Ok (fs, gs) → Answers (multiply t u v) (λ w. Has (list_of w.unit) zs × (sums xs ys ≡ Ok zs))
      multiply_sums u v h = (fresh _ (fs ++ gs), multiplies t ks k u v fs gs h room, (rw (list_pack (fs ++ gs)) r, joined-sums rules.bases fs gs xs ys zs p q r))

    module _ (r : Has (fs ++ along inverted gs) zs) where
      pub quotient-differences : (a b : Factors) → both (length ks) a b ≡ Ok (fs, gs) → Answers (lists.quotient t a b) (λ l. Has l zs × (differences xs ys ≡ Ok zs))
      quotient-differences a b h = (fs ++ along inverted gs, divides_list t ks k a b fs gs h room, (r, over-differences rules.bases fs gs xs ys zs p q r))

      pub divide_differences : (u v : Quantity) → both (length ks) u.unit v.unit ≡ Ok (fs, gs) → is_zero v.value ≡ false → Answers (checked_div t u v) (λ w. Has (list_of w.unit) zs × (differences xs ys ≡ Ok zs))
      divide_differences u v h z = (fresh _ (fs ++ along inverted gs), divides t ks k u v fs gs h z room, (rw (list_pack (fs ++ along inverted gs)) r, over-differences rules.bases fs gs xs ys zs p q r))

  module _ (fs l : List Factor) (xs zs : List Exponent) (p : Has fs xs) (r : Has l zs) where
    -- `list_power` by any exponent e
    pub power-multiples : (e : Exponent) → faulty e ≡ false → each (raised e) fs ≡ Ok l → (a : Factors) → checked (length ks) a ≡ Ok fs → Answers (lists.list_power t a e) (λ m. Has m zs × (multiples e xs ≡ Ok zs))
    power-multiples e s g a h = (l, powers_list t ks k a fs l e h s g, (r, raised-multiples rules.bases e fs l xs zs (sound e s).0.some g p r))

    -- `checked_power` by a quantity that converts to the scalar x, the whole number n
    pub checked-power-multiples : (n : ℤ) → each (raised (over1 n)) fs ≡ Ok l → (u v : Quantity) (gs : List Factor) → both (length ks) u.unit v.unit ≡ Ok (fs, gs) →
        (x : Float) → convert rules gs [] v.value ≡ Ok x → (is_zero u.value && lt x zero) ≡ false → whole_exponent x ≡ Ok n → Answers (checked_power t u v) (λ w. Has (list_of w.unit) zs × (multiples (over1 n) xs ≡ Ok zs))
    checked-power-multiples n g u v gs h x cx z cn =
        (fresh _ l, raises t ks k u v fs gs h x n l cx z cn g, (rw (list_pack l) r, raised-multiples rules.bases (over1 n) fs l xs zs (omega arith) g p r))

  -- ---- "putting a unit in canonical form, or a definition in place of its unit, changes none"

  pub canonical_same : (a : Factors) (fs c : List Factor) (xs ys : List Exponent) → checked (length ks) a ≡ Ok fs → canon rules.order fs ≡ Ok c → Has fs xs → Has c ys → Answers (lists.canonical t a) (λ m. Has m xs)
  unfolding lists.canonical
  canonical_same a fs c xs ys h e p q =
      (c, bind_given _ k ∙ bind_given _ h ∙ e, q ∙ ap Ok (sym (agree_is rules.bases fs c xs ys p q (take_out (canon_agree value rules (order_in_total ks) fs) e))))

  -- the row of f is derived; its definition, to f's exponent, stands in place of f between the lists l and m
  pub definition_same : (d : Row) (f : Factor) (v : Float) → f.row < length (rows_of t) → (get_or (rows_of t) f.row d).kind ≡ Derived v → (p : List Factor) → each (raised f.exponent) (def_of (get_or (rows_of t) f.row d)) ≡ Ok p →
      (l m : List Factor) (xs ys : List Exponent) → Has (l ++ (f ∷ m)) xs → Has (l ++ (p ++ m)) ys → ys ≡ xs
  definition_same d f v i e p g l m xs ys a b =
      agree_is rules.bases (l ++ (p ++ m)) (l ++ (f ∷ m)) ys xs b a
      (take_out (define value (base_rows t) (rows_of t) ks (admit-rows t ks (admits t ks k)) d f i v e l m) g)

  -- ---- "converting a nonzero value between unequal units is refused as incompatible exactly when their base exponents differ; if they agree, the answer is the scaled value in the target unit, unless 01 names a fractional scale"

  module _ (q : Quantity) (m : Factors) (fs gs : List Factor) (h : both (length ks) q.unit m ≡ Ok (fs, gs)) where
    -- the five steps in which an exponent could leave the range: both canonical forms, the base exponents of the own list over the common factors, the target over them in canonical form, and its base exponents
    pub record InRange (cl cm l : List Factor) (x y : List Exponent) : Type 0 where
      pub own_form : canon rules.order fs ≡ Ok cl
      pub target_form : canon rules.order gs ≡ Ok cm
      pub own_base : Has (over fs (common rules.order cl cm)) x
      pub over_form : canon rules.order (over gs (common rules.order cl cm)) ≡ Ok l
      pub target-base : Has l y

    -- `same_list` says no: the canonical forms differ
    pub forms_differ : lists.same_lists t q.unit m ≡ Ok false → {cl cm : List Factor} → canon rules.order fs ≡ Ok cl → canon rules.order gs ≡ Ok cm → cl ≡ cm → ⊥
    unfolding lists.same_lists equality.equal
    forms_differ unequal {cl} {cm} own target e =
        let says : lists.same_lists t q.unit m ≡ Ok (same_list rules.order cl cm) = bind_given _ k ∙ bind_given _ h ∙ bind_given _ own ∙ ap (apply (same_list rules.order cl)) target in
        let no : same_list rules.order cl cm ≡ false = one_answer (sym says ∙ unequal) in
        (same_list_lem rules.order (order_in_total ks) cl cm).nay no e

    module _ (nonzero : is_zero q.value ≡ false) (unequal : lists.same_lists t q.unit m ≡ Ok false) {cl cm l : List Factor} {x y : List Exponent} (s : InRange cl cm l x y) where
      steps : Reduced rules value standing fs gs q.value cl cm (over fs (common rules.order cl cm)) x l y
      steps = record {
        lists = record { own = s.own_form; target = s.target_form; nonzero = nonzero; differ = forms_differ unequal s.own_form s.target_form };
        readied = refl;
        steps = record { own_base = s.own_base; target_is = s.over_form; target-base = s.target-base };
      }

      pub units_exactly : (convert_to t q m ≡ Err UNITS) ↔ (SameBase fs gs → ⊥)
      unfolding convert_to
      units_exactly = conversion.units_exactly (λ R. standing) t ks k (stands value) q m fs gs h steps

      -- the own scale is that of the own list over the common factors, not merged; the target scale that of the target over them, in canonical form
      pub scaled_value : SameBase fs gs → (own target : Float) → Scale (over fs (common rules.order cl cm)) ≡ Ok own → Scale l ≡ Ok target →
          convert_to t q m ≡ Ok (fresh (div ieee.binary64 (mul ieee.binary64 q.value own) target) gs)
      unfolding convert_to
      scaled_value = conversion.scaled_value (λ R. standing) t ks k (stands value) q m fs gs h steps

      -- FRACTION exactly where a size other than 1 meets an exponent that isn't whole, in one of the two scales; else it answers
      pub fraction_exactly : SameBase fs gs → Fraction (fractional rules (over fs (common rules.order cl cm)) || fractional rules l) (convert_to t q m)
      unfolding convert_to
      fraction_exactly = conversion.fraction_exactly (λ R. standing) t ks k (stands value) q m fs gs h steps

  -- ---- "full simplification of a nonzero value, if it answers, keeps base exponents"

  module _ (q : Quantity) (fs : List Factor) (h : checked (length ks) q.unit ≡ Ok fs) where
    pub simplify_keeps : is_zero q.value ≡ false → Holds (λ p. SameBase fs (list_of p.unit)) (full_simplify t q)
    simplify_keeps = simplification.keeps_base t ks k q fs h

    -- as 01 works them out
    pub simplify_same : is_zero q.value ≡ false → (p : Quantity) → full_simplify t q ≡ Ok p → (xs ys : List Exponent) → Has fs xs → Has (list_of p.unit) ys → xs ≡ ys
    simplify_same n p e xs ys a b = agree_is rules.bases fs (list_of p.unit) xs ys a b (take_out (simplify_keeps n) e)

    -- it is refused by what leaves the range and by FRACTION alone
    pub simplify_refused : (S : Refusal → Type 0) → ((r : Refusal) → OutOfRange r → S r) → S FRACTION → Only S (full_simplify t q)
    simplify_refused = simplification.refuses t ks k q fs h

  -- ---- what the sentences rest on: base units are told apart

  module _ (d : Row) where
    -- each base row has its place among the base rows; places rise in rank
    pub base-rows-all : (r : ℕ) → r < length (rows_of t) → (get_or (rows_of t) r d).kind ≡ Base → (j : ℕ) × (j < length (base_rows t)) × ((get_or (base_rows t) j no_slot).row ≡ r)
    base-rows-all = units.base-rows-all t ks (admits t ks k) d

    pub base-rows_only : All (λ s. (s.row < length (rows_of t)) × ((get_or (rows_of t) s.row d).kind ≡ Base) × ((get_or (rows_of t) s.row d).rank ≡ s.rank)) (base_rows t)
    base-rows_only = units.base-rows_only t ks (admits t ks k) d

    pub base-rows_rise : Rising (base_rows t)
    base-rows_rise = units.base-rows_rise t ks (admits t ks k) d

    -- f is a base row to the power 1, with any prefix
    abbrev pub BaseUnit : Factor → Type 0
    BaseUnit f = units.BaseUnit t ks (admits t ks k) d f

    pub base_units_apart : (f g : Factor) → BaseUnit f → BaseUnit g → (f.row ≡ g.row → ⊥) → SameBase (f ∷ []) (g ∷ []) → ⊥
    base_units_apart f g u v n a =
        units.apart t ks (admits t ks k) d f g u v n (agree_is rules.bases (f ∷ []) (g ∷ []) _ _ (units.base-unit_has t ks (admits t ks k) d f u) (units.base-unit_has t ks (admits t ks k) d g v) a)

    pub base-unit_no_scalar : (f : Factor) → BaseUnit f → SameBase (f ∷ []) [] → ⊥
    base-unit_no_scalar f u a =
        units.not_scalar t ks (admits t ks k) d f u (agree_is rules.bases (f ∷ []) [] _ _ (units.base-unit_has t ks (admits t ks k) d f u) (units.scalar_has t ks (admits t ks k) d) a)
