-- Every list that a call answers has at most 16 factors, each of which names one of a table's rows, its prefix and exponent in range.
use mathlib.Core.Path.{◌≡◌}
use mathlib.Core.Bool.{false}
use mathlib.Core.List.{List, [], ◌∷◌, ◌++◌, map as along}
use Prim.Native.Nat.{ℕ, ◌+◌, ◌-◌, ◌≤◌, ◌<◌}
use native.Mathlib.Omega.{arith}
use borrow.Author.Tests.{ltb-false}
use lib.ListN.{length, length-append}
use Rattle.exponents.specs.Words.{pick, All}
use Rattle.exponents.specs.Outcome.{Outcome, Ok, ROOM, SHAPE, bind, each}
use Rattle.exponents.specs.Fractions.{faulty}
use Rattle.exponents.specs.declared.Exponent.{Exponent}
use Rattle.exponents.proofs.Holds.{holds_all, Holds, held, take_out, holds_eq, holds_imp, holds_unless, holds_map, holds_bind}
use Rattle.exponents.proofs.InRange.{InRange, or_left, ranged_holds, sound, neg_in_range}
use Rattle.units.specs.declared.Factor.{Factor}
use Rattle.units.specs.declared.Factors.{Factors}
use Rattle.units.specs.declared.Rows.{Rows}
use Rattle.units.specs.Prefixes.{prefix_fault}
use Rattle.units.specs.Lists as units
use Rattle.units.specs.Lists.{pack, factor_fault, checked, both, joined, with_exponent, inverted, raised}
use Rattle.units.proofs.Sound.{exponent_sound}
use Rattle.tables.specs.Lists.{base}
use Rattle.tables.specs.Rows.{Facts, table, base_rows}
use Rattle.tables.specs.Rules.{rules_in, scale_by}
use Rattle.tables.specs.Order.{atom, of}
use Rattle.exponents.proofs.Each.{all_imp}
use Rattle.resolution.proofs.Keyed.{admits, admit_keyed}
use Rattle.exponents.proofs.Words.{pick_is}
use Rattle.canonical.proofs.Keeping.{all_append}
use Rattle.reduction.specs.Reduction as reductions
use Rattle.reduction.specs.Reduction.{reduced}
use Rattle.lists.specs.Calls as lists
use Rattle.values.specs.Calls as values
use Rattle.targets.proofs.Within.{Within}
use Rattle.simplification.proofs.Sounding.{Passes, row_known, checked_passed, canon_within}
use Rattle.registry.proofs.BaseList.{base_list_checked}

-- ---- the parts of a call

-- ---- factors

pub record Bounded (f : Factor) : Type 0 where
  pub row : f.row < 128
  pub prefix : prefix_fault f.prefix ≡ false
  pub exponent : InRange f.exponent

-- what passes the check of a list is so
passes_bounded : (rows : ℕ) → rows ≤ 128 → (f : Factor) → Passes rows f → Bounded f
unfolding factor_fault
passes_bounded rows n f p = record {
  row = omega (arith, row_known rows f p);
  prefix = or_left (prefix_fault f.prefix) (faulty f.exponent) p.0;
  exponent = (sound f.exponent (exponent_sound f p.0)).0;
}

-- with another exponent
with_bounded : (f : Factor) (e : Exponent) → Bounded f → InRange e → Bounded (of (atom f) e)
with_bounded f e b r = record { row = b.row; prefix = b.prefix; exponent = r }

pub still_bounded : (f : Factor) (e : Exponent) → Bounded f → faulty e ≡ false → Bounded (of (atom f) e)
still_bounded f e b h = with_bounded f e b (sound e h).0

-- ---- lists

-- at most 16 such factors
abbrev pub Bounds : List Factor → Type 0
Bounds = Within Bounded 16

pub joined_bounds : (fs gs : List Factor) → All Bounded fs → All Bounded gs → Holds Bounds (joined fs gs)
unfolding joined
joined_bounds fs gs h k = holds_unless _ ROOM λ e. held {a = fs ++ gs} (omega (arith, length-append fs gs, ltb-false 16 (length fs + length gs) e), all_append Bounded fs gs h k)

pub inverted_bounded : (l : List Factor) → All Bounded l → All Bounded (along inverted l)
unfolding inverted with_exponent
inverted_bounded [] h = tt
inverted_bounded (f ∷ l) h = (with_bounded f _ h.0 (neg_in_range f.exponent h.0.exponent), inverted_bounded l h.1)

pub raised_bounds : (e : Exponent) (n : ℕ) (l : List Factor) → Within Bounded n l → Holds (Within Bounded n) (each (raised e) l)
unfolding each raised with_exponent
raised_bounds e n [] h = held h
raised_bounds e n (f ∷ l) h =
    holds_bind _ (holds_map _ (ranged_holds _ _ (with_bounded f _ h.1.0)) λ x b. b) λ g b.
    holds_map _ (raised_bounds e (n - 1) l (omega (arith, h.0), h.1.1)) λ m c. (omega (arith, h.0, c.0), (b, c.1))

module _ (t : Rows) where
  -- ---- the lists of a call

  module _ (ks : List Facts) (k : table t ≡ Ok ks) where
    pub checked_bounds : (l : Factors) → Holds Bounds (checked (length ks) l)
    checked_bounds l = holds_imp (checked_passed (length ks) l) λ fs h. (h.0, all_imp fs (passes_bounded (length ks) (admit_keyed t ks (admits t ks k)).few) h.1)

    both_bounds : (a b : Factors) → Holds (λ p. Bounds p.0 × Bounds p.1) (both (length ks) a b)
    unfolding both
    both_bounds a b = holds_bind _ (checked_bounds a) λ fs h. holds_map _ (checked_bounds b) λ gs j. (h, j)

    -- the base factors pass that check
    pub reduced_bounds : (l : List Factor) (es : List Exponent) → base (rules_in t ks).bases l ≡ Ok es → Bounds (reduced (base_rows t) es)
    reduced_bounds l es e = take_out (checked_bounds (pack (reduced (base_rows t) es))) (base_list_checked t es ks (rules_in t ks).bases l (admits t ks k) e)

  module _ {A : Type 0} {P : A → Type 0} where
    pub of_one : (l : Factors) (W : List Facts → List Factor → Outcome A) → ((ks : List Facts) → table t ≡ Ok ks → (fs : List Factor) → Bounds fs → Holds P (W ks fs))
        → Holds P (bind (table t) (λ ks. bind (checked (length ks) l) (W ks)))
    of_one l W h = holds_bind _ (holds_eq (table t)) λ ks k. holds_bind _ (checked_bounds ks k l) (h ks k)

    pub of_two : (a b : Factors) (W : List Facts → List Factor × List Factor → Outcome A) → ((ks : List Facts) (fs gs : List Factor) → Bounds fs → Bounds gs → Holds P (W ks (fs, gs)))
        → Holds P (bind (table t) (λ ks. bind (both (length ks) a b) (W ks)))
    of_two a b W h = holds_bind _ (holds_eq (table t)) λ ks k. holds_bind _ (both_bounds ks k a b) λ p j. h ks p.0 p.1 j.0 j.1

  -- ---- the calls on lists

  pub product_bounds : (a b : Factors) → Holds Bounds (lists.product t a b)
  unfolding lists.product units.product
  product_bounds a b = of_two a b _ λ ks fs gs h k. joined_bounds fs gs h.1 k.1

  pub quotient_bounds : (a b : Factors) → Holds Bounds (lists.quotient t a b)
  unfolding lists.quotient units.quotient
  quotient_bounds a b = of_two a b _ λ ks fs gs h k. joined_bounds fs (along inverted gs) h.1 (inverted_bounded gs k.1)

  pub power_bounds : (a : Factors) (e : Exponent) → Holds Bounds (lists.list_power t a e)
  unfolding lists.list_power units.list_power
  power_bounds a e = of_one a _ λ ks k fs h. holds_unless _ SHAPE λ _. raised_bounds e 16 fs h

  pub canonical_bounds : (a : Factors) → Holds Bounds (lists.canonical t a)
  unfolding lists.canonical
  canonical_bounds a = of_one a _ λ ks k fs h. canon_within Bounded still_bounded (rules_in t ks) 16 fs h

  pub reduction_bounds : (a : Factors) → Holds (λ p. Bounds p.0) (lists.reduction t a)
  unfolding lists.reduction reductions.reduction
  reduction_bounds a = of_one a _ λ ks k fs h. holds_bind _ (holds_eq _) λ es e. holds_all (λ s. (reduced (base_rows t) es, s)) (scale_by (rules_in t ks) fs) λ s. reduced_bounds ks k fs es e

  pub smaller_bounds : (a b : Factors) → Holds Bounds (lists.smaller_unit t a b)
  unfolding lists.smaller_unit
  smaller_bounds a b = of_two a b _ λ ks fs gs h k. holds_all (λ first. pick first fs gs) (reductions.smaller_unit (rules_in t ks) fs gs) λ first. pick_is Bounds first {a = fs} {b = gs} h k

  -- a list of the table
  pub listed_bounds : (l : Factors) → Holds Bounds (values.listed t l)
  unfolding values.listed
  listed_bounds l = holds_bind _ (holds_eq (table t)) λ ks k. checked_bounds ks k l
