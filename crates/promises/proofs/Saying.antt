-- What a call over a table says, with values by their bits: the words of the tables of cases.
use mathlib.Core.Bool.{Bool, true, false}
use mathlib.Core.List.{List, [], ◌∷◌, map}
use Prim.Native.Nat.{ℕ, suc, Ordering}
use lib.IntN.{ℤ, pos}
use lib.Ieee as ieee
use lib.Ieee.{binary64, to_bits, of_bits}
use lib.ListN.{length}
use Rattle.exponents.specs.Outcome.{Refusal, Outcome, Ok, Err, unless, bind, each}
use Rattle.exponents.specs.Held.{worked}
use Rattle.floats.specs.Power.{bits_of, raise, power}
use Rattle.units.specs.declared.Factor.{Factor}
use Rattle.units.specs.declared.Factors.{Factors}
use Rattle.units.specs.declared.Quantity.{Quantity}
use Rattle.units.specs.declared.Candidate.{Candidate}
use Rattle.units.specs.declared.Candidates.{Candidates}
use Rattle.units.specs.declared.Rows.{Rows}
use Rattle.units.specs.Lists as factors
use Rattle.units.specs.Lists.{pack, factor_fault, some, checked, both, with_exponent, joined, inverted, raised}
use Rattle.lent.specs.Lent.{over, lent_rows_lem}
use Rattle.tables.specs.Lists.{base_at, base}
use Rattle.keys.specs.Key as keys
use Rattle.keys.specs.Key.{multiple, whole, wholes, divisor, below, turn, shrink, key, entry, entries, other, first}
use Rattle.tables.specs.Scale.{raise as raisedBy, raised_to, scale_from_lem}
use Rattle.tables.specs.Rows.{exp_at, scale_at, places, placed, slotted, slots_from, is_base, count, kind_fault, table_fault, row_exps, row_scale, worked_out, row_facts, admit_from, admit}
use Rattle.tables.specs.Order.{key_order, row_order}
use Rattle.keys.specs.Orders.{is_eq}
use Rattle.canonical.specs.Canonical.{place, insert, gather, nonzero, canon, same_list, same_all, all_nought, drop_if}
use Rattle.canonical.specs.Equality as forms
use Rattle.reduction.specs.Multiple.{Maybe, first_base, fits, multiple_of, is_multiple}
use Rattle.reduction.specs.Reduction as reductions
use Rattle.reduction.specs.Reduction.{base_factors, reduced, reduced_scale}
use Rattle.lists.specs.Calls as lists
use Rattle.common.specs.Common.{meet, if_same, with_shared, shared_with_lem, common}
use Rattle.conversion.specs.Conversion.{judged, choose, rescaled, against, unlike, convert_by}
use Rattle.values.specs.Quantities.{made}
use Rattle.values.specs.Calls as values
use Rattle.quantities.specs.Comparisons.{equal_to, ordered}
use Rattle.quantities.specs.Calls as call
use Rattle.sums.specs.Sums.{together, nonzero_sum}
use Rattle.sums.specs.Calls as sums
use Rattle.powers.specs.Whole as whole
use Rattle.powers.specs.Powers as powers
use Rattle.powers.specs.Calls as power-of
use Rattle.targets.specs.Single as single
use Rattle.targets.specs.Groups as groups
use Rattle.simplification.specs.Steps as steps
use Rattle.simplification.specs.Calls as simplification
use Rattle.registry.specs.Registry as registry
use Rattle.registry.specs.Calls as registry-form
use Rattle.promises.specs.Table.{plain}

-- ---- what a call says

pub data Says : Type 0 where
  listed : List Factor → Says
  -- a list, and a scale by its bits
  reduces : List Factor → ℕ → Says
  same : Bool → Says
  multiplies : Maybe → Says
  -- a quantity: its value by its bits, its list, its mark
  gives : ℕ → Factors → Bool → Says
  orders : Ordering → Says
  refuses : Refusal → Says

unfoldable pub says : {A : Type 0} → (A → Says) → Outcome A → Says
says f (Ok a) = f a
says f (Err r) = refuses r

-- a case: what a call says, and what it must say
abbrev pub Case : Type 0
Case = Says × Says

-- ---- lists, quantities by their values' bits, candidates

-- a row alone
abbrev pub only : ℕ → List Factor
only r = plain r (pos 1) ∷ []

-- rows to the exponent 1
abbrev pub units : List ℕ → List Factor
units rs = map (λ r. plain r (pos 1)) rs

abbrev pub marked : ℕ → List Factor → Quantity
marked v l = made true (of_bits binary64 v) l

abbrev pub unmarked : ℕ → List Factor → Quantity
unmarked v l = made false (of_bits binary64 v) l

-- ranks from n on
unfoldable pub ranked : ℕ → List (List Factor) → List Candidate
ranked n [] = []
ranked n (l ∷ ls) = record { unit = pack l; rank = n } ∷ ranked (suc n) ls

abbrev pub candidates : List (List Factor) → Candidates
candidates ls = record { at = ranked 0 ls; len = length ls }

-- ---- the calls

abbrev pub quantity : Quantity → Says
quantity q = gives (to_bits binary64 q.value) q.unit q.mark

module _ (t : Rows) where
  abbrev pub product : List Factor → List Factor → Says
  product l m = says listed (lists.product t (pack l) (pack m))

  abbrev pub quotient : List Factor → List Factor → Says
  quotient l m = says listed (lists.quotient t (pack l) (pack m))

  -- to a whole exponent
  abbrev pub list_power : List Factor → ℤ → Says
  list_power l n = says listed (lists.list_power t (pack l) (record { num = n; den = 1 }))

  abbrev pub canonical : List Factor → Says
  canonical l = says listed (lists.canonical t (pack l))

  abbrev pub reduction : List Factor → Says
  reduction l = says (λ p. reduces p.0 (to_bits binary64 p.1)) (lists.reduction t (pack l))

  abbrev pub same_lists : List Factor → List Factor → Says
  same_lists l m = says same (lists.same_lists t (pack l) (pack m))

  abbrev pub smaller_unit : List Factor → List Factor → Says
  smaller_unit l m = says listed (lists.smaller_unit t (pack l) (pack m))

  abbrev pub is_multiple_of : List Factor → List Factor → Says
  is_multiple_of l m = says multiplies (lists.multiple t (pack l) (pack m))

  abbrev pub reduce : Quantity → Says
  reduce q = says quantity (values.reduce t q)

  abbrev pub convert_to : Quantity → List Factor → Says
  convert_to q l = says quantity (call.convert_to t q (pack l))

  abbrev pub convert_merged : Quantity → List Factor → Says
  convert_merged q l = says quantity (call.convert_merged t q (pack l))

  abbrev pub equal : Quantity → Quantity → Says
  equal q p = says same (call.equal t q p)

  abbrev pub compare : Quantity → Quantity → Says
  compare q p = says orders (call.compare t q p)

  abbrev pub add : Quantity → Quantity → Says
  add q p = says quantity (sums.add t q p)

  abbrev pub subtract : Quantity → Quantity → Says
  subtract q p = says quantity (sums.subtract t q p)

  abbrev pub checked_power : Quantity → Quantity → Says
  checked_power q p = says quantity (power-of.checked_power t q p)

  abbrev pub full_simplify : Quantity → Says
  full_simplify q = says quantity (simplification.full_simplify t q)

  abbrev pub full_simplify_with : Quantity → List (List Factor) → Says
  full_simplify_with q ls = says quantity (registry-form.full_simplify_with t q (candidates ls))

-- `unfolding computed` opens what the calls are worked out by
unfoldable pub computed : Unit {0}
unfolding over lent_rows_lem says ranked unless bind each worked bits_of raise power ieee.add ieee.sub ieee.mul ieee.div ieee.neg ieee.eq ieee.lt ieee.le ieee.is_nan ieee.rem ieee.to_signed to_bits of_bits pack factor_fault some checked both with_exponent joined inverted raised factors.product factors.quotient factors.list_power base_at base multiple whole wholes divisor below turn shrink keys.reduce key entry entries other first raisedBy raised_to scale_from_lem exp_at scale_at places placed slotted slots_from is_base count kind_fault table_fault row_exps row_scale worked_out row_facts admit_from admit key_order row_order place insert gather drop_if nonzero canon is_eq same_list same_all all_nought forms.equal first_base fits multiple_of is_multiple base_factors reduced reduced_scale reductions.reduction reductions.smaller_unit lists.product lists.quotient lists.list_power lists.canonical lists.reduction lists.same_lists lists.smaller_unit lists.multiple meet if_same with_shared shared_with_lem common judged choose rescaled against unlike convert_by whole.is_whole whole.is_beyond whole.whole_exponent powers.raised_to values.reduce equal_to ordered call.convert_to call.convert_merged call.equal call.compare together nonzero_sum sums.summed sums.add sums.subtract power-of.checked_power single.wholly single.search single.single groups.onto groups.groups groups.above groups.greatest groups.share groups.summed groups.fitted groups.target steps.go_on steps.attempt steps.grown steps.converted steps.by_groups steps.toward steps.further steps.simplify simplification.full_simplify registry.lists_from registry.candidate_lists registry.near_one registry.larger registry.close registry.is_single registry.after registry.fitting registry.turn registry.chosen registry.settled registry.registered registry-form.full_simplify_with
computed = tt
