-- The two conversions beside each other as calls (02, order 3), for any table, quantity and list: the laws of `Both` at `convert_to` and `convert_merged`. What comes before the conversion is refused alike by both.
use mathlib.Core.Path.{◌≡◌, sym, ◌∙◌, ap}
use mathlib.Core.Logic.{◌↔◌}
use mathlib.Core.List.{List, []}
use lib.ListN.{length}
use Rattle.exponents.specs.Outcome.{Refusal, UNITS, Outcome, Ok, Err, apply, bind}
use Rattle.exponents.proofs.Holds.{Only, only_map, either, bind_given, bind_refused}
use Rattle.exponents.proofs.Halves.{OutOfRange}
use Rattle.exponents.proofs.Rationals as rational
use Rattle.units.specs.declared.Factor.{Factor}
use Rattle.units.specs.declared.Factors.{Factors}
use Rattle.units.specs.declared.Quantity.{Quantity}
use Rattle.units.specs.declared.Rows.{Rows}
use Rattle.units.specs.Lists.{both}
use Rattle.tables.specs.Rows.{Facts, table}
use Rattle.tables.specs.Order.{atom, of, order_in}
use Rattle.tables.specs.Rules.{rules_in}
use Rattle.canonical.specs.Canonical.{canon}
use Rattle.canonical.proofs.Total.{order_in_total}
use Rattle.common.specs.Common.{common}
use Rattle.conversion.specs.Conversion.{standing, convert, cancelling}
use Rattle.conversion.proofs.Refusals.{given_not_refused}
use Rattle.conversion.proofs.Ready.{stands, merges}
use Rattle.values.specs.Quantities.{fresh}
use Rattle.quantities.specs.Calls.{convert_to, convert_merged}
use Rattle.halves.proofs.First.{apply_exactly}
use Rattle.cancels.proofs.Both as rules
use Rattle.cancels.proofs.Both.{InReach}

-- two that go on from one outcome: C holds of them where it is refused, and of what they make of its answer
bind_both : {A B : Type 0} (C : Outcome B → Outcome B → Type 0) → ((r : Refusal) → C (Err r) (Err r)) → (o : Outcome A) (f g : A → Outcome B) → ((a : A) → C (f a) (g a)) → C (bind o f) (bind o g)
unfolding bind
bind_both C h (Ok a) f g k = k a
bind_both C h (Err r) f g k = h r

apply_reach : {A B : Type 0} (f : A → B) (o : Outcome A) → InReach (apply f o) → InReach o
apply_reach f o h r k e = h r k (ap (apply f) e)

-- in a table one row and prefix have one size, whatever the exponent
one_size : (t : Rows) (ks : List Facts) (f g : Factor) → atom f ≡ atom g → (rules_in t ks).size f ≡ (rules_in t ks).size g
one_size t ks f g e = ap (λ u. (rules_in t ks).size (of u f.exponent)) e

module _ (t : Rows) (q : Quantity) (m : Factors) where
  -- ---- before the conversion

  -- THEOREM: a table that is refused is refused alike by both
  pub before-table : (r : Refusal) → table t ≡ Err r → (convert_to t q m ≡ Err r) × (convert_merged t q m ≡ Err r)
  unfolding convert_to convert_merged
  before-table r e = (bind_refused _ e, bind_refused _ e)

  -- THEOREM: and so are lists
  pub before-lists : (ks : List Facts) → table t ≡ Ok ks → (r : Refusal) → both (length ks) q.unit m ≡ Err r → (convert_to t q m ≡ Err r) × (convert_merged t q m ≡ Err r)
  unfolding convert_to convert_merged
  before-lists ks k r e = (bind_given _ k ∙ bind_refused _ e, bind_given _ k ∙ bind_refused _ e)

  -- ---- what holds of both: where they are refused alike, and of what the two conversions give
  beside : (C : Outcome Quantity → Outcome Quantity → Type 0) → ((r : Refusal) → C (Err r) (Err r)) →
      ((ks : List Facts) (fs gs : List Factor) → C (apply (λ v. fresh v gs) (convert (rules_in t ks) fs gs q.value)) (apply (λ v. fresh v gs) (cancelling (rules_in t ks) fs gs q.value))) → C (convert_to t q m) (convert_merged t q m)
  unfolding convert_to convert_merged
  beside C h k = bind_both C h (table t) _ _ λ ks. bind_both C h (both (length ks) q.unit m) _ _ λ p. k ks p.0 p.1

  -- THEOREM: where neither leaves the range, one is refused by UNITS exactly if the other is
  pub units_alike : InReach (convert_to t q m) → InReach (convert_merged t q m) → (convert_to t q m ≡ Err UNITS) ↔ (convert_merged t q m ≡ Err UNITS)
  units_alike =
      beside (λ o p. InReach o → InReach p → (o ≡ Err UNITS) ↔ (p ≡ Err UNITS)) (λ r _ _. (λ e. e, λ e. e)) λ ks fs gs h h'.
      let old = stands rational.value in
      let new = merges rational.value (rules_in t ks) (order_in_total ks) in
      let both_ways = rules.units_alike (rules_in t ks) rational.value (order_in_total ks) in (
        λ e. ap (apply _) (both_ways standing (canon (order_in ks)) old new fs gs q.value (apply_reach _ _ h) (apply_reach _ _ h') ((apply_exactly _ _ UNITS).0 e)),
        λ e. ap (apply _) (both_ways (canon (order_in ks)) standing new old fs gs q.value (apply_reach _ _ h') (apply_reach _ _ h) ((apply_exactly _ _ UNITS).0 e)),
      )

  -- THEOREM: where the old one answers, the new one answers or is refused by what leaves the range
  pub old_answers : (p : Quantity) → convert_to t q m ≡ Ok p → Only OutOfRange (convert_merged t q m)
  old_answers =
      beside (λ o n. (p : Quantity) → o ≡ Ok p → Only OutOfRange n) (λ r p e. absurd (given_not_refused (sym e))) λ ks fs gs p e.
      either (convert (rules_in t ks) fs gs q.value)
      (λ w g. only_map _ (rules.old_answers (rules_in t ks) rational.value (order_in_total ks) (one_size t ks) fs gs q.value w g))
      (λ r g. absurd (given_not_refused (sym e ∙ ap (apply _) g)))

  -- THEOREM: the own list canonical, nothing in common with the target: the same bits, or the same refusal
  pub same_bits : (ks : List Facts) → table t ≡ Ok ks → (fs gs cm : List Factor) → both (length ks) q.unit m ≡ Ok (fs, gs) →
      canon (rules_in t ks).order fs ≡ Ok fs → canon (rules_in t ks).order gs ≡ Ok cm → common (rules_in t ks).order fs cm ≡ [] → convert_merged t q m ≡ convert_to t q m
  unfolding convert_to convert_merged
  same_bits ks k fs gs cm h ef eg e =
      bind_given _ k ∙ bind_given _ h ∙ ap (apply _) (rules.same_bits (rules_in t ks) fs gs cm q.value ef eg e) ∙ sym (bind_given _ k ∙ bind_given _ h)
