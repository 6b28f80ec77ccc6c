-- A list reduced to base rows has the base exponents it was reduced from: a base row has 1 at itself and 0 at the other base rows, so that each base factor counts at its own row alone.
use mathlib.Core.Path.{◌≡◌, refl, sym, ◌∙◌, ap, ap₂, subst}
use mathlib.Core.List.{List, [], ◌∷◌, map}
use Prim.Native.Nat.{ℕ, zero, suc, ◌+◌, ◌<◌}
use native.Mathlib.Nat as nat
use native.Mathlib.Omega.{arith}
use borrow.Author.Tests.{eq-eqb, ne_eqb}
use lib.ListN.{length, get_or}
use Rattle.exponents.specs.Outcome.{Ok}
use Rattle.exponents.specs.Fractions.{nought, unit}
use Rattle.exponents.specs.declared.Exponent.{Exponent}
use Rattle.exponents.proofs.Exact.{mul-unit, unit_low}
use Rattle.exponents.proofs.Holds.{take_out}
use Rattle.exponents.proofs.Rationals.{value, q≡, norm, norm_low}
use Rattle.exponents.proofs.Totals.{worth, zero-add, act_zero, total}
use Rattle.exponents.proofs.Value.{Value}
use Rattle.units.specs.declared.Factor.{Factor}
use Rattle.units.specs.declared.Rows.{Rows}
use Rattle.tables.specs.declared.Slot.{Slot}
use Rattle.tables.specs.Lists.{base}
use Rattle.exponents.specs.Words.{pick, All}
use Rattle.tables.specs.Rows.{Facts, nobody, exp_at, places, self_exp, rows_of, admitted, admit, base_rows}
use Rattle.tables.specs.Rules.{rules_in}
use Rattle.tables.specs.Held.{no_slot}
use Rattle.exponents.proofs.Each.{all_at, Along, next, all_imp, along_length}
use Rattle.tables.proofs.Filled.{admit-rows, base_exps}
use Rattle.tables.proofs.Terms.{get_map, long_bases, nil_row}
use Rattle.canonical.proofs.Algebra.{exact, nonzero_exact}
use Rattle.canonical.proofs.Bases.{Agree, Exactly, base_exact}
use Rattle.reduction.specs.Reduction.{base_factors, reduced}
use Rattle.registry.proofs.BaseSlots.{Other, Apart, slots_apart, slots-base}

-- ---- base factors at the base row u: where b counts 1 at u itself, 0 at the others
module _ (W : Value) (own : worth W unit ≡ W.one) (b : ℕ → Exponent) where
  abbrev Counts : Slot → Slot → Type 0
  Counts u s = b s.row ≡ self_exp s.row u

  other_counts : (u s : Slot) (e : Exponent) → Counts u s → (u.row ≡ s.row → ⊥) → W.act e (worth W (b s.row)) ≡ W.zero
  other_counts u s e k n =
      ap (λ x. W.act e (worth W x)) (k ∙ ap (λ t. pick t unit nought) (ne_eqb u.row s.row n)) ∙ ap (W.act e) (W.nil_act W.one) ∙ act_zero W e

  own_counts : (s : Slot) (e : Exponent) → Counts s s → W.act e (worth W (b s.row)) ≡ worth W e
  own_counts s e k = ap (λ x. W.act e (worth W x)) (k ∙ ap (λ t. pick t unit nought) (eq-eqb s.row s.row refl)) ∙ ap (W.act e) own

  none_exact : (u : Slot) (ss : List Slot) (es : List Exponent) → All (Other u) ss → All (Counts u) ss → exact W (base_factors ss es) b ≡ W.zero
  unfolding base_factors exact total
  none_exact u [] es h k = refl
  none_exact u (s ∷ ss) [] h k = refl
  none_exact u (s ∷ ss) (e ∷ es) h k = ap₂ W.add (other_counts u s e k.0 (λ q. h.0 (sym q))) (none_exact u ss es h.1 k.1) ∙ W.add-zero W.zero

  one_exact : (ss : List Slot) (es : List Exponent) (j : ℕ) (d : Slot) (x : Exponent) → j < length ss → length es ≡ length ss → Apart ss → All (Counts (get_or ss j d)) ss →
      exact W (base_factors ss es) b ≡ worth W (get_or es j x)
  unfolding base_factors exact total
  one_exact [] es j d x h n a k = absurd (omega arith)
  one_exact (s ∷ ss) [] j d x h n a k = absurd (omega arith)
  one_exact (s ∷ ss) (e ∷ es) zero d x h n a k = ap₂ W.add (own_counts s e k.0) (none_exact s ss es a.0 k.1) ∙ W.add-zero (worth W e)
  one_exact (s ∷ ss) (e ∷ es) (suc j) d x h n a k =
      let p : j < length ss = omega arith in
      ap₂ W.add (other_counts (get_or ss j d) s e k.0 (all_at (Other s) ss j d p a.0)) (one_exact ss es j d x p (omega arith) a.1 k.1) ∙ zero-add W (worth W (get_or es j x))

-- ---- lists compared at the base rows from p on
module _ (W : Value) (ks : List Facts) (l m : List Factor) where
  agrees_from : (p n : ℕ) (xs : List Exponent) → Along (Exactly W l) (map (exp_at ks) (places p n)) xs → ((j : ℕ) → j < n → exact W m (exp_at ks (p + j)) ≡ worth W (get_or xs j nought)) →
      Agree W (map (exp_at ks) (places p n)) l m
  unfolding places
  agrees_from p zero xs a f = tt
  agrees_from p (suc n) [] a f = elim a [ ]
  agrees_from p (suc n) (x ∷ xs) (next q a) f = (
    q.is ∙ sym (subst (λ i. exact W m (exp_at ks i) ≡ worth W x) (omega arith) (f 0 (omega arith))),
    agrees_from (suc p) n xs a (λ j h. subst (λ i. exact W m (exp_at ks i) ≡ worth W (get_or xs j nought)) (omega arith) (f (suc j) (omega arith))),
  )

unit_worth : worth value unit ≡ value.one
unit_worth = q≡ (mul-unit (norm unit).1 ∙ norm_low unit unit_low)

-- ---- in an admitted table
module _ (t : Rows) (ks : List Facts) (e : admit t ≡ admitted ks) where
  -- a base row has 1 at itself
  pub self_exps : All (λ s. (get_or ks s.row nobody).exps ≡ map (self_exp s.row) (base_rows t)) (base_rows t)
  self_exps = all_imp (base_rows t) (λ s h. base_exps (base_rows t) (rows_of t) ks (admit-rows t ks e) nil_row s.row h.0 h.1) (slots-base (rows_of t) nil_row)

  counts : (j : ℕ) → j < length (base_rows t) → All (Counts value unit_worth (exp_at ks j) (get_or (base_rows t) j no_slot)) (base_rows t)
  unfolding exp_at
  counts j h = all_imp (base_rows t) (λ s p. ap (λ l. get_or l j nought) p ∙ get_map (self_exp s.row) (base_rows t) j no_slot nought h) self_exps

  -- THEOREM: the list reduced agrees with the list
  pub reduced_agrees : (l : List Factor) (xs : List Exponent) → base (rules_in t ks).bases l ≡ Ok xs → Agree value (rules_in t ks).bases l (reduced (base_rows t) xs)
  unfolding reduced
  reduced_agrees l xs p =
      let a = take_out (base_exact value (rules_in t ks).bases l) p in
      agrees_from value ks l (reduced (base_rows t) xs) 0 (length (base_rows t)) xs a λ j h.
      rw (nat.zero-add j)
      (nonzero_exact value (base_factors (base_rows t) xs) (exp_at ks j)
      ∙ one_exact value unit_worth (exp_at ks j) (base_rows t) xs j no_slot nought h (along_length a ∙ long_bases (length (base_rows t)) ks) (slots_apart (rows_of t)) (counts j h))
