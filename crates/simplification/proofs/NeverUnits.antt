-- What simplification is refused by (01, "Simplification"): where each group's target has the group's base exponents, what leaves the range and FRACTION alone. The conversions of the second and of the third step can't answer UNITS; that to scalar hands it on.
use mathlib.Core.Path.{◌≡◌, refl, sym, ◌∙◌, ap}
use mathlib.Core.Bool.{Bool, true, false, ◌||◌, true≢false}
use mathlib.Core.List.{List, [], ◌∷◌}
use Prim.Native.Nat.{ℕ}
use lib.Dec.{eqb, ltb}
use lib.Ieee.{Float}
use lib.ListN.{length, get_or}
use Rattle.exponents.specs.Outcome.{Refusal, UNITS, FRACTION, number, Outcome, Ok, Err}
use Rattle.exponents.specs.Fractions.{nought, same}
use Rattle.exponents.specs.declared.Exponent.{Exponent}
use Rattle.exponents.proofs.Holds.{Holds, Only, fine, only, take_out, only_out, only_map, only_bind, holds_imp}
use Rattle.exponents.proofs.Halves.{OutOfRange, ranged_only}
use Rattle.exponents.proofs.Rationals.{value}
use Rattle.floats.specs.Power.{one}
use Rattle.units.specs.declared.Factor.{Factor}
use Rattle.exponents.specs.Words.{pick, All}
use Rattle.tables.proofs.Total.{Total}
use Rattle.canonical.specs.Canonical.{canon, same_all, all_nought}
use Rattle.canonical.proofs.Bases.{Agree}
use Rattle.exponents.proofs.Words.{pick_is}
use Rattle.reduction.specs.Multiple.{Maybe, times, none, first_base, fits, multiple_of, is_multiple}
use Rattle.conversion.proofs.Ready.{stands}
use Rattle.conversion.proofs.Faithful.{convert_only}
use Rattle.conversion.proofs.Refusals.{range_not_units, units_not_fraction, sum_only, each_only, base_only, canon_only}
use Rattle.targets.specs.Single.{wholly, search, single}
use Rattle.targets.specs.Groups.{share, summed, fitted, target, groups}
use Rattle.targets.proofs.Multiplied.{single_found}
use Rattle.tables.specs.Rules.{Rules}
use Rattle.conversion.specs.Conversion.{standing, convert}
use Rattle.simplification.proofs.Agreed.{agree_trans, canon_agree}
use Rattle.simplification.specs.Steps.{Amount, go_on, attempt, grown, converted, by_groups, toward, further, simplify}

pub either_only : {A : Type 0} (S : Refusal → Type 0) {a b : Outcome A} (t : Bool) → Only S a → Only S b → Only S (pick t a b)
either_only S t p q = pick_is (Only S) t p q

-- ---- what is made before a conversion refuses only what leaves the range
module _ (S : Refusal → Type 0) (range : (r : Refusal) → OutOfRange r → S r) where
  module _ (bs : List (ℕ → Exponent)) where
    multiple_only : (fs gs : List Factor) → Only S (is_multiple bs fs gs)
    unfolding is_multiple multiple_of fits
    multiple_only fs gs =
        only_bind _ _ (base_only S range bs fs) λ xs _.
        only_bind _ _ (base_only S range bs gs) λ ys _.
        either_only S (same_all xs ys) fine
        (either_only S (all_nought xs || same (get_or ys (first_base xs) nought) nought) fine
        (only_bind _ _ (ranged_only S range _) λ q _. only_map _ (each_only S range _ (λ y. ranged_only S range _) ys)))

    wholly_only : (f : Factor) (m : Maybe) (next : Outcome (List Factor)) → Only S next → Only S (wholly f m next)
    unfolding wholly
    wholly_only f (times q) next h = either_only S (eqb q.den 1) fine h
    wholly_only f none next h = h

    search_only : (c l : List Factor) → Only S (search bs c l)
    unfolding search
    search_only c [] = fine
    search_only c (f ∷ l) = only_bind _ _ (multiple_only c _) λ m _. wholly_only f m (search bs c l) (search_only c l)

    -- the one factor of the second step
    pub single_only : (c : List Factor) → Only S (single bs c)
    unfolding single
    single_only c = either_only S (ltb 1 (length c)) (search_only c c) fine

  fitted_only : (first : ℕ → Exponent) (r : Factor) (l : List Factor) → Only S (fitted first r l)
  unfolding fitted summed share
  fitted_only first r l = only_map _ (sum_only S range _ (λ f. only_bind _ _ (ranged_only S range _) λ p _. ranged_only S range _) nought l)

  -- a group's target
  pub target_only : {A : Type 0} (R : Rules A) (g : List Factor) → Only S (target R g)
  unfolding target
  target_only R [] = fine
  target_only R (f ∷ l) = only_bind _ _ (base_only S range R.bases (f ∷ l)) λ x _. either_only S (all_nought x) fine (fitted_only R.lead _ (f ∷ l))

-- ---- UNITS
abbrev pub NotUnits : Refusal → Type 0
NotUnits r = r ≡ UNITS → ⊥

pub never : {A : Type 0} {o : Outcome A} → Only NotUnits o → o ≡ Err UNITS → ⊥
never h e = only_out h e refl

pub fraction_not_units : NotUnits FRACTION
fraction_not_units e = units_not_fraction (sym e)

-- UNITS goes on to the next step
attempt_only : (S : Refusal → Type 0) (o : Outcome Float) (m : List Factor) (next : Outcome Amount) → Only (λ r. NotUnits r → S r) o → Only S next → Only S (attempt o m next)
unfolding attempt go_on
attempt_only S (Ok v) m next k h = fine
attempt_only S (Err r) m next k h = go (eqb (number r) (number UNITS)) refl
  where
    go : (t : Bool) → eqb (number r) (number UNITS) ≡ t → Only S (pick t next (Err r))
    go true e = h
    go false e = only (only_out k refl (λ q. true≢false (sym (ap (λ s. eqb (number s) (number UNITS)) q) ∙ e)))

module _ (R : Rules Float) (O : Total R.order) where
  -- the target of the group g has its base exponents
  abbrev pub Keeps : List Factor → Type 0
  Keeps g = Holds (λ m. Agree value R.bases g m) (target R g)

  -- those of the groups of the canonical form of l do
  abbrev pub GroupsKeep : List Factor → Type 0
  GroupsKeep l = (c : List Factor) → canon R.order l ≡ Ok c → All Keeps (groups R.alike c)

  -- ---- refused by what leaves the range and by FRACTION alone
  module _ (S : Refusal → Type 0) (range : (r : Refusal) → OutOfRange r → S r) (fraction : S FRACTION) where
    -- a conversion between lists that agree
    pub agreeing_only : (l m : List Factor) (v : Float) → Agree value R.bases l m → Only S (convert R l m v)
    agreeing_only l m v a = convert_only R value O standing (stands value) S range fraction l m v (λ n. absurd (n a))

    -- any other, or by UNITS
    tried_only : (l m : List Factor) (v : Float) → Only (λ r. NotUnits r → S r) (convert R l m v)
    tried_only l m v = convert_only R value O standing (stands value) (λ r. NotUnits r → S r) (λ r h _. range r h) (λ _. fraction) l m v (λ _ n. absurd (n refl))

    grown_only : (s : Float) (u g : List Factor) → Keeps g → Only S (grown R s u g)
    unfolding grown
    grown_only s u g k = only_bind _ _ (target_only S range R g) λ m e. only_map _ (agreeing_only g m one (take_out k e))

    converted_only : (s : Float) (u : List Factor) (gs : List (List Factor)) → All Keeps gs → Only S (converted R s u gs)
    unfolding converted
    converted_only s u [] h = only_map _ (canon_only S range R.order u)
    converted_only s u (g ∷ gs) h = only_bind _ _ (grown_only s u g h.0) λ p _. converted_only p.0 p.1 gs h.1

    pub by_groups_only : (v : Float) (c : List Factor) → All Keeps (groups R.alike c) → Only S (by_groups R v c)
    unfolding by_groups
    by_groups_only v c h = only_map _ (converted_only one [] (groups R.alike c) h)

    toward_only : (v : Float) (l m : List Factor) (next : Outcome Amount) → Only S next → Only S (toward R v l m next)
    unfolding toward
    toward_only v l [] next h = h
    toward_only v l (f ∷ m) next h = attempt_only S _ (f ∷ m) next (tried_only l (f ∷ m) v) h

    further_only : (v : Float) (l : List Factor) → GroupsKeep l → Only S (further R v l)
    unfolding further
    further_only v l k =
        only_bind _ _ (canon_only S range R.order l) λ c e.
        only_bind _ _ (single_only S range R.bases c) λ m _.
        toward_only v l m (by_groups R v c) (by_groups_only v c (k c e))

    pub simplify_only : (v : Float) (l : List Factor) → GroupsKeep l → Only S (simplify R v l)
    unfolding simplify
    simplify_only v l k = attempt_only S _ [] (further R v l) (tried_only l [] v) (further_only v l k)

  -- the conversion of a group to its target is never refused by UNITS
  pub group_converts : (g : List Factor) → Keeps g → (v : Float) → Holds (λ m. convert R g m v ≡ Err UNITS → ⊥) (target R g)
  group_converts g k v = holds_imp k λ m a. never (agreeing_only NotUnits range_not_units fraction_not_units g m v a)

  -- nor is that of the second step: its factor has the base exponents of the list, so that the first one that fits ends the search
  pub second_converts : (l c : List Factor) → canon R.order l ≡ Ok c → (f : Factor) (m : List Factor) → single R.bases c ≡ Ok (f ∷ m) → (v : Float) → convert R l (f ∷ m) v ≡ Err UNITS → ⊥
  second_converts l c e f m s v =
      never (agreeing_only NotUnits range_not_units fraction_not_units l (f ∷ m) v
      (agree_trans value R.bases l c (f ∷ m) (take_out (canon_agree value R O l) e) (take_out (single_found R.bases c) s)))
