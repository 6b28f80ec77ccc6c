-- What holds of the factors of a list, whatever exponents within the rule they have, holds of its groups, of the one factor that it is a whole power of, and of a group's target; how many these are; and that the last two are resolved where the list is.
use mathlib.Core.Path.{◌≡◌, refl}
use mathlib.Core.Bool.{Bool, true, false, ◌||◌}
use mathlib.Core.List.{List, [], ◌∷◌}
use Prim.Native.Nat.{ℕ, suc, ◌≤◌}
use native.Mathlib.Omega.{arith}
use borrow.Author.Tests.{ltb-true}
use lib.Dec.{eqb, ltb}
use lib.ListN.{length, get_or}
use Rattle.exponents.specs.Outcome.{Outcome, Ok, each}
use Rattle.exponents.specs.Fractions.{nought, unit, same, faulty, mul?, div?}
use Rattle.exponents.specs.declared.Exponent.{Exponent}
use Rattle.exponents.proofs.Holds.{holds_all, Holds, held, take_out, holds_by, holds_any, holds_imp, holds_map, holds_bind}
use Rattle.exponents.proofs.Sound.{sum_sound, nought_sound}
use Rattle.units.specs.declared.Factor.{Factor}
use Rattle.units.specs.Lists.{factor_fault}
use Rattle.tables.specs.Lists.{base}
use Rattle.exponents.specs.Words.{pick, All}
use Rattle.tables.specs.Order.{atom, of}
use Rattle.tables.specs.Rules.{Rules}
use Rattle.tables.specs.Held.{View, Stands, pack_items, Resolved}
use Rattle.tables.specs.declared.Items.{Items}
use Rattle.canonical.specs.Canonical.{same_all, all_nought}
use Rattle.exponents.proofs.Words.{pick_is}
use Rattle.canonical.proofs.Keeping.{each_faultless, none_faulty, Kept, kept_with}
use Rattle.reduction.specs.Multiple.{Maybe, times, none, first_base, fits, multiple_of, is_multiple}
use Rattle.reduction.proofs.Fitting.{quotient_sound}
use Rattle.targets.specs.Single.{wholly, search, single}
use Rattle.targets.specs.Groups.{onto, groups, greatest, summed, fitted, target}
use Rattle.targets.proofs.Searching.{unit_rule}
use Rattle.targets.proofs.Grouping.{greatest_all}

-- ---- multiples that are worked out keep the rule of an exponent
abbrev pub Fine : Maybe → Type 0
Fine (times q) = faulty q ≡ false
Fine none = Unit {0}

fits_fine : (xs ys : List Exponent) (q : Exponent) → faulty q ≡ false → Holds Fine (fits xs ys q)
unfolding fits
fits_fine xs ys q h = holds_all _ (each (λ y. mul? y q) ys) λ zs. pick_is Fine (same_all zs xs) {a = times q} {b = none} h tt

multiple_fine : (xs ys : List Exponent) → Holds Fine (multiple_of xs ys)
unfolding multiple_of
multiple_fine xs ys =
    let x = get_or xs (first_base xs) nought in
    let y = get_or ys (first_base xs) nought in
    pick_is (Holds Fine) (same_all xs ys) (held {a = times unit} unit_rule)
    (pick_is (Holds Fine) (all_nought xs || same y nought) (held {a = none} tt)
    (holds_bind _ (holds_by _ (div? x y) (quotient_sound x y)) (fits_fine xs ys)))

pub is_fine : (bs : List (ℕ → Exponent)) (l m : List Factor) → Holds Fine (is_multiple bs l m)
unfolding is_multiple
is_fine bs l m = holds_bind _ (holds_any (base bs l)) λ xs _. holds_bind _ (holds_any (base bs m)) λ ys _. multiple_fine xs ys

module _ (Q : Factor → Type 0) where
  -- a list of at most n factors, each with Q
  abbrev pub Within : ℕ → List Factor → Type 0
  Within n l = (length l ≤ n) × All Q l

  pub none_within : (n : ℕ) → Within n []
  none_within n = (omega arith, tt)

  -- ---- groups: no more than there are factors
  module _ (alike : ℕ → ℕ → Bool) where
    abbrev Parted : ℕ → List (List Factor) → Type 0
    Parted n gs = (length gs ≤ n) × All (All Q) gs

    onto_parted : (n : ℕ) (f : Factor) (gs : List (List Factor)) → Q f → Parted n gs → Parted (suc n) (onto alike f gs)
    unfolding onto
    onto_parted n f [] p h = (omega arith, ((p, tt), tt))
    onto_parted n f ([] ∷ gs) p h = (omega (arith, h.0), ((p, tt), h.1.1))
    onto_parted n f ((g ∷ l) ∷ gs) p h = pick_is (Parted (suc n)) (alike f.row g.row) (omega (arith, h.0), ((p, h.1.0), h.1.1)) (omega (arith, h.0), ((p, tt), h.1))

    pub groups_parted : (l : List Factor) → All Q l → Parted (length l) (groups alike l)
    unfolding groups
    groups_parted [] h = (omega arith, tt)
    groups_parted (f ∷ l) h = onto_parted (length l) f (groups alike l) h.0 (groups_parted l h.1)

  -- ---- where Q holds of a factor whatever exponent within the rule it has
  module _ (stays : (f : Factor) (e : Exponent) → Q f → faulty e ≡ false → Q (of (atom f) e)) where
    one_within : (f : Factor) (e : Exponent) → Q f → faulty e ≡ false → Within 1 (of (atom f) e ∷ [])
    one_within f e p s = (omega arith, (stays f e p s, tt))

    -- one factor to a whole exponent
    module _ (bs : List (ℕ → Exponent)) where
      wholly_within : (f : Factor) (m : Maybe) (next : Outcome (List Factor)) → Q f → Fine m → Holds (Within 1) next → Holds (Within 1) (wholly f m next)
      unfolding wholly
      wholly_within f (times q) next p s h = pick_is (Holds (Within 1)) (eqb q.den 1) (held (one_within f q p s)) h
      wholly_within f none next p s h = h

      pub search_within : (c l : List Factor) → All Q l → Holds (Within 1) (search bs c l)
      unfolding search
      search_within c [] h = held (none_within 1)
      search_within c (f ∷ l) h = holds_bind _ (is_fine bs c (of (atom f) unit ∷ [])) λ m s. wholly_within f m (search bs c l) h.0 s (search_within c l h.1)

      -- sought only among two or more
      pub single_within : (c : List Factor) → All Q c → Holds (Within (length c)) (single bs c)
      unfolding single
      single_within c h = go (ltb 1 (length c)) refl
        where
          go : (t : Bool) → ltb 1 (length c) ≡ t → Holds (Within (length c)) (pick t (search bs c c) (Ok []))
          go true e = holds_imp (search_within c c h) λ m k. (omega (arith, ltb-true 1 (length c) e, k.0), k.1)
          go false e = held (none_within (length c))

    -- a group's target
    module _ {A : Type 0} (R : Rules A) where
      fitted_within : (r : Factor) (l : List Factor) → Q r → Holds (Within 1) (fitted R.lead r l)
      unfolding fitted summed
      fitted_within r l p = holds_map _ (sum_sound _ nought l nought_sound) λ e s. one_within r e p s

      pub target_within : (g : List Factor) → All Q g → Holds (Within 1) (target R g)
      unfolding target
      target_within [] h = held (none_within 1)
      target_within (f ∷ l) h =
          holds_bind _ (holds_any (base R.bases (f ∷ l))) λ x _. pick_is (Holds (Within 1)) (all_nought x) (held (none_within 1))
          (fitted_within (greatest R.is_base f l) (f ∷ l) (greatest_all Q R.is_base f l h.0 h.1))

-- ---- so they are resolved where the list is
module _ {v : View} {l : Items} {fs : List Factor} (r : Resolved v l fs) where
  resolved : {o : Outcome (List Factor)} → ((Q : Factor → Type 0) → ((f : Factor) (e : Exponent) → Q f → faulty e ≡ false → Q (of (atom f) e)) → All Q fs → Holds (Within Q 1) o) → (m : List Factor) → o ≡ Ok m → (x : Items) → x ≡ pack_items v m → Resolved v x m
  resolved within m e x is =
      let k = take_out (within Kept kept_with (each_faultless factor_fault fs r.shaped)) e in
      let s = take_out (within (λ f. Stands f.row v.among) (λ f e p q. p) r.named) e in
      record { is = is; short = omega (arith, k.0); shaped = none_faulty factor_fault m k.1; named = s.1; placed = r.placed }

  pub search_resolved : (bs : List (ℕ → Exponent)) (m : List Factor) → search bs fs fs ≡ Ok m → (x : Items) → x ≡ pack_items v m → Resolved v x m
  search_resolved bs = resolved (λ Q stays h. search_within Q stays bs fs fs h)

  pub target_resolved : {A : Type 0} (R : Rules A) (m : List Factor) → target R fs ≡ Ok m → (x : Items) → x ≡ pack_items v m → Resolved v x m
  target_resolved R = resolved (λ Q stays h. target_within Q stays R fs h)
