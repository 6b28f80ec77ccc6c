-- The one factor of the second step (01, "Simplification"), raised to the multiple, has the base exponents of the list that it was found for.
use mathlib.Core.Path.{◌≡◌, refl, sym, ◌∙◌, ap}
use mathlib.Core.Bool.{Bool, true, false, ◌||◌}
use mathlib.Core.List.{List, [], ◌∷◌}
use Prim.Native.Nat.{ℕ}
use lib.Dec.{eqb, ltb}
use lib.ListN.{length, get_or}
use Rattle.exponents.specs.Outcome.{Outcome, Ok, bind, each}
use Rattle.exponents.specs.Fractions.{nought, unit, same, faulty, ranged, mul?, div?}
use Rattle.exponents.specs.declared.Exponent.{Exponent}
use Rattle.exponents.proofs.Equality.{and_left, and_right}
use Rattle.exponents.proofs.Exact.{mul-unit}
use Rattle.exponents.proofs.Holds.{Holds, held, take_out, holds_eq, holds_map, holds_bind}
use Rattle.exponents.proofs.InRange.{sound, ranged_given}
use Rattle.exponents.proofs.Rationals.{value}
use Rattle.exponents.proofs.Totals.{worth, total}
use Rattle.exponents.proofs.Value.{Value}
use Rattle.units.specs.declared.Factor.{Factor}
use Rattle.tables.specs.Lists.{base}
use Rattle.exponents.specs.Words.{pick}
use Rattle.exponents.proofs.Each.{Along, done, next, each_holds}
use Rattle.tables.specs.Order.{atom, of}
use Rattle.canonical.specs.Canonical.{same_all, all_nought}
use Rattle.canonical.proofs.Algebra.{exact}
use Rattle.canonical.proofs.Bases.{Agree, Exactly, base_exact, base_decides}
use Rattle.exponents.proofs.Words.{pick_is}
use Rattle.reduction.specs.Multiple.{Maybe, times, none, first_base, fits, multiple_of, is_multiple}
use Rattle.reduction.proofs.Fitting.{quotient_sound}
use Rattle.targets.specs.Single.{wholly, search, single}
use Rattle.targets.proofs.Dividing.{Division, division}

-- the row and prefix of f to the exponent e, alone
abbrev pub alone : Factor → Exponent → List Factor
alone f e = of (atom f) e ∷ []

-- ---- the products of a factor's base exponents by q
module _ (W : Value) (D : Division W) (c : List Factor) (f : Factor) (q : Exponent) (once : mul? q unit ≡ Ok q) where
  -- at one base row: x is the list's, y the factor's at exponent 1, and the product is x
  at_base : (b : ℕ → Exponent) (x y z : Exponent) → Exactly W c b x → Exactly W (alone f unit) b y → mul? y q ≡ Ok z → same z x ≡ true → exact W c b ≡ exact W (alone f q) b
  unfolding exact total
  at_base b x y z p r m s =
      p.is
      ∙ sym (ap (worth W) (W.same_is z x s))
      ∙ take_out (W.mul?-act y q) m W.one
      ∙ D.act_comm y q W.one
      ∙ ap (W.act q) (sym r.is ∙ W.add-zero _)
      ∙ sym (take_out (W.mul?-act q unit) once (worth W (b f.row)))
      ∙ sym (W.add-zero _)

  agrees : {bs : List (ℕ → Exponent)} {xs ys zs : List Exponent} → Along (Exactly W c) bs xs → Along (Exactly W (alone f unit)) bs ys → Along (λ y z. mul? y q ≡ Ok z) ys zs → same_all zs xs ≡ true → Agree W bs c (alone f q)
  unfolding same_all
  agrees done done done e = tt
  agrees (next {b = x} {m = xs} p ps) (next r rs) (next {b = z} {m = zs} m ms) e =
      (at_base _ x _ z p r m (and_left (same z x) (same_all zs xs) e), agrees ps rs ms (and_right (same z x) (same_all zs xs) e))

-- ---- the multiple, in the rational numbers; bs are the base rows' exponents
module _ (bs : List (ℕ → Exponent)) (c : List Factor) where
  abbrev Agrees : List Factor → Type 0
  Agrees m = Agree value bs c m

  -- f to the multiple has the base exponents of c
  abbrev Multiplies : Factor → Maybe → Type 0
  Multiplies f (times q) = Agrees (alone f q)
  Multiplies f none = Unit {0}

  module _ (f : Factor) (xs ys : List Exponent) (p : base bs c ≡ Ok xs) (r : base bs (alone f unit) ≡ Ok ys) where
    once : (q : Exponent) → faulty q ≡ false → mul? q unit ≡ Ok q
    once q h = let s = sound q h in ap ranged (mul-unit s.1) ∙ ranged_given q s.0

    fits_agrees : (q : Exponent) → faulty q ≡ false → Holds (Multiplies f) (fits xs ys q)
    unfolding fits
    fits_agrees q h = holds_map _ (holds_eq _) λ zs e. go zs e (same_all zs xs) refl
      where
        go : (zs : List Exponent) → each (λ y. mul? y q) ys ≡ Ok zs → (t : Bool) → same_all zs xs ≡ t → Multiplies f (pick t (times q) none)
        go zs e true s = agrees value division c f q (once q h) (take_out (base_exact value bs c) p) (take_out (base_exact value bs (alone f unit)) r) (take_out (each_holds (λ y. mul? y q) (λ y. holds_eq (mul? y q)) ys) e) s
        go zs e false s = tt

    multiple_agrees : Holds (Multiplies f) (multiple_of xs ys)
    unfolding multiple_of
    multiple_agrees = go (same_all xs ys) refl
      where
        go : (t : Bool) → same_all xs ys ≡ t → Holds (Multiplies f) (pick t (Ok (times unit)) (pick (all_nought xs || same (get_or ys (first_base xs) nought) nought) (Ok none)
            (bind (div? (get_or xs (first_base xs) nought) (get_or ys (first_base xs) nought)) (fits xs ys))))
        go true e = held {a = times unit} ((base_decides value bs c (alone f unit) xs ys p r).yea e)
        go false e = pick_is (Holds (Multiplies f)) (all_nought xs || same (get_or ys (first_base xs) nought) nought) (held {a = none} tt) (holds_bind _ (holds_eq (div? (get_or xs (first_base xs) nought) (get_or ys (first_base xs) nought))) λ q d. fits_agrees q (quotient_sound _ _ q d))

  -- ---- the search

  -- no factor, or one with the base exponents of c
  abbrev pub Found : List Factor → Type 0
  Found [] = Unit {0}
  Found (f ∷ m) = Agrees (f ∷ m)

  wholly_found : (f : Factor) (m : Maybe) (after : Outcome (List Factor)) → Multiplies f m → Holds Found after → Holds Found (wholly f m after)
  unfolding wholly
  wholly_found f (times q) after h k = pick_is (Holds Found) (eqb q.den 1) (held {a = alone f q} h) k
  wholly_found f none after h k = k

  search_found : (l : List Factor) → Holds Found (search bs c l)
  unfolding search is_multiple
  search_found [] = held tt
  search_found (f ∷ l) =
      holds_bind _ (holds_bind _ (holds_eq (base bs c)) λ xs p. holds_bind _ (holds_eq (base bs (alone f unit))) λ ys r. multiple_agrees f xs ys p r) λ m h.
      wholly_found f m (search bs c l) h (search_found l)

  -- THEOREM: what the second step finds has the base exponents of the list
  pub single_found : Holds Found (single bs c)
  unfolding single
  single_found = pick_is (Holds Found) (ltb 1 (length c)) (search_found c) (held tt)
