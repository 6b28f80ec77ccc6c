-- A definition put in place of its unit, raised to the unit's exponent, keeps every base exponent of a list.
use mathlib.Core.Path.{◌≡◌, sym, subst}
use mathlib.Core.List.{List, [], ◌∷◌, ◌++◌, map}
use Prim.Native.Nat.{ℕ, zero, suc, ◌+◌, ◌<◌, ◌≤◌}
use native.Mathlib.Omega.{arith}
use lib.Ieee.{Float}
use lib.ListN.{length, get_or}
use Rattle.exponents.specs.Outcome.{each}
use Rattle.exponents.specs.Fractions.{nought}
use Rattle.exponents.specs.declared.Exponent.{Exponent}
use Rattle.exponents.proofs.Holds.{Holds, take_out, holds_by, holds_imp}
use Rattle.exponents.proofs.Value.{Value}
use Rattle.exponents.proofs.Totals.{worth}
use Rattle.units.specs.declared.Factor.{Factor}
use Rattle.units.specs.declared.Kind.TheVariants.{Derived}
use Rattle.units.specs.declared.Row.{Row}
use Rattle.units.specs.Lists.{raised}
use Rattle.tables.specs.Rows.{Facts, exp_at, places, bases, def_of, admitted, admit_from}
use Rattle.tables.specs.declared.Slot.{Slot}
use Rattle.exponents.proofs.Each.{Along, done, next}
use Rattle.tables.proofs.Filled.{derived_exps}
use Rattle.canonical.proofs.Algebra.{exact, cons, exact_join, exact_power}
use Rattle.canonical.proofs.Bases.{Agree, base_exact}

-- what stands along the places p to p + n
along_at : {R : (ℕ → Exponent) → Exponent → Type 0} (g : ℕ → ℕ → Exponent) (p n : ℕ) {xs : List Exponent} → Along R (map g (places p n)) xs →
    (j k : ℕ) → j ≡ p + k → k < n → R (g j) (get_or xs k nought)
unfolding places
along_at g p zero done j k e h = absurd (omega arith)
along_at {R} g p (suc n) (next {b = b} r s) j zero e h = let q : p ≡ j = omega arith in subst (λ i. R (g i) b) q r
along_at g p (suc n) (next r s) j (suc k) e h = along_at g (suc p) n s j k (omega arith) (omega arith)

module _ (W : Value) where
  agree_at : (g : ℕ → ℕ → Exponent) (p n : ℕ) (l m : List Factor) → ((j : ℕ) → p ≤ j → j < p + n → exact W l (g j) ≡ exact W m (g j)) → Agree W (map g (places p n)) l m
  unfolding places
  agree_at g p zero l m h = tt
  agree_at g p (suc n) l m h = (h p (omega arith) (omega arith), agree_at g (suc p) n l m λ j a b. h j (omega arith) (omega arith))

  -- at one base row: the definition d is worth what the row of f is
  pub exact_define : (f : Factor) (d l m : List Factor) (b : ℕ → Exponent) → worth W (b f.row) ≡ exact W d b →
      Holds (λ p. exact W (l ++ (p ++ m)) b ≡ exact W (l ++ (f ∷ m)) b) (each (raised f.exponent) d)
  exact_define f d l m b h = holds_imp (exact_power W f.exponent d b) λ p q. simp (exact_join W, cons W, q, h)

  module _ (ss : List Slot) (rs : List Row) (ks : List Facts) (h : admit_from ss [] rs ≡ admitted ks) where
    -- in an admitted table, at all base rows
    pub define : (d : Row) (f : Factor) → f.row < length rs → (v : Float) → (get_or rs f.row d).kind ≡ Derived v → (l m : List Factor) →
        Holds (λ p. Agree W (bases (length ss) ks) (l ++ (p ++ m)) (l ++ (f ∷ m))) (each (raised f.exponent) (def_of (get_or rs f.row d)))
    unfolding exp_at
    define d f r v e l m =
        holds_by _ _ λ p q.
        agree_at (exp_at ks) 0 (length ss) (l ++ (p ++ m)) (l ++ (f ∷ m)) λ j a b.
        take_out (exact_define f (def_of (get_or rs f.row d)) l m (exp_at ks j) (sym (is j (omega arith)))) q
      where
        is : (j : ℕ) → j < length ss → exact W (def_of (get_or rs f.row d)) (exp_at ks j) ≡ worth W (exp_at ks j f.row)
        is j h' = (along_at (exp_at ks) 0 (length ss) (take_out (base_exact W (bases (length ss) ks) (def_of (get_or rs f.row d))) (derived_exps ss rs ks h d f.row r v e)) j j (omega arith) h').is
