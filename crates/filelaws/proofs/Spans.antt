-- How many bytes a reader takes at most: a number 5, a factor 25, a row 223.
use mathlib.Core.Path.{◌≡◌, refl, ap}
use mathlib.Core.Bool.{Bool, true, false}
use mathlib.Core.List.{List, [], ◌∷◌}
use Prim.Native.Nat.{ℕ, zero, suc, ◌+◌, ◌*◌, ◌%◌, ◌≤◌}
use native.Mathlib.Nat.{suc-mul}
use native.Mathlib.Omega.{arith}
use lib.Dec.{ltb, leb, eqb}
use lib.Ieee.{binary64, of_bits}
use lib.ListN.{length, drop, length-drop}
use Rattle.exponents.specs.Words.{pick}
use Rattle.units.specs.declared.Row.{Row}
use Rattle.groups.specs.Taken.{Taken, nothing, taken, then, run?}
use Rattle.groups.specs.Numbers.{above, groups?, up_to?, number?, unfolded, signed?}
use Rattle.groups.proofs.Behind.{Then, first, parted, met}
use Rattle.groups.proofs.Steps.{up_bound}
use Rattle.files.specs.Records.{factor?, eight?, base_row, derived_row, derived?, row?, front_on, front}

abbrev pub Within : {A : Type 0} → ℕ → (List ℕ → Taken A) → Type 0
Within {A} n r = (s : List ℕ) (a : A) (t : List ℕ) → r s ≡ taken a t → length s ≤ length t + n

-- ---- through the readers

taken_within : {A : Type 0} (a : A) → Within 0 (taken a)
taken_within a s b t e = let z : s ≡ t = cc in omega (arith, ap length z)

-- what follows may hang on what was read
then_within : {A B : Type 0} (m n : ℕ) {r : List ℕ → Taken A} {f : A → List ℕ → Taken B} → Within m r → ((s : List ℕ) (a : A) (t : List ℕ) → r s ≡ taken a t → Within n (f a)) → Within (m + n) (λ s. then (r s) f)
then_within m n {r = r} {f = f} h k s b t e = go (parted (r s) f b t e)
  where
    go : Then (r s) f b t → length s ≤ length t + (m + n)
    go (first a u p q) = omega (arith, h s a u p, k s a u p u b t q)

run_within : {A : Type 0} (m : ℕ) {r : List ℕ → Taken A} → Within m r → (n : ℕ) → Within (n * m) (run? r n)
unfolding run?
run_within m h zero s l t e = omega (arith, taken_within [] s l t e)
run_within m {r = r} h (suc n) s l t e =
    omega (arith, then_within m (n * m + 0) {r = r} h (λ _ a _ _. then_within (n * m) 0 {r = run? r n} (run_within m h n) (λ _ l _ _. taken_within (a ∷ l))) s l t e, suc-mul n m)

-- ---- numbers

above_within : (g v : ℕ) → Within 0 (above g v)
unfolding above
above_within g v s x t e = go (eqb v 0) e
  where
    go : (p : Bool) → pick p nothing (taken (v * 128 + g) s) ≡ taken x t → length s ≤ length t + 0
    go true e = let z : ◌≡◌ {A = ℕ} 0 1 = cc in absurd (omega arith)
    go false e = taken_within (v * 128 + g) s x t e

groups_within : (w : ℕ) → Within w (groups? w)
unfolding groups?
groups_within zero s x t e = let z : ◌≡◌ {A = ℕ} 0 1 = cc in absurd (omega arith)
groups_within (suc w) [] x t e = let z : ◌≡◌ {A = ℕ} 0 1 = cc in absurd (omega arith)
groups_within (suc w) (b ∷ s) x t e = go (groups_within w) (ltb b 128) e
  where
    go : Within w (groups? w) → (p : Bool) → pick p (taken b s) (then (groups? w s) (above (b % 128))) ≡ taken x t → suc (length s) ≤ length t + suc w
    go i true e = omega (arith, taken_within b s x t e)
    go i false e = omega (arith, then_within w 0 {r = groups? w} i (λ _ v _ _. above_within (b % 128) v) s x t e)

pub up_within : (n : ℕ) → Within 5 (up_to? n)
unfolding up_to?
up_within n = then_within 5 0 {r = groups? 5} (groups_within 5) (λ _ v _ _ s x t e. taken_within v s x t (met (leb v n) (taken v s) x t e).1)

signed_within : Within 5 signed?
unfolding signed?
signed_within = then_within 5 0 {r = number?} (up_within 4294967295) (λ _ v _ _. taken_within (unfolded v))

eight_within : Within 8 eight?
unfolding eight?
eight_within s x t e =
    let m = met (leb 8 (length s)) _ x t e in
    let z : drop 8 s ≡ t = cc m.1 in
    omega (arith, ap length z, length-drop 8 s)

-- ---- factors and rows

factor_within : Within 25 factor?
unfolding factor?
factor_within =
    then_within 5 20 {r = number?} (up_within 4294967295) (λ _ row _ _.
    then_within 5 15 {r = up_to? 1} (up_within 1) (λ _ k _ _.
    then_within 5 10 {r = signed?} signed_within (λ _ n _ _.
    then_within 5 5 {r = signed?} signed_within (λ _ num _ _.
    then_within 5 0 {r = number?} (up_within 4294967295) (λ _ den _ _.
    taken_within _)))))

-- n of at most 8
factors_within : (n : ℕ) → n ≤ 8 → Within 200 (run? factor? n)
factors_within n h s fs t e = omega (arith, run_within 25 {r = factor?} factor_within n s fs t e)

derived_within : (rank : ℕ) → Within 213 (derived? rank)
unfolding derived?
derived_within rank =
    then_within 8 205 {r = eight?} eight_within (λ _ x _ _.
    then_within 5 200 {r = up_to? 8} (up_within 8) (λ s n t e.
    then_within 200 0 {r = run? factor? n} (factors_within n (up_bound 8 s n t e)) (λ _ fs _ _. taken_within (derived_row rank (of_bits binary64 x) fs))))

pub row_within : Within 223 row?
unfolding row?
row_within =
    then_within 5 218 {r = up_to? 65535} (up_within 65535) (λ _ rank _ _.
    then_within 5 213 {r = up_to? 1} (up_within 1) (λ _ k _ _. chosen rank (eqb k 0)))
  where
    chosen : (rank : ℕ) (p : Bool) → Within 213 (λ s. pick p (taken (base_row rank) s) (derived? rank s))
    chosen rank true s r t e = omega (arith, taken_within (base_row rank) s r t e)
    chosen rank false s r t e = derived_within rank s r t e

pub front_within : (n : ℕ) (s : List ℕ) → length s ≤ length (front n s).1 + n * 223
unfolding front
front_within zero s = omega arith
front_within (suc n) s = go (front_within n) (row? s) refl
  where
    go : ((s : List ℕ) → length s ≤ length (front n s).1 + n * 223) → (o : Taken Row) → row? s ≡ o → length s ≤ length (front_on o s (λ r t. front n t)).1 + suc n * 223
    go i nothing e = omega arith
    go i (taken r t) e = omega (arith, i t, row_within s r t e)
