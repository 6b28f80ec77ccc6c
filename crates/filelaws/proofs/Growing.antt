-- What is read stays read when bytes follow: each reader looks only at what it takes.
use mathlib.Core.Path.{◌≡◌}
use mathlib.Core.Bool.{Bool, true, false}
use mathlib.Core.List.{List, [], ◌∷◌, ◌++◌}
use Prim.Native.Nat.{ℕ, zero, suc, ◌+◌, ◌*◌, ◌%◌, ◌≤◌}
use native.Mathlib.Omega.{arith}
use borrow.Author.Tests.{leb-true, le-leb}
use lib.Dec.{ltb, leb, eqb}
use lib.Ieee.{binary64, of_bits}
use lib.ListN.{length, drop, length-append}
use lib.Seq.{drop-append-le}
use Rattle.exponents.specs.Words.{pick}
use Rattle.wire.specs.Bytes.{le}
use Rattle.wire.proofs.Round as wire
use Rattle.groups.specs.Taken.{Taken, nothing, taken, provided, then, run?}
use Rattle.groups.specs.Numbers.{above, groups?, up_to?, number?, unfolded, signed?}
use Rattle.groups.proofs.Behind.{Then, first, parted, met}
use Rattle.files.specs.Records.{factor?, eight?, base_row, derived_row, derived?, row?}

abbrev pub Grows : {A : Type 0} → (List ℕ → Taken A) → Type 0
Grows {A} r = (s : List ℕ) (a : A) (t u : List ℕ) → r s ≡ taken a t → r (s ++ u) ≡ taken a (t ++ u)

-- ---- through the readers

pub taken_grows : {A : Type 0} (a : A) → Grows (taken a)
taken_grows a s b t u e = let z : s ≡ t = cc in let y : a ≡ b = cc in cc

pub then_grows : {A B : Type 0} {r : List ℕ → Taken A} {f : A → List ℕ → Taken B} → Grows r → ((a : A) → Grows (f a)) → Grows (λ s. then (r s) f)
unfolding then
then_grows {r = r} {f = f} h k s b t u e = go (parted (r s) f b t e)
  where
    go : Then (r s) f b t → then (r (s ++ u)) f ≡ taken b (t ++ u)
    go (first a v p q) = rw (h s a v u p) (k a v b t u q)

pub provided_grows : {A : Type 0} (p : Bool) {r : List ℕ → Taken A} → Grows r → Grows (λ s. provided p (r s))
provided_grows p {r} h s a t u e = let m = met p (r s) a t e in rw m.0 (h s a t u m.1)

pub run_grows : {A : Type 0} {r : List ℕ → Taken A} → Grows r → (n : ℕ) → Grows (run? r n)
unfolding run?
run_grows h zero = taken_grows []
run_grows {r = r} h (suc n) = then_grows {r = r} h (λ a. then_grows {r = run? r n} (run_grows h n) (λ l. taken_grows (a ∷ l)))

-- ---- numbers

above_grows : (g v : ℕ) → Grows (above g v)
unfolding above
above_grows g v s x t u e = go (eqb v 0) e
  where
    go : (p : Bool) → pick p nothing (taken (v * 128 + g) s) ≡ taken x t → pick p nothing (taken (v * 128 + g) (s ++ u)) ≡ taken x (t ++ u)
    go true e = let z : ◌≡◌ {A = ℕ} 0 1 = cc in absurd (omega arith)
    go false e = taken_grows (v * 128 + g) s x t u e

pub groups_grows : (w : ℕ) → Grows (groups? w)
unfolding groups?
groups_grows zero s x t u e = let z : ◌≡◌ {A = ℕ} 0 1 = cc in absurd (omega arith)
groups_grows (suc w) [] x t u e = let z : ◌≡◌ {A = ℕ} 0 1 = cc in absurd (omega arith)
groups_grows (suc w) (b ∷ s) x t u e = go (groups_grows w) (ltb b 128) e
  where
    go : Grows (groups? w) → (p : Bool) → pick p (taken b s) (then (groups? w s) (above (b % 128))) ≡ taken x t
        → pick p (taken b (s ++ u)) (then (groups? w (s ++ u)) (above (b % 128))) ≡ taken x (t ++ u)
    go i true e = taken_grows b s x t u e
    go i false e = then_grows {r = groups? w} i (above_grows (b % 128)) s x t u e

pub up_grows : (n : ℕ) → Grows (up_to? n)
unfolding up_to?
up_grows n = then_grows {r = groups? 5} (groups_grows 5) (λ v. provided_grows (leb v n) (taken_grows v))

pub signed_grows : Grows signed?
unfolding signed?
signed_grows = then_grows {r = number?} (up_grows 4294967295) (λ v. taken_grows (unfolded v))

pub eight_grows : Grows eight?
unfolding eight?
eight_grows s x t u e =
    let m = met (leb 8 (length s)) _ x t e in
    let n = leb-true 8 (length s) m.0 in
    let k : 8 ≤ length (s ++ u) = omega (arith, length-append s u) in
    rw (le-leb 8 (length (s ++ u)) k, (wire.number_form 8).stops s u 0 n, drop-append-le 8 s u n) (taken_grows (le 8 s 0) (drop 8 s) x t u m.1)

-- ---- factors and rows

pub factor_grows : Grows factor?
unfolding factor?
factor_grows =
    then_grows {r = number?} (up_grows 4294967295) (λ row.
    then_grows {r = up_to? 1} (up_grows 1) (λ k.
    then_grows {r = signed?} signed_grows (λ n.
    then_grows {r = signed?} signed_grows (λ num.
    then_grows {r = number?} (up_grows 4294967295) (λ den.
    taken_grows _)))))

pub derived_grows : (rank : ℕ) → Grows (derived? rank)
unfolding derived?
derived_grows rank =
    then_grows {r = eight?} eight_grows (λ x.
    then_grows {r = up_to? 8} (up_grows 8) (λ n.
    then_grows {r = run? factor? n} (run_grows {r = factor?} factor_grows n) (λ fs. taken_grows (derived_row rank (of_bits binary64 x) fs))))

pub row_grows : Grows row?
unfolding row?
row_grows =
    then_grows {r = up_to? 65535} (up_grows 65535) (λ rank.
    then_grows {r = up_to? 1} (up_grows 1) (λ k. chosen rank (eqb k 0)))
  where
    chosen : (rank : ℕ) (p : Bool) → Grows (λ s. pick p (taken (base_row rank) s) (derived? rank s))
    chosen rank true = taken_grows (base_row rank)
    chosen rank false = derived_grows rank
