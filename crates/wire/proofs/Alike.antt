-- Lists that have the same numbers in bytes, within their length, read alike.
use mathlib.Core.Path.{◌≡◌, refl, sym, ap, ap₂, ◌∙◌}
use mathlib.Core.Bool.{Bool, true, false}
use mathlib.Core.List.{List, ◌∷◌}
use Prim.Native.Nat.{ℕ, zero, suc, ◌+◌, ◌*◌, ◌≤◌, ◌<◌}
use native.Mathlib.Omega.{arith}
use borrow.Author.Tests.{ltb-true, ltb-false}
use lib.Dec.{ltb}
use Rattle.units.specs.Lists.{no_factor}
use Rattle.wire.specs.Bytes.{le, run_at, pad_to, count_of}
use Rattle.wire.specs.Records.{signed_at, exponent_at, prefix_at, factor_at, list_at, quantity_at}

module _ (s : List ℕ) where
  -- n numbers of four bytes from the places a and b on
  abbrev pub Alike : ℕ → ℕ → ℕ → Type 0
  Alike a b n = (m : ℕ) → m < n → le 4 s (a + m * 4) ≡ le 4 s (b + m * 4)

  pub alike_none : (a b : ℕ) → Alike a b 0
  alike_none a b m h = absurd (omega arith)

  pub alike_on : (a b n : ℕ) → Alike a b n → le 4 s (a + n * 4) ≡ le 4 s (b + n * 4) → Alike a b (n + 1)
  alike_on a b n f e m h = go (ltb m n) refl
    where
      go : (t : Bool) → ltb m n ≡ t → le 4 s (a + m * 4) ≡ le 4 s (b + m * 4)
      go true p = f m (ltb-true m n p)
      go false p = let q : m ≡ n = omega (arith, ltb-false m n p) in rw q e

  -- the five numbers of a factor
  factor_alike : (a b : ℕ) → Alike a b 5 → factor_at s a ≡ factor_at s b
  unfolding factor_at prefix_at exponent_at signed_at
  factor_alike a b f =
      let at : (m i j : ℕ) → m < 5 → a + m * 4 ≡ i → b + m * 4 ≡ j → le 4 s i ≡ le 4 s j = λ m i j h p q. ap (le 4 s) (sym p) ∙ f m h ∙ ap (le 4 s) q in
      rw (
        at 0 a b (omega arith) (omega arith) (omega arith),
        at 1 (a + 4) (b + 4) (omega arith) (omega arith) (omega arith),
        at 2 (a + 4 + 4) (b + 4 + 4) (omega arith) (omega arith) (omega arith),
        at 3 (a + 12) (b + 12) (omega arith) (omega arith) (omega arith),
        at 4 (a + 12 + 4) (b + 12 + 4) (omega arith) (omega arith) (omega arith),
      )

  run_alike : (n a b : ℕ) → Alike a b (n * 5) → run_at factor_at 20 n s a ≡ run_at factor_at 20 n s b
  unfolding run_at
  run_alike zero a b f = refl
  run_alike (suc n) a b f =
      ap₂ ◌∷◌ (factor_alike a b (λ m h. f m (omega arith)))
      (run_alike n (a + 20) (b + 20) (λ m h.
      let p : a + (m + 5) * 4 ≡ a + 20 + m * 4 = omega arith in
      let q : b + (m + 5) * 4 ≡ b + 20 + m * 4 = omega arith in
      ap (le 4 s) (sym p) ∙ f (m + 5) (omega arith) ∙ ap (le 4 s) q))

  pub list_alike : (i j n k : ℕ) → le 4 s i ≡ le 4 s j → n ≡ count_of 16 (le 4 s i) → n * 5 ≤ k → Alike (i + 4) (j + 4) k → list_at s i ≡ list_at s j
  unfolding list_at
  list_alike i j n k e c g f =
      let h = run_alike n (i + 4) (j + 4) (λ m l. f m (omega arith)) in
      let u = ap (λ m. run_at factor_at 20 m s (i + 4)) (sym c) ∙ h ∙ ap (λ m. run_at factor_at 20 m s (j + 4)) (c ∙ ap (count_of 16) e) in
      (λ t. record { at = pad_to no_factor 16 (u t); len = e t })

  -- a quantity's list stands behind its value and its mark
  pub unit_at : (i : ℕ) → (quantity_at s i).unit ≡ list_at s (i + 12)
  unfolding quantity_at
  unit_at i = refl
