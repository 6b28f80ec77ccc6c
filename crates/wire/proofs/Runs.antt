-- Records read one after the other into places: one record more, and how many of them the bytes hold.
use mathlib.Core.Path.{◌≡◌, refl, sym, ap, ◌∙◌}
use mathlib.Core.Bool.{Bool, true, false}
use mathlib.Core.List.{List, [], ◌∷◌, ◌++◌, append_assoc}
use Prim.Native.Nat.{ℕ, zero, suc, ◌+◌, ◌-◌, ◌*◌, ◌/◌, ◌%◌, ◌≤◌, ◌<◌}
use native.Mathlib.Nat.{le-div_iff_mul-le, sub-zero}
use native.Mathlib.Numerals.{add-one}
use native.Mathlib.Omega.{arith}
use borrow.Author.Tests.{leb-true}
use lib.Dec.{leb, eqb}
use lib.ListN.{length, get_or, set, replicate, length-append, length-replicate}
use lib.Seq.{set-append_seam}
use Rattle.exponents.specs.Words.{pick}
use Rattle.wire.specs.Bytes.{run_at, pad_to, count_of}
use Rattle.wire.specs.Arguments.{many_in}

module _ {A : Type 0} (read : List ℕ → ℕ → A) (size : ℕ) where
  run_at_snoc : (n : ℕ) (s : List ℕ) (i : ℕ) → run_at read size (suc n) s i ≡ run_at read size n s i ++ (read s (i + n * size) ∷ [])
  unfolding run_at
  run_at_snoc zero s i =
      let e : i ≡ i + 0 * size = omega arith in
      ap (λ k. read s k ∷ []) e
  run_at_snoc (suc n) s i =
      let e : i + size + n * size ≡ i + suc n * size = omega arith in
      ap (λ l. read s i ∷ l) (run_at_snoc n s (i + size) ∙ ap (λ k. run_at read size n s (i + size) ++ (read s k ∷ [])) e)

  pub length_run_at : (n : ℕ) (s : List ℕ) (i : ℕ) → length (run_at read size n s i) ≡ n
  unfolding run_at
  length_run_at zero s i = refl
  length_run_at (suc n) s i = ap suc (length_run_at n s (i + size))

  -- the record at a place
  pub get_or_run_at : (n : ℕ) (s : List ℕ) (i k : ℕ) (z : A) → k < n → get_or (run_at read size n s i) k z ≡ read s (i + k * size)
  unfolding run_at
  get_or_run_at zero s i k z h = absurd (omega arith)
  get_or_run_at (suc n) s i zero z h =
      let e : i ≡ i + 0 * size = omega arith in
      ap (read s) e
  get_or_run_at (suc n) s i (suc k) z h =
      let e : i + size + k * size ≡ i + suc k * size = omega arith in
      get_or_run_at n s (i + size) k z (omega arith) ∙ ap (read s) e

pub pad_push : {A : Type 0} (none : A) (m : ℕ) (l : List A) (a : A) → length l < m → set (pad_to none m l) (length l) a ≡ pad_to none m (l ++ (a ∷ []))
unfolding pad_to
pad_push none m l a h =
    let e : m - length l ≡ suc (m - suc (length l)) = omega arith in
    let f : m - (length l + 1) ≡ m - suc (length l) = omega arith in
    simp (e, set-append_seam, length-append, f, append_assoc)

-- ---- m places of a record

-- none is read, and one record more, put behind those that are read
pub places_none : {A : Type 0} (read : List ℕ → ℕ → A) (size : ℕ) (none : A) (m : ℕ) (s : List ℕ) (at : ℕ) → pad_to none m (run_at read size 0 s at) ≡ replicate m none
unfolding run_at pad_to
places_none read size none m s at = ap (λ k. replicate k none) (sub-zero m)

pub places_turn : {A : Type 0} (read : List ℕ → ℕ → A) (size : ℕ) (none : A) (m : ℕ) (s : List ℕ) (at i : ℕ) → i < m
    → pad_to none m (run_at read size (i + 1) s at) ≡ set (pad_to none m (run_at read size i s at)) i (read s (at + i * size))
places_turn read size none m s at i h =
    let n = length_run_at read size i s at in
    rw (add-one, run_at_snoc) (sym (ap (λ k. set (pad_to none m (run_at read size i s at)) k (read s (at + i * size))) (sym n) ∙ pad_push none m (run_at read size i s at) _ (omega arith)))

pub count_room : (m n : ℕ) → count_of m n ≤ m
unfolding count_of
count_room m n = go (leb n m) refl
  where
    go : (t : Bool) → leb n m ≡ t → pick t n 0 ≤ m
    go true e = leb-true n m e
    go false e = omega arith

pub places_sized : {A : Type 0} (read : List ℕ → ℕ → A) (size : ℕ) (none : A) (m n : ℕ) (s : List ℕ) (i : ℕ) → length (pad_to none m (run_at read size (count_of m n) s i)) ≡ m
unfolding pad_to count_of
places_sized read size none m n s i =
    let h = count_room m n in
    simp (length-append, length_run_at, length-replicate) (omega arith)

-- ---- as many records as bytes hold, but no more than there are places

counted : (m k : ℕ) (t : Bool) → leb k m ≡ t → (i : ℕ) → i < pick t k 0 → (i < k) × (k ≤ m)
counted m k true e i h = (h, leb-true k m e)
counted m k false e i h = absurd (omega arith)

inside : (size m n : ℕ) (t : Bool) (i : ℕ) → 0 < size → i < pick t (n / size) (m + 1) → pick t (n / size) (m + 1) ≤ m → i * size + size ≤ n
inside size m n true i p h k =
    let e : i * size + size ≡ suc i * size = omega arith in
    rw e ((le-div_iff_mul-le p).0 h)
inside size m n false i p h k = absurd (omega arith)

-- each that is counted stands in the bytes
pub records_inside : (size m n i : ℕ) → 0 < size → i < count_of m (many_in size m n) → i * size + size ≤ n
unfolding count_of many_in
records_inside size m n i p h =
    let c = counted m (many_in size m n) (leb (many_in size m n) m) refl i h in
    inside size m n (eqb (n % size) 0) i p c.0 c.1

-- no more than the most, so all of them
pub many_inside : (size m n i : ℕ) → 0 < size → many_in size m n ≤ m → i < many_in size m n → i * size + size ≤ n
unfolding many_in
many_inside size m n i p few h = inside size m n (eqb (n % size) 0) i p h few
