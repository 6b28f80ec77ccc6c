-- Little-endian numbers in bytes, and runs of records (the byte form, "Records").
use Rattle.std.specs.Prelude.{List, [], ◌∷◌, ◌++◌, ℕ, zero, suc, ◌+◌, ◌-◌, ◌*◌, ◌/◌, ◌%◌, leb, length, get_or, replicate}
use Rattle.exponents.specs.Words.{pick}

-- the number in the w bytes from place i on, low byte first
unfoldable pub le : ℕ → List ℕ → ℕ → ℕ
le zero s i = 0
le (suc w) s i = get_or s i 0 + 256 * le w s (i + 1)

-- the low w bytes of x, low byte first
unfoldable pub bytes_of : ℕ → ℕ → List ℕ
bytes_of zero x = []
bytes_of (suc w) x = x % 256 ∷ bytes_of w (x / 256)

module _ {A : Type 0} where
  -- n records of so many bytes each, one after another from place i on
  unfoldable pub run_at : (List ℕ → ℕ → A) → ℕ → ℕ → List ℕ → ℕ → List A
  run_at read size zero s i = []
  run_at read size (suc n) s i = read s i ∷ run_at read size n s (i + size)

  -- the bytes of records, one after another
  unfoldable pub run_bytes : (A → List ℕ) → List A → List ℕ
  run_bytes bytes [] = []
  run_bytes bytes (a ∷ l) = bytes a ++ run_bytes bytes l

  -- m places: the records, then places that hold none
  unfoldable pub pad_to : A → ℕ → List A → List A
  pad_to none m l = l ++ replicate (m - length l) none

-- n, or none where n is too many: what is too long is not read
unfoldable pub count_of : ℕ → ℕ → ℕ
count_of most n = pick (leb n most) n 0
