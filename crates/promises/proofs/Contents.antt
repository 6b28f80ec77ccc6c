-- What a list, a definition, a table and candidates hold: their records, as they stand one after the other.
use mathlib.Core.Path.{◌≡◌, sym, ap, ◌∙◌}
use mathlib.Core.List.{List, ◌++◌}
use Prim.Native.Nat.{ℕ, ◌+◌, ◌-◌, ◌*◌, ◌≤◌, ◌<◌}
use native.Mathlib.Nat.{mul-mod_left, mul-div_cancel}
use native.Mathlib.Omega.{arith}
use borrow.Author.Tests.{le-leb}
use lib.ListN.{length, take, replicate}
use lib.Seq.{take-append_seam}
use Rattle.units.specs.Lists.{list_of}
use Rattle.tables.specs.Rows.{def_of, rows_of}
use Rattle.wire.specs.Bytes.{le, run_at, pad_to, count_of}
use Rattle.wire.specs.Records.{factor_at, list_at, row_at, candidate_at}
use Rattle.wire.specs.Arguments.{many_in, table_from, candidates_from}
use Rattle.wire.proofs.Runs.{length_run_at}

module _ {A : Type 0} (read : List ℕ → ℕ → A) (size : ℕ) (none : A) (m : ℕ) where
  held : (n : ℕ) (s : List ℕ) (i : ℕ) → n ≤ m → take n (pad_to none m (run_at read size (count_of m n) s i)) ≡ run_at read size n s i
  unfolding pad_to count_of
  held n s i h =
      let l = run_at read size n s i in
      rw (le-leb n m h) (ap (λ k. take k (l ++ replicate (m - length l) none)) (sym (length_run_at read size n s i)) ∙ take-append_seam l _)

  held_many : (n : ℕ) (s : List ℕ) → n ≤ m → 0 < size → length s ≡ n * size
      → take (many_in size m (length s)) (pad_to none m (run_at read size (count_of m (many_in size m (length s))) s 0)) ≡ run_at read size n s 0
  unfolding many_in
  held_many n s h z e = rw (e, mul-mod_left n size, mul-div_cancel n z) (held n s 0 h)

pub list_factors : (s : List ℕ) (i : ℕ) → le 4 s i ≤ 16 → list_of (list_at s i) ≡ run_at factor_at 20 (le 4 s i) s (i + 4)
unfolding list_at
list_factors s i h = held factor_at 20 _ 16 (le 4 s i) s (i + 4) h

pub row_factors : (s : List ℕ) (i : ℕ) → le 4 s (i + 4) ≤ 8 → def_of (row_at s i) ≡ run_at factor_at 20 (le 4 s (i + 4)) s (i + 16)
unfolding row_at
row_factors s i h = held factor_at 20 _ 8 (le 4 s (i + 4)) s (i + 16) h

pub table-rows : (n : ℕ) (s : List ℕ) → n ≤ 128 → length s ≡ n * 176 → rows_of (table_from s) ≡ run_at row_at 176 n s 0
unfolding table_from
table-rows n s h e = held_many row_at 176 _ 128 n s h (omega arith) e

pub candidates_held : (n : ℕ) (s : List ℕ) → n ≤ 32 → length s ≡ n * 328 → take (candidates_from s).len (candidates_from s).at ≡ run_at candidate_at 328 n s 0
unfolding candidates_from
candidates_held n s h e = held_many candidate_at 328 _ 32 n s h (omega arith) e
