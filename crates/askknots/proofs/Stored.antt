-- Runs stored as distinct values, one after the other, and behind their number.
use mathlib.Core.Path.{◌≡◌, sym, ap, ◌∙◌}
use mathlib.Core.List.{List, ◌++◌}
use Prim.Native.Nat.{ℕ, ◌+◌, ◌*◌, ◌≤◌, ◌<◌}
use native.Mathlib.Nat.{add_assoc}
use native.Mathlib.Omega.{arith}
use lib.Ieee.{Float, binary64, nan, to_bits}
use lib.ListN.{length, get_or, take, drop, length-append, get_or-map}
use lib.Seq.{sets, get_or-take}
use Rattle.wire.specs.Bytes.{bytes_of, run_bytes}
use Rattle.wire.proofs.Digits.{length-bytes_of}
use Rattle.wire.proofs.Stored.{length_run_bytes, write_turn, write_end, sets_number}
use Rattle.knotruns.specs.Runs.{Run, run, firsts, multiplicities}
use Rattle.askknots.specs.Records.{distinct_bytes, vector_bytes}

-- ---- one run

pub distinct_sized : (r : Run) → length (distinct_bytes r) ≡ 16
unfolding distinct_bytes
distinct_sized r = simp (length-append, length-bytes_of)

pub distinct_written : (l l₁ l₂ l₃ : List ℕ) (i : ℕ) (x : Float) (b k : ℕ) → b ≡ to_bits binary64 x → l₁ ≡ sets l i (bytes_of 8 b) → l₂ ≡ sets l₁ (i + 8) (bytes_of 4 k) → l₃ ≡ sets l₂ (i + 12) (bytes_of 4 0) → l₃ ≡ sets l i (distinct_bytes (run x k))
unfolding distinct_bytes
distinct_written l l₁ l₂ l₃ i x b k e f g h = simp (sets_number, add_assoc, h, g, f, e)

-- ---- all of them: values and multiplicities as code has them
module _ (n : ℕ) (fs : List Float) (ks : List ℕ) (rs : List Run) (m : n ≡ length rs) (f : take n fs ≡ firsts rs) (k : take n ks ≡ multiplicities rs) where
  at_run : (i : ℕ) → i < n → get_or rs i (run nan 0) ≡ run (get_or fs i nan) (get_or ks i 0)
  at_run i h =
      let a : (get_or rs i (run nan 0)).first ≡ get_or fs i nan = sym (get_or-map (λ r. r.first) rs i (run nan 0)) ∙ ap (λ l. get_or l i nan) (sym f) ∙ get_or-take n fs i nan h in
      let b : (get_or rs i (run nan 0)).times ≡ get_or ks i 0 = sym (get_or-map (λ r. r.times) rs i (run nan 0)) ∙ ap (λ l. get_or l i 0) (sym k) ∙ get_or-take n ks i 0 h in
      (λ t. record { first = a t; times = b t })

  -- what is left to store
  abbrev pub Left : List ℕ → ℕ → List ℕ → ℕ → Type 0
  Left out₀ at out i = sets out (at + i * 16) (run_bytes distinct_bytes (drop i rs)) ≡ sets out₀ at (run_bytes distinct_bytes rs)

  pub left_all : (out : List ℕ) (at : ℕ) → Left out at out 0
  left_all out at = let e : at + 0 * 16 ≡ at = omega arith in ap (λ j. sets out j (run_bytes distinct_bytes rs)) e

  pub left_on : (out₀ : List ℕ) (at : ℕ) (out out' : List ℕ) (i : ℕ) → i < n → Left out₀ at out i → out' ≡ sets out (at + i * 16) (distinct_bytes (run (get_or fs i nan) (get_or ks i 0))) → Left out₀ at out' (i + 1)
  left_on out₀ at out out' i h l e =
      ap (λ o. sets o (at + (i + 1) * 16) (run_bytes distinct_bytes (drop (i + 1) rs))) (e ∙ ap (λ r. sets out (at + i * 16) (distinct_bytes r)) (sym (at_run i h)))
      ∙ write_turn distinct_bytes 16 distinct_sized out at i rs (run nan 0) (omega (arith, m)) ∙ l

  pub left_none : (out₀ : List ℕ) (at : ℕ) (out : List ℕ) (i : ℕ) → n ≤ i → Left out₀ at out i → out ≡ sets out₀ at (run_bytes distinct_bytes rs)
  left_none out₀ at out i h l = sym (write_end distinct_bytes out (at + i * 16) i rs (omega (arith, m))) ∙ l

-- ---- behind their number

pub vector_sized : (rs : List Run) → length (vector_bytes rs) ≡ 8 + length rs * 16
unfolding vector_bytes
vector_sized rs = simp (length-append, length-bytes_of) (omega (arith, length_run_bytes distinct_bytes 16 distinct_sized rs))

pub stored : (n : ℕ) (rs : List Run) (room l₁ l₂ l₃ : List ℕ) → n ≡ length rs → l₁ ≡ sets room 0 (bytes_of 4 n) → l₂ ≡ sets l₁ 4 (bytes_of 4 0) → l₃ ≡ sets l₂ 8 (run_bytes distinct_bytes rs) → l₃ ≡ sets room 0 (vector_bytes rs)
unfolding vector_bytes
stored n rs room l₁ l₂ l₃ m a b c =
    c
    ∙ ap (λ l. sets l 8 (run_bytes distinct_bytes rs)) b
    ∙ sym (sets_number 4 0 (run_bytes distinct_bytes rs) l₁ 4)
    ∙ ap (λ l. sets l 4 (bytes_of 4 0 ++ run_bytes distinct_bytes rs)) a
    ∙ sym (sets_number 4 n (bytes_of 4 0 ++ run_bytes distinct_bytes rs) room 0)
    ∙ ap (λ k. sets room 0 (bytes_of 4 k ++ (bytes_of 4 0 ++ run_bytes distinct_bytes rs))) m
