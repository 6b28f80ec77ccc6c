-- A run of records stored from its start on: one record more. Only the records themselves have to be of one size.
use mathlib.Core.Path.{◌≡◌, sym, ap, ◌∙◌}
use mathlib.Core.List.{List, [], ◌∷◌, ◌++◌, append_assoc, append-nil}
use Prim.Native.Nat.{ℕ, ◌+◌, ◌*◌, ◌<◌}
use native.Mathlib.Omega.{arith}
use native.Mathlib.Numerals.{add-one}
use lib.ListN.{length, get_or, take, length-append}
use lib.Seq.{sets, take-suc}
use Rattle.wire.specs.Bytes.{run_bytes}
use Rattle.wire.proofs.Digits.{sets_append}

module _ {A : Type 0} (bytes : A → List ℕ) where
  run_snoc : (l : List A) (a : A) → run_bytes bytes (l ++ (a ∷ [])) ≡ run_bytes bytes l ++ bytes a
  unfolding run_bytes
  run_snoc [] a = append-nil (bytes a)
  run_snoc (x ∷ l) a = ap (λ b. bytes x ++ b) (run_snoc l a) ∙ sym (append_assoc (bytes x) (run_bytes bytes l) (bytes a))

  module _ (size i : ℕ) (l : List A) (d : A) (h : i < length l) where
    more : run_bytes bytes (take (i + 1) l) ≡ run_bytes bytes (take i l) ++ bytes (get_or l i d)
    more = rw (add-one, take-suc l i d h) (run_snoc (take i l) (get_or l i d))

    module _ (so_far : length (run_bytes bytes (take i l)) ≡ i * size) where
      pub run_length : length (bytes (get_or l i d)) ≡ size → length (run_bytes bytes (take (i + 1) l)) ≡ (i + 1) * size
      run_length e = rw more (omega (arith, length-append (run_bytes bytes (take i l)) (bytes (get_or l i d))))

      pub run-turn : (out₀ out : List ℕ) (at : ℕ) → out ≡ sets out₀ at (run_bytes bytes (take i l))
          → sets out (at + i * size) (bytes (get_or l i d)) ≡ sets out₀ at (run_bytes bytes (take (i + 1) l))
      run-turn out₀ out at e = rw (e, more, ← so_far) (sets_append (run_bytes bytes (take i l)) (bytes (get_or l i d)) out₀ at)
