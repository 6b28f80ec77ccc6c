-- The k-th argument in bytes that may be cut short anywhere: the arguments before it are passed one by one, and what ends early is what is there.
use mathlib.Core.Path.{◌≡◌, refl, sym, ap, ◌∙◌}
use mathlib.Core.List.{List, []}
use Prim.Native.Nat.{ℕ, zero, suc, ◌+◌, ◌-◌, ◌≤◌, ◌<◌}
use native.Mathlib.Nat.{add-zero, add_assoc}
use native.Mathlib.Omega.{arith}
use lib.ListN.{length, take, drop, length-drop, drop_of_length-le}
use lib.Seq.{take-nil, take_all, drop-drop, get_or-drop}
use Rattle.wire.specs.Bytes.{le}
use Rattle.stream.specs.Stream.{part}

-- a number behind dropped bytes
pub le-drop : (w i : ℕ) (s : List ℕ) (j : ℕ) → le w (drop i s) j ≡ le w s (i + j)
unfolding le
le-drop zero i s j = refl
le-drop (suc w) i s j = rw (get_or-drop, le-drop w i s (j + 1), add_assoc)

-- ---- an argument of m bytes from place f on ends at place t, or where the bytes do
pub record Ends (s : List ℕ) (f m t : ℕ) : Type 0 where
  pub behind : f ≤ t
  pub inside : t ≤ length s
  pub held : take (t - f) (drop f s) ≡ take m (drop f s)
  pub after : drop t s ≡ drop (f + m) s

pub ends_whole : (s : List ℕ) (f m t : ℕ) → f ≤ length s → m ≤ length s - f → t ≡ f + m → Ends s f m t
ends_whole s f m t a h e =
    let k : t - f ≡ m = omega arith in
    record { behind = omega arith; inside = omega arith; held = rw k; after = rw e }

pub ends_cut : (s : List ℕ) (f m t : ℕ) → f ≤ length s → length s - f < m → t ≡ length s → Ends s f m t
ends_cut s f m t a h e =
    let n = length-drop f s in
    record {
      behind = omega arith;
      inside = omega arith;
      held = take_all (t - f) (drop f s) (omega arith) ∙ sym (take_all m (drop f s) (omega arith));
      after = drop_of_length-le s {i = t} (omega arith) ∙ sym (drop_of_length-le s {i = f + m} (omega arith));
    }

part-after : (s : List ℕ) (k i : ℕ) → part (suc k) (drop i s) ≡ part k (drop (i + 4 + le 4 s i) s)
unfolding part
part-after s k i = ap (part k) (rw (le-drop, add-zero, drop-drop, add_assoc))

-- none where no length is
part-short : (k : ℕ) (s : List ℕ) → length s < 4 → part k s ≡ []
unfolding part
part-short zero s h = rw (drop_of_length-le s {i = 4} (omega arith)) (take-nil (le 4 s 0))
part-short (suc k) s h = part-short k (drop (4 + le 4 s 0) s) (omega (arith, length-drop (4 + le 4 s 0) s))

-- ---- the n-th argument is the k-th from place i on
module _ (s : List ℕ) (n k i : ℕ) (inv : part n s ≡ part k (drop i s)) where
  pub part_none : length s - i < 4 → [] ≡ part n s
  part_none h = sym (inv ∙ part-short k (drop i s) (omega (arith, length-drop i s)))

  module _ (t : ℕ) (h : Ends s (i + 4) (le 4 s i) t) where
    pub part_here : k ≡ 0 → take (t - (i + 4)) (drop (i + 4) s) ≡ part n s
    unfolding part
    part_here e = rw (inv, e, le-drop, add-zero, drop-drop) h.held

    pub part_next : (k ≡ 0 → ⊥) → part n s ≡ part (k - 1) (drop t s)
    part_next e =
        let p : k ≡ suc (k - 1) = omega arith in
        rw h.after (inv ∙ ap (λ j. part j (drop i s)) p ∙ part-after s (k - 1) i)
