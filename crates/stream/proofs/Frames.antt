-- How a request lies: argument by argument; and a whole one ends within the bytes.
use mathlib.Core.Path.{◌≡◌, refl, sym, subst}
use mathlib.Core.Bool.{Bool, true, false}
use mathlib.Core.List.{List}
use Prim.Native.Nat.{ℕ, zero, suc, ◌+◌, ◌-◌, ◌≤◌, ◌<◌}
use native.Mathlib.Omega.{arith}
use lib.Dec.{eqb, ltb}
use lib.ListN.{length}
use borrow.Author.Tests.{ltb-false}
use Rattle.exponents.specs.Words.{pick}
use Rattle.wire.specs.Bytes.{le}
use Rattle.stream.specs.Calls.{call_of}
use Rattle.stream.specs.Stream.{IsWhole, most, arguments, framed, next}
use Rattle.stream.specs.declared.Frame.{Frame}
use Rattle.stream.specs.declared.Frame.TheVariants.{Whole, Short, Bad}

-- ---- where k of n arguments are behind, those from place i on
module _ (code n k : ℕ) (s : List ℕ) (i : ℕ) where
  pub arguments_none : n ≤ k → arguments code k (n - k) s i ≡ Whole i
  unfolding arguments
  arguments_none h =
      let e : n - k ≡ 0 = omega arith in
      rw e

  pub arguments_some : k < n → arguments code k (n - k) s i
      ≡ pick (ltb (length s - i) 4) Short
      (pick (ltb (most code k) (le 4 s i)) Bad
      (pick (ltb (length s - (i + 4)) (le 4 s i)) Short
      (arguments code (k + 1) (n - (k + 1)) s (i + 4 + le 4 s i))))
  unfolding arguments
  arguments_some h =
      let e : n - k ≡ suc (n - (k + 1)) = omega arith in
      rw e

-- ---- a whole request ends within the bytes
abbrev Within : List ℕ → ℕ → Frame → Type 0
Within s i (Whole to) = (i ≤ to) × (to ≤ length s)
Within s i Short = Unit {0}
Within s i Bad = Unit {0}

within_later : (s : List ℕ) (i j : ℕ) (f : Frame) → i ≤ j → Within s j f → Within s i f
within_later s i j (Whole to) h w = (omega (arith, w.0), w.1)
within_later s i j Short h w = tt
within_later s i j Bad h w = tt

within_arguments : (code k n : ℕ) (s : List ℕ) (i : ℕ) → i ≤ length s → Within s i (arguments code k n s i)
unfolding arguments
within_arguments code k zero s i h = (omega arith, h)
within_arguments code k (suc n) s i h =
    go (ltb (length s - i) 4) (ltb (most code k) (le 4 s i)) (ltb (length s - (i + 4)) (le 4 s i)) refl refl (within_arguments code (k + 1) n s (i + 4 + le 4 s i))
  where
    go : (a b c : Bool) → ltb (length s - i) 4 ≡ a → ltb (length s - (i + 4)) (le 4 s i) ≡ c
        → (i + 4 + le 4 s i ≤ length s → Within s (i + 4 + le 4 s i) (arguments code (k + 1) n s (i + 4 + le 4 s i)))
        → Within s i (pick a Short (pick b Bad (pick c Short (arguments code (k + 1) n s (i + 4 + le 4 s i)))))
    go true b c p q w = tt
    go false true c p q w = tt
    go false false true p q w = tt
    go false false false p q w =
        let r : i + 4 + le 4 s i ≤ length s = omega (arith, ltb-false (length s - i) 4 p, ltb-false (length s - (i + 4)) (le 4 s i) q) in
        within_later s i (i + 4 + le 4 s i) (arguments code (k + 1) n s (i + 4 + le 4 s i)) (omega arith) (w r)

within : (code : ℕ) (s : List ℕ) (i : ℕ) → i ≤ length s → Within s i (framed code s i)
unfolding framed
within code s i h = go (eqb (call_of code).arity 0)
  where
    go : (b : Bool) → Within s i (pick b Bad (arguments code 0 (call_of code).arity s i))
    go true = tt
    go false = within_arguments code 0 (call_of code).arity s i h

pub whole_within : (code : ℕ) (s : List ℕ) (i : ℕ) → i ≤ length s → (to : ℕ) → Whole to ≡ framed code s i → (i ≤ to) × (to ≤ length s)
whole_within code s i h to lies = subst (Within s i) (sym lies) (within code s i h)

-- ---- a whole request whose code stands at place i
module _ (s : List ℕ) (i to : ℕ) (lies : Whole to ≡ next s i) where
  pub whole_here : (4 ≤ length s - i) × (Whole to ≡ framed (le 4 s i) s (i + 4))
  unfolding next
  whole_here = go (ltb (length s - i) 4) refl lies
    where
      go : (b : Bool) → ltb (length s - i) 4 ≡ b → Whole to ≡ pick b Short (framed (le 4 s i) s (i + 4)) → (4 ≤ length s - i) × (Whole to ≡ framed (le 4 s i) s (i + 4))
      go true p q = absurd (subst IsWhole q tt)
      go false p q = (ltb-false (length s - i) 4 p, q)

  pub whole_inside : (i + 4 ≤ to) × (to ≤ length s)
  whole_inside = whole_within (le 4 s i) s (i + 4) (omega (arith, whole_here.0)) to whole_here.1
