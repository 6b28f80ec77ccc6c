-- Calls that each have an argument; calls whose codes are low and whose arguments are few; the call of a code in two lists of calls joined.
use mathlib.Core.Path.{◌≡◌, refl, ap, ◌∙◌}
use mathlib.Core.Bool.{Bool, true, false, ◌&&◌}
use mathlib.Core.List.{List, [], ◌∷◌, ◌++◌}
use Prim.Native.Nat.{ℕ, ◌<◌, ◌≤◌}
use native.Mathlib.Omega.{arith}
use borrow.Author.Tests.{ltb-true, leb-true, lt-ltb}
use lib.Dec.{eqb, ltb, leb}
use Rattle.exponents.proofs.Equality.{and_left, and_right}
use Rattle.exponents.specs.Words.{pick}
use Rattle.codes.specs.Codes.{Call, look}

-- ---- calls that each have an argument
abbrev pub asking : List Call → Bool
asking [] = true
asking (c ∷ l) = ltb 0 c.arity && asking l

-- ---- calls of codes below m, each with one to three arguments
abbrev pub proper : ℕ → List Call → Bool
proper m [] = true
proper m (c ∷ l) = (ltb c.code m && (ltb 0 c.arity && leb c.arity 3)) && proper m l

-- what the test tells of the first
record Told (m : ℕ) (c : Call) (l : List Call) : Type 0 where
  below : c.code < m
  some : 0 < c.arity
  few : c.arity ≤ 3
  rest : proper m l ≡ true

told : (m : ℕ) (c : Call) (l : List Call) → proper m (c ∷ l) ≡ true → Told m c l
told m c l e =
    let a = and_left (ltb c.code m && (ltb 0 c.arity && leb c.arity 3)) (proper m l) e in
    let b = and_right (ltb c.code m) (ltb 0 c.arity && leb c.arity 3) a in
    record {
      below = ltb-true c.code m (and_left (ltb c.code m) (ltb 0 c.arity && leb c.arity 3) a);
      some = ltb-true 0 c.arity (and_left (ltb 0 c.arity) (leb c.arity 3) b);
      few = leb-true c.arity 3 (and_right (ltb 0 c.arity) (leb c.arity 3) b);
      rest = and_right (ltb c.code m && (ltb 0 c.arity && leb c.arity 3)) (proper m l) e;
    }

-- so each has an argument
pub proper_asking : (k : ℕ) (l : List Call) → proper k l ≡ true → asking l ≡ true
proper_asking k [] e = refl
proper_asking k (c ∷ l) e =
    let t = told k c l e in
    ap (λ (b : Bool). b && asking l) (lt-ltb 0 c.arity t.some) ∙ proper_asking k l t.rest

-- ---- two lists joined: the first list's call where it has one, else the second's

pub look-first : (l m : List Call) (n : ℕ) → ((look l n).arity ≡ 0 → ⊥) → look (l ++ m) n ≡ look l n
unfolding look
look-first [] m n h = absurd (h refl)
look-first (c ∷ l) m n h = go (eqb n c.code) h (look-first l m n)
  where
    go : (t : Bool) → ((pick t c (look l n)).arity ≡ 0 → ⊥) → (((look l n).arity ≡ 0 → ⊥) → look (l ++ m) n ≡ look l n) → pick t c (look (l ++ m) n) ≡ pick t c (look l n)
    go true h again = refl
    go false h again = again h

-- where each call of the first list has an argument: a code that none of them has
pub look_behind : (l m : List Call) (n : ℕ) → asking l ≡ true → (look l n).arity ≡ 0 → look (l ++ m) n ≡ look m n
unfolding look
look_behind [] m n e z = refl
look_behind (c ∷ l) m n e z = go (eqb n c.code) z (look_behind l m n (and_right (ltb 0 c.arity) (asking l) e))
  where
    go : (t : Bool) → (pick t c (look l n)).arity ≡ 0 → ((look l n).arity ≡ 0 → look (l ++ m) n ≡ look m n) → pick t c (look (l ++ m) n) ≡ look m n
    go true z again = absurd (omega (arith, ltb-true 0 c.arity (and_left (ltb 0 c.arity) (asking l) e)))
    go false z again = again z

pub look-second : (k : ℕ) (l m : List Call) (n : ℕ) → proper k l ≡ true → (look l n).arity ≡ 0 → look (l ++ m) n ≡ look m n
look-second k l m n e z = look_behind l m n (proper_asking k l e) z
