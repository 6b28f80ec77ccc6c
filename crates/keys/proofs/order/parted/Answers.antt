-- `parted` meets its contract: its cases are those of the laws.
use mathlib.Core.Path.{◌≡◌, sym, ◌∙◌, ap, ap₂, subst}
use mathlib.Core.Bool.{true, false}
use mathlib.Core.List.{List}
use Prim.Native.Nat.{ℕ, ◌+◌, ◌<◌, ◌≤◌}
use native.Mathlib.Omega.{arith}
use lib.IntN.{ℤ, pos}
use lib.ListN.{get_or, length}
use Rattle.std.specs.Ordering.{int_cmp}
use mir.Syntax.{w64}
use mir.Val.{SFits, to_z, of_z}
use Rattle.keys.specs.Held.{key_at}
use Rattle.keys.proofs.KeyOrder.{Parted, first_none, second_none, both}
use Rattle.exponents.proofs.Places.{part_long, part_at}
use Rattle.keys.proofs.order.parted.Goals as goal

-- the code reads the two numbers from the array of all keys
read : (keys : List ℤ) (a p : ℕ) → p < 16 → get_or (key_at a keys) p (pos 0) ≡ get_or keys (a + p) (pos 0)
read keys a p h = part_at keys a p (pos 0) h

-- what is known where both are read
known_of :
    (keys : List ℤ) (a b p : ℕ)
    → (p < 16) × (a + 16 ≤ length keys) × (b + 16 ≤ length keys) × (get_or (key_at a keys) p (pos 0) ≡ get_or (key_at b keys) p (pos 0) → ⊥)
    → SFits w64 (get_or keys (a + p) (pos 0))
    → SFits w64 (get_or keys (b + p) (pos 0))
    → Parted (key_at a keys) (key_at b keys) p
known_of keys a b p s x y =
    let z = part_long keys a s.1 in
    let k = part_long keys b s.2 in
    record {
      in_first = omega arith;
      in_second = omega arith;
      fits-first = subst (SFits w64) (sym (read keys a p s.0)) x;
      fits-second = subst (SFits w64) (sym (read keys b p s.0)) y;
      differ = s.3;
    }

pub returns-then-has_more : goal.returns-then-has_more
returns-then-has_more c =
    let a = c.args in
    let k = known_of a.keys.now a.a a.b a.p c.requires (record { sfits = omega arith }) (record { sfits = omega arith }) in
    let first = read a.keys.now a.a a.p c.requires.0 in
    let second = read a.keys.now a.b a.p c.requires.0 in
    first_none k (ap (of_z w64) first ∙ c.if-x-eq0.true) true (sym c.if-has_more.true ∙ c.has_more.ensures)

pub returns-else-has_more : goal.returns-else-has_more
returns-else-has_more c =
    let a = c.args in
    let k = known_of a.keys.now a.a a.b a.p c.requires (record { sfits = omega arith }) (record { sfits = omega arith }) in
    let first = read a.keys.now a.a a.p c.requires.0 in
    let second = read a.keys.now a.b a.p c.requires.0 in
    first_none k (ap (of_z w64) first ∙ c.if-x-eq0.true) false (sym c.if-has_more.false ∙ c.has_more.ensures)

pub returns-then-has_more-2 : goal.returns-then-has_more-2
returns-then-has_more-2 c =
    let a = c.args in
    let k = known_of a.keys.now a.a a.b a.p c.requires (record { sfits = omega arith }) (record { sfits = omega arith }) in
    let first = read a.keys.now a.a a.p c.requires.0 in
    let second = read a.keys.now a.b a.p c.requires.0 in
    second_none k (ap (of_z w64) second ∙ c.if-y-eq0.true) true (sym c.if-has_more-2.true ∙ c.has_more-then-y-eq0.ensures)

pub returns-else-has_more-2 : goal.returns-else-has_more-2
returns-else-has_more-2 c =
    let a = c.args in
    let k = known_of a.keys.now a.a a.b a.p c.requires (record { sfits = omega arith }) (record { sfits = omega arith }) in
    let first = read a.keys.now a.a a.p c.requires.0 in
    let second = read a.keys.now a.b a.p c.requires.0 in
    second_none k (ap (of_z w64) second ∙ c.if-y-eq0.true) false (sym c.if-has_more-2.false ∙ c.has_more-then-y-eq0.ensures)

pub returns : goal.returns
returns c =
    let a = c.args in
    let k = known_of a.keys.now a.a a.b a.p c.requires (record { sfits = omega arith }) (record { sfits = omega arith }) in
    let first = read a.keys.now a.a a.p c.requires.0 in
    let second = read a.keys.now a.b a.p c.requires.0 in
    c.cmp.ensures
    ∙ sym (ap₂ (λ n m. int_cmp (to_z w64 (of_z w64 n)) (to_z w64 (of_z w64 m))) first second)
    ∙ both k (λ e. c.if-x-eq0.false (ap (of_z w64) (sym first) ∙ e)) (λ e. c.if-y-eq0.false (ap (of_z w64) (sym second) ∙ e))
