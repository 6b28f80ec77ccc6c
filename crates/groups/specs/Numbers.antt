-- Numbers of a table file (02, order 1): groups of seven bits, the low one first, the high bit set on all but the last; the shortest form only. Signed numbers are folded first.
use Rattle.std.specs.Prelude.{List, [], ◌∷◌, ℕ, zero, suc, ◌+◌, ◌*◌, ◌/◌, ◌%◌, ltb, leb, eqb, ℤ, pos, negsuc}
use Rattle.exponents.specs.Words.{pick}
use Rattle.groups.specs.Taken.{Taken, nothing, taken, provided, then}

-- ---- written

-- x in at most w groups
unfoldable pub groups : ℕ → ℕ → List ℕ
groups zero x = []
groups (suc w) x = pick (ltb x 128) (x ∷ []) ((x % 128 + 128) ∷ groups w (x / 128))

-- x up to 4294967295
unfoldable pub number_bytes : ℕ → List ℕ
number_bytes x = groups 5 x

-- ---- read

-- the shortest form: a group g, and in the groups behind it v, which isn't 0
unfoldable pub above : ℕ → ℕ → List ℕ → Taken ℕ
above g v s = pick (eqb v 0) nothing (taken (v * 128 + g) s)

-- a number in at most w groups
unfoldable pub groups? : ℕ → List ℕ → Taken ℕ
groups? zero s = nothing
groups? (suc w) [] = nothing
groups? (suc w) (b ∷ s) = pick (ltb b 128) (taken b s) (then (groups? w s) (above (b % 128)))

-- a number of at most n
unfoldable pub up_to? : ℕ → List ℕ → Taken ℕ
up_to? n s = then (groups? 5 s) (λ v s₁. provided (leb v n) (taken v s₁))

abbrev pub number? : List ℕ → Taken ℕ
number? s = up_to? 4294967295 s

-- ---- signed numbers: 0, -1, 1, -2 are 0, 1, 2, 3

abbrev pub folded : ℤ → ℕ
folded (pos n) = 2 * n
folded (negsuc n) = 2 * n + 1

unfoldable pub unfolded : ℕ → ℤ
unfolded x = pick (eqb (x % 2) 0) (pos (x / 2)) (negsuc (x / 2))

unfoldable pub signed? : List ℕ → Taken ℤ
signed? s = then (number? s) (λ v s₁. taken (unfolded v) s₁)
