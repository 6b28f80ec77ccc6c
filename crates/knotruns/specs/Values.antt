-- What is asked of count, degree and tolerance, and of the converted values (02, order 4; readings 23 and 25).
use Rattle.std.specs.Prelude.{Bool, false, not, ◌&&◌, ◌||◌, List, [], ◌∷◌, ℕ, ltb, Float}
use Rattle.std.specs.Float.{binary64}
use Rattle.std.specs.Float.Ieee.{of_bits, lt, le}
use Rattle.std.specs.Float.Ieee.Scale.{finite}

abbrev pub plus_zero : Float
plus_zero = of_bits binary64 0

-- a tolerance: neither NaN nor infinite, and not below zero; -0 is 0
unfoldable pub tolerable : Float → Bool
tolerable t = finite t && le plus_zero t

-- ARGUMENT before all else: the count isn't 1 to 512, the degree not 1 to 9, the tolerance NaN, infinite or below zero
unfoldable pub argument_fault : ℕ → ℕ → Float → Bool
argument_fault n d t = ltb n 1 || (ltb 512 n || (ltb d 1 || (ltb 9 d || not (tolerable t))))

-- some value is NaN or infinite
unfoldable pub endless : List Float → Bool
endless [] = false
endless (x ∷ l) = not (finite x) || endless l

-- some value is below the one before it
unfoldable pub falls : List Float → Bool
falls [] = false
falls (x ∷ []) = false
falls (x ∷ y ∷ l) = lt y x || falls (y ∷ l)

-- ORDER
abbrev pub unordered : List Float → Bool
unordered l = endless l || falls l
