-- Closed examples: the shortest form, and what is refused.
use mathlib.Core.Path.{◌≡◌, refl}
use mathlib.Core.List.{[], ◌∷◌}
use lib.IntN.{pos, negsuc}
use Rattle.groups.specs.Taken.{nothing, taken, then}
use Rattle.groups.specs.Numbers.{groups, number_bytes, above, groups?, up_to?, number?, folded, unfolded}

written : (number_bytes 0 ≡ 0x00 ∷ []) × (number_bytes 127 ≡ 0x7f ∷ []) × (number_bytes 128 ≡ 0x80 ∷ 0x01 ∷ []) × (number_bytes 4294967295 ≡ 0xff ∷ 0xff ∷ 0xff ∷ 0xff ∷ 0x0f ∷ [])
unfolding number_bytes groups
written = (refl, refl, refl, refl)

-- padded, above 4294967295, six groups, cut, empty
refused :
    (number? (0x80 ∷ 0x00 ∷ []) ≡ nothing) × (number? (0xff ∷ 0xff ∷ 0xff ∷ 0xff ∷ 0x1f ∷ []) ≡ nothing) × (number? (0x80 ∷ 0x80 ∷ 0x80 ∷ 0x80 ∷ 0x80 ∷ 0x01 ∷ []) ≡ nothing)
    × (number? (0x80 ∷ []) ≡ nothing) × (number? [] ≡ nothing)
unfolding up_to? groups? then above
refused = (refl, refl, refl, refl, refl)

-- read with what stands behind it
read : (number? (0xff ∷ 0xff ∷ 0xff ∷ 0xff ∷ 0x0f ∷ 0x55 ∷ []) ≡ taken 4294967295 (0x55 ∷ [])) × (number? (0x80 ∷ 0x01 ∷ 0x00 ∷ []) ≡ taken 128 (0x00 ∷ []))
unfolding up_to? groups? then above
read = (refl, refl)

signs : (folded (pos 0) ≡ 0) × (folded (negsuc 0) ≡ 1) × (folded (pos 1) ≡ 2) × (folded (negsuc 1) ≡ 3) × (folded (negsuc 2147483647) ≡ 4294967295) × (unfolded 4294967294 ≡ pos 2147483647)
unfolding unfolded
signs = (refl, refl, refl, refl, refl, refl)
