-- How code makes keys, holds several in one array, and hands over how two compare.
use Rattle.std.specs.Prelude.{Bool, true, false, List, [], ◌∷◌, ℤ, pos, negsuc, take, drop}
use Prim.Native.Nat.{ℕ, zero, suc}
use Prim.Native.Nat as native
use Rattle.std.specs.Int.Signed.{quot_z}
use Rattle.exponents.specs.declared.Exponent.{Exponent}
use Rattle.keys.specs.Key.{turn, whole}
use Rattle.std.specs.declared.cmp.Ordering.{Ordering}
use Rattle.std.specs.declared.cmp.Ordering.TheVariants.{Less, Equal, Greater}

-- how code hands an order over
abbrev pub sense_of : native.Ordering → Ordering
sense_of native.Ordering.lt = Less
sense_of native.Ordering.eq = Equal
sense_of native.Ordering.gt = Greater

-- the key that stands at place a of an array of keys, sixteen numbers each
abbrev pub key_at : ℕ → List ℤ → List ℤ
key_at a ks = take 16 (drop a ks)

-- is there one other than zero?
unfoldable pub more : List ℤ → Bool
more [] = false
more (pos zero ∷ k) = more k
more (pos (suc n) ∷ k) = true
more (negsuc n ∷ k) = true

-- one number of a reduced key: of the exponent x, turned by s, divided by g
unfoldable pub part : Bool → ℕ → ℕ → Exponent → ℤ
part s g m x = quot_z (turn s (whole m x)) (pos g)
