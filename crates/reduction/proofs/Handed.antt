-- Base exponents as code hands them over: there is one for each base row.
use mathlib.Core.Path.{◌≡◌, refl, ap, ◌∙◌}
use mathlib.Core.List.{List}
use Prim.Native.Nat.{ℕ, zero, suc}
use lib.ListN.{length, length-map}
use Rattle.exponents.specs.Outcome.{Ok}
use Rattle.exponents.specs.declared.Exponent.{Exponent}
use Rattle.exponents.proofs.Holds.{take_out, holds_any}
use Rattle.units.specs.declared.Factor.{Factor}
use Rattle.tables.specs.Lists.{base_at, base}
use Rattle.tables.specs.Rows.{places}
use Rattle.tables.specs.Held.{View, view_at, view_bases}
use Rattle.exponents.proofs.Each.{each_holds, along_length}

long_places : (p n : ℕ) → length (places p n) ≡ n
unfolding places
long_places p zero = refl
long_places p (suc n) = ap suc (long_places (suc p) n)

pub base_long : (v : View) (n : ℕ) (fs : List Factor) (es : List Exponent) → base (view_bases v n) fs ≡ Ok es → length es ≡ n
unfolding base
base_long v n fs es e = along_length (take_out (each_holds (base_at fs) (λ b. holds_any (base_at fs b)) (view_bases v n)) e) ∙ length-map (places 0 n) (view_at v) ∙ long_places 0 n
