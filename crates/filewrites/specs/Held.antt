-- Five numbers, as code writes a factor.
use Rattle.std.specs.Prelude.{List, ◌++◌, ℕ}
use Rattle.groups.specs.Numbers.{number_bytes}

unfoldable pub five : ℕ → ℕ → ℕ → ℕ → ℕ → List ℕ
five a b c d e = number_bytes a ++ (number_bytes b ++ (number_bytes c ++ (number_bytes d ++ number_bytes e)))
