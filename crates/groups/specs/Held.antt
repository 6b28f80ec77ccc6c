-- How code hands over what it has read: with the place behind it, in n bytes.
use Rattle.std.specs.Prelude.{ℕ, ◌-◌, length, Option, Some, None}
use Rattle.groups.specs.Taken.{Taken, nothing, taken}

abbrev pub handed : {A : Type 0} → ℕ → Taken A → Option (A × ℕ)
handed n nothing = None
handed n (taken a s) = Some (a, n - length s)
