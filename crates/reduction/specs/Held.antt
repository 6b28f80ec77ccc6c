-- How code works base exponents out, factor by factor, and hands over which unit is the smaller.
use Rattle.std.specs.Prelude.{◌≡◌, Bool, true, false, List, ℕ, ◌-◌, ◌≤◌, ◌<◌, drop, get_or, replicate, Option, Some, None}
use Rattle.exponents.specs.Outcome.{Refusal, Outcome, Ok, Err, apply}
use Rattle.exponents.specs.Fractions.{nought}
use Rattle.units.specs.declared.Factor.{Factor}
use Rattle.tables.specs.Lists.{base_at}
use Rattle.tables.specs.Held.{View, view_at}
use Rattle.reduction.specs.declared.bases.Partial.{Partial}
use Rattle.reduction.specs.declared.reduce.Smaller.{Smaller}
use Rattle.reduction.specs.declared.reduce.Smaller.TheVariants.{First, Second}

-- where the sums end: past the last base row, or at one that refuses
abbrev pub Ends : View → ℕ → List Factor → ℕ → Option Refusal → Type 0
Ends v n fs stop None = n ≤ stop
Ends v n fs stop (Some r) = (stop < n) × (base_at fs (view_at v stop) ≡ Err r)

-- the list fs is worked out at the first n base rows: it answers before `stop`, and refuses there if that isn't the end
pub record Summed (v : View) (n : ℕ) (fs : List Factor) (p : Partial) : Type 0 where
  pub within : p.stop ≤ n
  pub sums : (s : ℕ) → s < p.stop → base_at fs (view_at v s) ≡ Ok (get_or p.at s nought)
  pub ends : Ends v n fs p.stop p.refusal
  -- past the base rows
  pub clean : drop n p.at ≡ replicate (16 - n) nought

-- the first where its scale is at most the second's
abbrev pub smaller : Bool → Smaller
smaller true = First
smaller false = Second

abbrev pub smaller_of : Outcome Bool → Outcome Smaller
smaller_of = apply smaller
