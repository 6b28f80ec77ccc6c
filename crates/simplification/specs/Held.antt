-- How code holds the groups that are done, and hands simplified values over.
use Rattle.std.specs.Prelude.{List, ℕ, ◌+◌, ◌≤◌, ◌<◌, length, drop}
use Rattle.exponents.specs.Outcome.{Outcome, apply}
use Rattle.units.specs.declared.Factor.{Factor}
use Rattle.tables.specs.declared.Items.{Items}
use Rattle.tables.specs.Held.{View, rules_by, Resolved, pack_items}
use Rattle.targets.specs.Held.{leading}
use Rattle.units.specs.declared.Quantity.{Quantity}
use Rattle.simplification.specs.Steps.{Amount, quantity_of, grown}
use Rattle.simplification.specs.declared.steps.Progress.{Progress}

-- a value and its list as a new quantity
abbrev pub handed : Outcome Amount → Outcome Quantity
handed o = apply quantity_of o

-- ---- the groups that are done

-- those before place `next`
abbrev pub progress_of : View → ℕ → Amount → Progress
progress_of v next a = record { unit = pack_items v a.1; factor = a.0; next = next }

-- the group at place `next` of a list
abbrev pub next_group : View → Progress → List Factor → List Factor
next_group v p cs = leading v.alike (drop p.next cs)

-- the groups before it, and it
abbrev pub with_group : View → ℕ → Progress → List Factor → List Factor → Outcome Progress
with_group v n p us cs = apply (progress_of v (p.next + length (next_group v p cs))) (grown (rules_by v n) p.factor us (next_group v p cs))

-- it is the turn of a group of cs, held as c; the targets before it, joined, are us
pub record Grows (v : View) (p : Progress) (c : Items) (us cs : List Factor) : Type 0 where
  pub whole : Resolved v c cs
  pub done : Resolved v p.unit us
  pub fewer : length us ≤ p.next
  pub more : p.next < length cs
