-- The rows before the first fault are a table of their own: it is admitted, and no longer beginning is.
use mathlib.Core.Path.{◌≡◌, refl, sym, ◌∙◌, ap}
use mathlib.Core.List.{List}
use Prim.Native.Nat.{ℕ, ◌≤◌}
use native.Mathlib.Omega.{arith}
use lib.ListN.{length, take, drop, take-append-drop}
use lib.Seq.{length-take-le}
use Rattle.units.specs.declared.Row.{Row}
use Rattle.tables.specs.Rows.{Facts, Admission, admitted, stopped}
use Rattle.beginnings.specs.Beginnings.{before, admitting}
use Rattle.beginnings.proofs.Counted.{before-short, Whole, stopped_before}
use Rattle.beginnings.proofs.Later.{later_stopped, later_admitted}

module _ (rs : List Row) where
  pub kept_admitted : Whole (take (before (admitting rs)) rs)
  kept_admitted = go (admitting front) refl
    where
      n : ℕ
      n = before (admitting rs)

      front : List Row
      front = take n rs

      go : (a : Admission) → admitting front ≡ a → Whole front
      go (admitted ks) e = record { known = ks; is = e }
      go (stopped w ks) e =
          let more = later_stopped front (drop n rs) w ks e in
          absurd (omega (arith, ap before (sym (ap admitting (take-append-drop n rs)) ∙ more.1), more.2, stopped_before front w ks e, ap before e, length-take-le n rs (before-short rs)))

  pub kept-longest : (j : ℕ) (ks : List Facts) → j ≤ length rs → admitting (take j rs) ≡ admitted ks → j ≤ before (admitting rs)
  kept-longest j ks h e = omega (arith, later_admitted (take j rs) (drop j rs) ks e, length-take-le j rs h, ap (λ l. before (admitting l)) (take-append-drop j rs))
