-- A scale worked out from left to right: powers, and one turn of a loop over the list.
use mathlib.Core.Path.{◌≡◌, refl, sym, ap, ap₂, ◌∙◌}
use mathlib.Core.Bool.{true, false}
use mathlib.Core.List.{List, ◌∷◌}
use Prim.Native.Nat.{ℕ, ◌+◌, ◌≤◌, ◌<◌}
use native.Mathlib.Omega.{arith}
use native.Mathlib.Numerals.{add-one}
use lib.ListN.{length, drop, get_or, drop_of_length-le}
use lib.Seq.{drop-cons}
use lib.IntN.{pos}
use lib.Ieee.{Float, mul}
use lib.Ieee as ieee
use borrow.Author.Tests.{eq-eqb, ne_eqb}
use Rattle.exponents.specs.Outcome.{Refusal, FRACTION, Outcome, Ok, Err}
use Rattle.exponents.specs.declared.Exponent.{Exponent}
use Rattle.exponents.proofs.Holds.{bind_given, bind_refused}
use Rattle.units.specs.Prefixes.{factor_of}
use Rattle.units.specs.declared.Factor.{Factor}
use Rattle.floats.specs.Power.{one, power, power_count, tally}
use Rattle.floats.specs.Values.{exactly_one}
use Rattle.floats.proofs.Laws.{power_zero}
use Rattle.floats.proofs.Counting.{count_none}
use Rattle.tables.specs.Scale.{Numbers, doubles, counting, raise, raised_to, scale_from_lem, scale, size_by}
use Rattle.tables.specs.Rows.{Facts, scale_at}

-- ---- a power, by the exponent's denominator and the base
module _ {R : Type 0} (N : Numbers R) (a : R) (e : Exponent) where
  pub raised-whole : e.den ≡ 1 → raised_to N a e ≡ Ok (N.power a e.num)
  unfolding raised_to raise
  raised-whole h = rw (eq-eqb e.den 1 h)

  pub raised-one : (e.den ≡ 1 → ⊥) → N.exactly_one a ≡ true → raised_to N a e ≡ Ok (N.power a (pos 0))
  unfolding raised_to raise
  raised-one h k = rw (ne_eqb e.den 1 h, k)

  pub raised_not : (e.den ≡ 1 → ⊥) → N.exactly_one a ≡ false → raised_to N a e ≡ Err FRACTION
  unfolding raised_to raise
  raised_not h k = rw (ne_eqb e.den 1 h, k)

-- the same with the multiplications that it takes, as code has it
module _ (size : Float) (e : Exponent) where
  pub counted_whole : e.den ≡ 1 → raised_to (counting doubles) (tally size 0) e ≡ Ok (tally (power size e.num) (power_count e.num))
  counted_whole h = raised-whole (counting doubles) (tally size 0) e h ∙ ap (λ n. Ok (tally (power size e.num) n)) (omega arith)

  pub counted_one : (e.den ≡ 1 → ⊥) → exactly_one size ≡ true → raised_to (counting doubles) (tally size 0) e ≡ Ok (tally one 0)
  counted_one h k = raised-one (counting doubles) (tally size 0) e h k ∙ ap₂ (λ v n. Ok (tally v n)) (power_zero size) (omega (arith, count_none 0 refl))

  pub counted_not : (e.den ≡ 1 → ⊥) → exactly_one size ≡ false → raised_to (counting doubles) (tally size 0) e ≡ Err FRACTION
  counted_not h k = raised_not (counting doubles) (tally size 0) e h k

-- ---- one factor more
module _ {R : Type 0} (N : Numbers R) (size : Factor → R) (l : List Factor) (s : R) (i : ℕ) where
  pub scale_end : length l ≤ i → scale_from_lem N size s (drop i l) ≡ Ok s
  unfolding scale_from_lem
  scale_end h = ap (scale_from_lem N size s) (drop_of_length-le l h)

  module _ (d : Factor) (h : i < length l) where
    here : drop i l ≡ get_or l i d ∷ drop (i + 1) l
    here = rw (add-one, drop-cons l i d)

    pub scale_on : (p : R) → raised_to N (size (get_or l i d)) (get_or l i d).exponent ≡ Ok p → scale_from_lem N size s (drop i l) ≡ scale_from_lem N size (N.times s p) (drop (i + 1) l)
    unfolding scale_from_lem
    scale_on p e = ap (scale_from_lem N size s) here ∙ bind_given _ e

    pub scale_off : (r : Refusal) → raised_to N (size (get_or l i d)) (get_or l i d).exponent ≡ Err r → scale_from_lem N size s (drop i l) ≡ Err r
    unfolding scale_from_lem
    scale_off r e = ap (scale_from_lem N size s) here ∙ bind_refused _ e

-- ---- the loop over a definition
module _ (l : List Factor) (ks : List Facts) (j : ℕ) (acc : Float) (so_far : scale_from_lem doubles (size_by (scale_at ks)) acc (drop j l) ≡ scale doubles (size_by (scale_at ks)) l) where
  pub factors_end : length l ≤ j → Ok acc ≡ scale doubles (size_by (scale_at ks)) l
  factors_end h = sym (sym so_far ∙ scale_end doubles (size_by (scale_at ks)) l acc j h)

  module _ (f : Factor) (p t : Float) (h : j < length l) (prefix : p ≡ factor_of (get_or l j f).prefix) (is : t ≡ scale_at ks (get_or l j f).row) where
    -- what the code has raised
    abbrev powered : Outcome Float
    powered = raised_to doubles (mul ieee.binary64 p t) (get_or l j f).exponent

    there : powered ≡ raised_to doubles (size_by (scale_at ks) (get_or l j f)) (get_or l j f).exponent
    there = ap₂ (λ (p t : Float). raised_to doubles (mul ieee.binary64 p t) (get_or l j f).exponent) prefix is

    pub factor_on : (v : Float) → powered ≡ Ok v → scale_from_lem doubles (size_by (scale_at ks)) (mul ieee.binary64 acc v) (drop (j + 1) l) ≡ scale doubles (size_by (scale_at ks)) l
    factor_on v e = sym (scale_on doubles (size_by (scale_at ks)) l acc j f h v (sym there ∙ e)) ∙ so_far

    pub factor_off : (r : Refusal) → powered ≡ Err r → Err r ≡ scale doubles (size_by (scale_at ks)) l
    factor_off r e = sym (sym so_far ∙ scale_off doubles (size_by (scale_at ks)) l acc j f h r (sym there ∙ e))
