-- From filled values to the core: the count, the lowest refused knot, and values that are all there.
use mathlib.Core.Path.{◌≡◌, refl, sym, ◌∙◌, ap}
use mathlib.Core.Bool.{true, false}
use mathlib.Core.List.{List}
use Prim.Native.Nat.{ℕ, ◌-◌, ◌*◌, ◌≤◌, ◌<◌}
use native.Mathlib.Omega.{arith}
use lib.ListN.{length, take, length-map}
use lib.Seq.{length-take-le}
use lib.Ieee.{Float}
use Rattle.exponents.specs.Outcome.{Refusal, ARGUMENT, Ok, Err}
use Rattle.exponents.proofs.Numbers.{refuses}
use Rattle.exponents.proofs.Steps.{bind_off}
use Rattle.units.specs.declared.Factors.{Factors}
use Rattle.units.specs.declared.Rows.{Rows}
use Rattle.quantities.specs.Calls.{merged_value}
use Rattle.wire.specs.Arguments.{many_in}
use Rattle.wire.specs.Bytes.{run_at}
use Rattle.wire.specs.Records.{quantity_at}
use Rattle.wire.proofs.Runs.{length_run_at, many_inside}
use Rattle.knotruns.specs.Values.{argument_fault}
use Rattle.knotruns.specs.Knots.{converted, vector, quotient}
use Rattle.knotruns.specs.Held.{all}
use Rattle.knotruns.proofs.Conversions.{sound, vector_fault, vector_refused}
use Rattle.knots.specs.declared.Rule.{Rule}
use Rattle.knots.specs.declared.Span.{Span}
use Rattle.knots.specs.Calls.{knots_in, conversions, knot_vector, span_quotient}
use Rattle.knots.specs.Held.{Filling}

module _ (t : Rows) (m : Factors) (s : List ℕ) (n : ℕ) (e : n ≡ many_in 336 512 (length s)) where
  -- the knots that code goes through are all
  all_knots : run_at quantity_at 336 n s 0 ≡ knots_in s
  unfolding knots_in
  all_knots = ap (λ n. run_at quantity_at 336 n s 0) e

  -- as many conversions as knots
  count_is : length (conversions t (knots_in s) m) ≡ n
  count_is = length-map (knots_in s) (λ q. merged_value t q m) ∙ ap length (sym all_knots) ∙ length_run_at quantity_at 336 n s 0

  fault_is : (d : ℕ) (x : Float) → argument_fault (length (conversions t (knots_in s) m)) d x ≡ argument_fault n d x
  fault_is d x = ap (λ n. argument_fault n d x) count_is

  -- a refusal among the conversions
  refuses_with : (r : Refusal) (vs : List Float) → Filling (conversions t (run_at quantity_at 336 n s 0) m) (Err r) vs → converted (conversions t (knots_in s) m) ≡ Err r
  refuses_with r vs f = ap (λ ks. converted (conversions t ks m)) (sym all_knots) ∙ refuses (converted (conversions t (run_at quantity_at 336 n s 0) m)) r f.tells

  -- all there: the values as the core is lent them
  all_there : (vs : List Float) → Filling (conversions t (run_at quantity_at 336 n s 0) m) (Ok tt) vs → conversions t (knots_in s) m ≡ all (take n vs)
  all_there vs f =
      ap (λ ks. conversions t ks m) (sym all_knots) ∙ f.there refl
      ∙ ap (λ k. all (take k vs)) (ap (λ ks. length (conversions t ks m)) all_knots ∙ count_is)

-- what is asked of the knots' bytes, where count, degree and tolerance are in order
pub record Few (s : List ℕ) (n : ℕ) : Type 0 where
  pub some : 0 < n
  pub most : n ≤ 512
  pub inside : n * 336 ≤ length s

pub few : (s : List ℕ) (n d : ℕ) (x : Float) → n ≡ many_in 336 512 (length s) → argument_fault n d x ≡ false → Few s n
few s n d x e h =
    let a = sound n d x h in
    let l = many_inside 336 512 (length s) (n - 1) (omega arith) (omega (arith, a.most, e)) (omega (arith, a.some, e)) in
    record { some = a.some; most = a.most; inside = omega (arith, a.some, l) }

pub taken : (vs : List Float) (n : ℕ) → n ≤ length vs → length (take n vs) ≡ n
taken vs n h = length-take-le n vs h

-- ---- what a call hands over: ARGUMENT first; then the refusal of the lowest knot that is refused; then what the core makes of the values
module _ (t : Rows) (s : List ℕ) (n : ℕ) (e : n ≡ many_in 336 512 (length s)) where
  module _ (u : Rule) where
    pub vector_faulty : argument_fault n u.degree u.tolerance ≡ true → knot_vector t (knots_in s) u ≡ Err ARGUMENT
    unfolding knot_vector
    vector_faulty h = vector_fault _ u.degree u.tolerance (fault_is t u.unit s n e u.degree u.tolerance ∙ h)

    pub vector_stopped : (r : Refusal) (vs : List Float) → argument_fault n u.degree u.tolerance ≡ false → Filling (conversions t (run_at quantity_at 336 n s 0) u.unit) (Err r) vs → knot_vector t (knots_in s) u ≡ Err r
    unfolding knot_vector
    vector_stopped r vs h f = vector_refused _ u.degree u.tolerance r (fault_is t u.unit s n e u.degree u.tolerance ∙ h) (refuses_with t u.unit s n e r vs f)

    pub vector_filled : (vs : List Float) → Filling (conversions t (run_at quantity_at 336 n s 0) u.unit) (Ok tt) vs → knot_vector t (knots_in s) u ≡ vector (all (take n vs)) u.degree u.tolerance
    unfolding knot_vector
    vector_filled vs f = ap (λ cs. vector cs u.degree u.tolerance) (all_there t u.unit s n e vs f)

  module _ (a : Span) where
    -- a quotient is refused as its vector is
    passed : (r : Refusal) → knot_vector t (knots_in s) a.rule ≡ Err r → span_quotient t (knots_in s) a ≡ Err r
    unfolding knot_vector span_quotient quotient
    passed r h = rw (h, bind_off)

    pub span_faulty : argument_fault n a.rule.degree a.rule.tolerance ≡ true → span_quotient t (knots_in s) a ≡ Err ARGUMENT
    span_faulty h = passed ARGUMENT (vector_faulty a.rule h)

    pub span_stopped : (r : Refusal) (vs : List Float) → argument_fault n a.rule.degree a.rule.tolerance ≡ false → Filling (conversions t (run_at quantity_at 336 n s 0) a.rule.unit) (Err r) vs → span_quotient t (knots_in s) a ≡ Err r
    span_stopped r vs h f = passed r (vector_stopped a.rule r vs h f)

    pub span_filled : (vs : List Float) → Filling (conversions t (run_at quantity_at 336 n s 0) a.rule.unit) (Ok tt) vs → span_quotient t (knots_in s) a ≡ quotient (all (take n vs)) a.rule.degree a.rule.tolerance a.at a.x
    unfolding span_quotient
    span_filled vs f = ap (λ cs. quotient cs a.rule.degree a.rule.tolerance a.at a.x) (all_there t a.rule.unit s n e vs f)
