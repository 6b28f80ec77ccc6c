-- The cases of a knot vector and of a span quotient, in the order of their refusals: one always holds, and nothing else answers.
use mathlib.Core.Path.{◌≡◌, refl, sym, ◌∙◌, ap}
use mathlib.Core.Bool.{Bool, true, false}
use mathlib.Core.List.{List, ◌∷◌, ◌++◌}
use Prim.Native.Nat.{ℕ, suc, ◌≤◌, ◌<◌}
use borrow.Author.Tests.{leb-true, leb-false, le-leb, lt-leb}
use lib.Dec.{leb}
use lib.ListN.{length}
use lib.Ieee.{Float}
use Rattle.exponents.specs.Outcome.{Refusal, ORDER, MULTIPLE, ARGUMENT, Outcome, Ok, Err, unless, bind}
use Rattle.exponents.proofs.Steps.{unless_on, unless_off, bind_on, bind_off}
use Rattle.knotruns.specs.Values.{argument_fault, unordered}
use Rattle.knotruns.specs.Runs.{Run, runs, crowded, quotient_at}
use Rattle.knotruns.specs.Knots.{converted, merged, uncrowded, vector, quotient}
use Rattle.knotruns.specs.Held.{all}
use Rattle.knotruns.proofs.Conversions.{all_given, given_all, stops, lowest, vector_fault, vector_refused, vector_given}

-- ARGUMENT for count, degree or tolerance; the refusal of the lowest knot that doesn't convert; ORDER; MULTIPLE; the runs
pub data Case (cs : List (Outcome Float)) (d : ℕ) (t : Float) : Outcome (List Run) → Type 0 where
  argument : argument_fault (length cs) d t ≡ true → Case cs d t (Err ARGUMENT)
  conversion : argument_fault (length cs) d t ≡ false → (vs : List Float) (r : Refusal) (more : List (Outcome Float)) → cs ≡ all vs ++ Err r ∷ more → Case cs d t (Err r)
  order : argument_fault (length cs) d t ≡ false → (xs : List Float) → cs ≡ all xs → unordered xs ≡ true → Case cs d t (Err ORDER)
  multiple : argument_fault (length cs) d t ≡ false → (xs : List Float) → cs ≡ all xs → unordered xs ≡ false → crowded (suc d) (runs t xs) ≡ true → Case cs d t (Err MULTIPLE)
  answer : argument_fault (length cs) d t ≡ false → (xs : List Float) → cs ≡ all xs → unordered xs ≡ false → crowded (suc d) (runs t xs) ≡ false → Case cs d t (Ok (runs t xs))

module _ (cs : List (Outcome Float)) (d : ℕ) (t : Float) where
  by_crowd : (xs : List Float) (b : Bool) → argument_fault (length cs) d t ≡ false → cs ≡ all xs → unordered xs ≡ false → crowded (suc d) (runs t xs) ≡ b → Case cs d t (unless b MULTIPLE (Ok (runs t xs)))
  by_crowd xs true f e u h = rw unless_on (multiple f xs e u h)
  by_crowd xs false f e u h = rw unless_off (answer f xs e u h)

  by_order : (xs : List Float) (b : Bool) → argument_fault (length cs) d t ≡ false → cs ≡ all xs → unordered xs ≡ b → Case cs d t (unless b ORDER (uncrowded (suc d) (runs t xs)))
  unfolding uncrowded
  by_order xs true f e h = rw unless_on (order f xs e h)
  by_order xs false f e h = rw unless_off (by_crowd xs (crowded (suc d) (runs t xs)) f e h refl)

  by_converted : (o : Outcome (List Float)) → argument_fault (length cs) d t ≡ false → converted cs ≡ o → Case cs d t (bind o (merged d t))
  unfolding merged
  by_converted (Ok xs) f e = rw bind_on (by_order xs (unordered xs) f (given_all cs xs e) refl)
  by_converted (Err r) f e = let l = lowest cs r e in rw bind_off (conversion f l.0 r l.1 l.2)

  by_fault : (b : Bool) → argument_fault (length cs) d t ≡ b → Case cs d t (unless b ARGUMENT (bind (converted cs) (merged d t)))
  by_fault true h = rw unless_on (argument h)
  by_fault false h = rw unless_off (by_converted (converted cs) h refl)

  -- THEOREM: one of the cases always holds, and the vector is its answer
  pub case : Case cs d t (vector cs d t)
  unfolding vector
  case = by_fault (argument_fault (length cs) d t) refl

-- THEOREM: nothing else answers
pub only : (cs : List (Outcome Float)) (d : ℕ) (t : Float) (o : Outcome (List Run)) → Case cs d t o → o ≡ vector cs d t
unfolding merged uncrowded
only cs d t o (argument h) = sym (vector_fault cs d t h)
only cs d t o (conversion f vs r more e) = sym (vector_refused cs d t r f (ap converted e ∙ stops vs r more))
only cs d t o (order f xs e u) = sym (vector_given cs d t xs f (ap converted e ∙ all_given xs) ∙ rw (u, unless_on))
only cs d t o (multiple f xs e u m) = sym (vector_given cs d t xs f (ap converted e ∙ all_given xs) ∙ rw (u, unless_off, m, unless_on))
only cs d t o (answer f xs e u m) = sym (vector_given cs d t xs f (ap converted e ∙ all_given xs) ∙ rw (u, unless_off, m, unless_off))

-- ---- the span quotient: the vector's refusals, then ARGUMENT for a span that isn't there

pub data SpanCase (cs : List (Outcome Float)) (d : ℕ) (t : Float) (i : ℕ) (x : Float) : Outcome Float → Type 0 where
  no_vector : (r : Refusal) → vector cs d t ≡ Err r → SpanCase cs d t i x (Err r)
  no_span : (rs : List Run) → vector cs d t ≡ Ok rs → length cs ≤ suc i → SpanCase cs d t i x (Err ARGUMENT)
  span : (rs : List Run) → vector cs d t ≡ Ok rs → suc i < length cs → SpanCase cs d t i x (Ok (quotient_at rs i x))

module _ (cs : List (Outcome Float)) (d : ℕ) (t : Float) (i : ℕ) (x : Float) where
  by_span : (rs : List Run) (b : Bool) → vector cs d t ≡ Ok rs → leb (length cs) (suc i) ≡ b → SpanCase cs d t i x (unless b ARGUMENT (Ok (quotient_at rs i x)))
  by_span rs true e h = rw unless_on (no_span rs e (leb-true (length cs) (suc i) h))
  by_span rs false e h = rw unless_off (span rs e (leb-false (length cs) (suc i) h))

  by_vector : (o : Outcome (List Run)) → vector cs d t ≡ o → SpanCase cs d t i x (bind o (λ rs. unless (leb (length cs) (suc i)) ARGUMENT (Ok (quotient_at rs i x))))
  by_vector (Ok rs) e = rw bind_on (by_span rs (leb (length cs) (suc i)) e refl)
  by_vector (Err r) e = rw bind_off (no_vector r e)

  -- THEOREM: one of these cases always holds, and the quotient is its answer
  pub span_case : SpanCase cs d t i x (quotient cs d t i x)
  unfolding quotient
  span_case = by_vector (vector cs d t) refl

  -- THEOREM: nothing else answers
  pub span_only : (o : Outcome Float) → SpanCase cs d t i x o → o ≡ quotient cs d t i x
  unfolding quotient
  span_only o (no_vector r e) = rw (e, bind_off)
  span_only o (no_span rs e h) = rw (e, bind_on, le-leb (length cs) (suc i) h, unless_on)
  span_only o (span rs e h) = rw (e, bind_on, lt-leb (length cs) (suc i) h, unless_off)
