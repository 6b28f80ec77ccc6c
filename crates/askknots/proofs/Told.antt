-- What a call on a knot vector leaves: 512 places have room for every vector.
use mathlib.Core.Path.{◌≡◌, refl, sym, ap, ◌∙◌}
use mathlib.Core.List.{List, [], ◌∷◌, map, ◌++◌}
use Prim.Native.Nat.{ℕ, ◌≤◌}
use native.Mathlib.Omega.{arith}
use borrow.Author.Tests.{le-ltb}
use lib.ListN.{length, take, drop, length-map, length-append}
use lib.Ieee.{Float}
use Rattle.exponents.specs.Outcome.{Refusal, Outcome, Ok, Err, apply}
use Rattle.exponents.proofs.Numbers.{apply_answers, apply_refuses}
use Rattle.exponents.proofs.Steps.{unless_off, bind_on, bind_off}
use Rattle.units.specs.declared.Rows.{Rows}
use Rattle.knotruns.specs.Runs.{Run, firsts, multiplicities}
use Rattle.knotruns.specs.Knots.{roomy, firsts_into, times_into}
use Rattle.knotruns.proofs.Answers.{answered}
use Rattle.knotruns.proofs.Multiplicities.{number_within}
use Rattle.knots.specs.Calls.{knots_in, knot_vector}
use Rattle.knots.specs.Held.{Vectored}
use Rattle.knots.specs.declared.Rule.{Rule}

-- no vector has more than 512 runs
pub few_runs : (t : Rows) (s : List ℕ) (u : Rule) (rs : List Run) → knot_vector t (knots_in s) u ≡ Ok rs → length rs ≤ 512
unfolding knot_vector
few_runs t s u rs e = omega (arith, (number_within _ _ _ rs e).1, (answered _ _ _ rs e).arguments.most)

room_enough : (o : Outcome (List Run)) (a b : ℕ) → a ≡ 512 → b ≡ 512 → ((rs : List Run) → o ≡ Ok rs → length rs ≤ 512) → roomy a b o ≡ o
unfolding roomy
room_enough (Ok rs) a b p q h =
    let l = h rs refl in
    bind_on rs _ ∙ rw (p, q, le-ltb 512 (length rs) l, unless_off)
room_enough (Err r) a b p q h = bind_off r _

pub record Runs (t : Rows) (s : List ℕ) (u : Rule) (n : ℕ) (fs : List Float) (ks : List ℕ) : Type 0 where
  pub runs : List Run
  pub is : knot_vector t (knots_in s) u ≡ Ok runs
  pub many : n ≡ length runs
  pub few : n ≤ 512
  pub values : take n fs ≡ firsts runs
  pub counts : take n ks ≡ multiplicities runs
  pub long : n ≤ length fs
  pub as_long : n ≤ length ks

front : {A : Type 0} (g : Run → A) (rs : List Run) (l : List A) → take (length rs) (map g rs ++ l) ≡ map g rs
front g [] l = refl
front g (r ∷ rs) l = ap (λ m. g r ∷ m) (front g rs l)

front_long : {A : Type 0} (g : Run → A) (rs : List Run) (l m : List A) (n : ℕ) → n ≡ length rs → m ≡ map g rs ++ l → n ≤ length m
front_long g rs l m n h e = omega (arith, ap length e, length-append (map g rs) l, length-map rs g)

module _ (t : Rows) (s : List ℕ) (u : Rule) (fs fs' : List Float) (ks ks' : List ℕ) (p : length fs ≡ 512) (q : length ks ≡ 512) where
  enough : roomy (length fs) (length ks) (knot_vector t (knots_in s) u) ≡ knot_vector t (knots_in s) u
  enough = room_enough (knot_vector t (knots_in s) u) (length fs) (length ks) p q (few_runs t s u)

  pub vector_runs : (n : ℕ) → Vectored t s u (Ok n) fs fs' ks ks' → Runs t s u n fs' ks'
  vector_runs n v =
      let w = apply_answers length (knot_vector t (knots_in s) u) n (sym (v.told ∙ ap (apply length) enough)) in
      let rs = w.answer in
      let many = sym w.made in
      let o = enough ∙ w.is in
      let f = v.firsts ∙ ap (λ o. firsts_into o fs) o in
      let k = v.times ∙ ap (λ o. times_into o ks) o in
      record {
        runs = rs;
        is = w.is;
        many = many;
        few = omega (arith, few_runs t s u rs w.is, many);
        values = ap (λ l. take n l) f ∙ ap (λ k. take k (firsts rs ++ drop (length rs) fs)) many ∙ front (λ r. r.first) rs (drop (length rs) fs);
        counts = ap (λ l. take n l) k ∙ ap (λ k. take k (multiplicities rs ++ drop (length rs) ks)) many ∙ front (λ r. r.times) rs (drop (length rs) ks);
        long = front_long (λ r. r.first) rs _ _ n many f;
        as_long = front_long (λ r. r.times) rs _ _ n many k;
      }

  pub vector_refuses : (r : Refusal) → Vectored t s u (Err r) fs fs' ks ks' → knot_vector t (knots_in s) u ≡ Err r
  vector_refuses r v = apply_refuses length (knot_vector t (knots_in s) u) r (sym (v.told ∙ ap (apply length) enough))
