-- The words of the promises on knots: a knot at a place, what it converts to, the lowest that is refused; and how they stand in the list of conversions that the core sees.
use mathlib.Core.Path.{◌≡◌, refl, sym, ◌∙◌, ap, ap₂}
use mathlib.Core.Bool.{Bool}
use mathlib.Core.Option.{some}
use mathlib.Core.List.{List, [], ◌∷◌, ◌++◌}
use Prim.Native.Nat.{ℕ, zero, suc, ◌<◌}
use native.Mathlib.Omega.{arith}
use lib.ListN.{length, get_elem?}
use lib.Ieee.{Float}
use Rattle.exponents.specs.Words.{All}
use Rattle.exponents.specs.Outcome.{Refusal, Outcome, Ok, Err, apply}
use Rattle.exponents.proofs.Each.{Along, done, next, all_imp}
use Rattle.exponents.proofs.Holds.{one_answer}
use Rattle.units.specs.declared.Factors.{Factors}
use Rattle.units.specs.declared.Quantity.{Quantity}
use Rattle.units.specs.declared.Rows.{Rows}
use Rattle.quantities.specs.Calls.{convert_merged, merged_value}
use Rattle.knotruns.specs.Values.{argument_fault}
use Rattle.knotruns.specs.Runs.{runs_from, runs, crowded}
use Rattle.knotruns.specs.Held.{all}
use Rattle.knotruns.proofs.Turns.{on_next}
use Rattle.knotruns.proofs.Answers.{Converts}
use Rattle.knots.specs.Calls.{conversions}
use Rattle.knots.specs.declared.Rule.{Rule}
use Rattle.knots.specs.declared.Span.{Span}

-- the knot at place i is q
abbrev pub At : List Quantity → ℕ → Quantity → Type 0
At ks i q = get_elem? ks i ≡ some q

-- the span whose left knot is at place i, and x in it
abbrev pub span_of : Rule → ℕ → Float → Span
span_of u i x = record { rule = u; x = x; at = i }

-- ARGUMENT about count, degree or tolerance
abbrev pub bad_arguments : List Quantity → Rule → Bool
bad_arguments ks u = argument_fault (length ks) u.degree u.tolerance

-- MULTIPLE, of values in order: a run of more knots than the degree plus one
abbrev pub overfull : Rule → List Float → Bool
overfull u xs = crowded (suc u.degree) (runs u.tolerance xs)

module _ (t : Rows) (m : Factors) where
  -- the knot's complete merged conversion to the unit m answers, with the value x
  pub record Becomes (q : Quantity) (x : Float) : Type 0 where
    pub quantity : Quantity
    pub answers : convert_merged t q m ≡ Ok quantity
    pub value_is : quantity.value ≡ x

  abbrev pub Convertible : Quantity → Type 0
  Convertible q = (x : Float) × Becomes q x

  -- those of all knots do, with the values xs in their order
  abbrev pub Become : List Quantity → List Float → Type 0
  Become ks xs = Along Becomes ks xs

  -- r refuses the conversion of the knot at a place, and those of all before it answer
  pub record Lowest (ks : List Quantity) (r : Refusal) : Type 0 where
    pub place : ℕ
    pub knot : Quantity
    pub there : At ks place knot
    pub refuses : convert_merged t knot m ≡ Err r
    pub before : (j : ℕ) (q : Quantity) → j < place → At ks j q → Convertible q

  -- ---- a conversion and its value: the one place that opens it

  value_by : (q : Quantity) (o : Outcome Quantity) → convert_merged t q m ≡ o → merged_value t q m ≡ apply (λ p. p.value) o
  unfolding merged_value
  value_by q o e = ap (apply (λ p. p.value)) e

  value_of : {q : Quantity} {x : Float} → Becomes q x → merged_value t q m ≡ Ok x
  value_of {q} b = value_by q _ b.answers ∙ ap Ok b.value_is

  of_value : (q : Quantity) (x : Float) → merged_value t q m ≡ Ok x → Becomes q x
  of_value q x h = go (convert_merged t q m) refl
    where
      go : (o : Outcome Quantity) → convert_merged t q m ≡ o → Becomes q x
      go (Ok p) e = record { quantity = p; answers = e; value_is = one_answer (sym (value_by q (Ok p) e) ∙ h) }
      go (Err r) e =
          let g : Err r ≡ Ok x = sym (value_by q (Err r) e) ∙ h in
          let z : ◌≡◌ {A = ℕ} 0 1 = cc in
          absurd (omega arith)

  refusal_of_lem : (q : Quantity) (r : Refusal) → merged_value t q m ≡ Err r → convert_merged t q m ≡ Err r
  refusal_of_lem q r h = go (convert_merged t q m) refl
    where
      go : (o : Outcome Quantity) → convert_merged t q m ≡ o → convert_merged t q m ≡ Err r
      go (Ok p) e =
          let g : Ok p.value ≡ Err r = sym (value_by q (Ok p) e) ∙ h in
          let z : ◌≡◌ {A = ℕ} 0 1 = cc in
          absurd (omega arith)
      go (Err w) e =
          let g : ◌≡◌ {A = Outcome Float} (Err w) (Err r) = sym (value_by q (Err w) e) ∙ h in
          let n : w ≡ r = cc in
          e ∙ ap Err n

  -- ---- in the list of conversions

  pub all_of : {ks : List Quantity} {xs : List Float} → Become ks xs → conversions t ks m ≡ all xs
  all_of done = refl
  all_of (next b a) = ap₂ (λ o cs. o ∷ cs) (value_of b) (all_of a)

  pub of-all : (ks : List Quantity) (xs : List Float) → conversions t ks m ≡ all xs → Become ks xs
  of-all [] [] h = done
  of-all [] (x ∷ xs) h = let z : ◌≡◌ {A = ℕ} 0 1 = cc in absurd (omega arith)
  of-all (q ∷ ks) [] h = let z : ◌≡◌ {A = ℕ} 0 1 = cc in absurd (omega arith)
  of-all (q ∷ ks) (x ∷ xs) h = next (of_value q x (cc)) (of-all ks xs (cc))

  pub become_at : {ks : List Quantity} {xs : List Float} → Become ks xs → (i : ℕ) (q : Quantity) → At ks i q → Convertible q
  become_at done i q h = let z : ◌≡◌ {A = ℕ} 0 1 = cc in absurd (omega arith)
  become_at (next {a = k} {b = x} b a) zero q h = let e : q ≡ k = cc in rw e (x, b)
  become_at (next b a) (suc i) q h = become_at a i q h

  pub at_place : (ks : List Quantity) (i : ℕ) {q : Quantity} {x : Float} → At ks i q → Becomes q x → Converts (conversions t ks m) i x
  at_place [] i h b = let z : ◌≡◌ {A = ℕ} 0 1 = cc in absurd (omega arith)
  at_place (k ∷ ks) zero {q} h b = let e : k ≡ q = cc in rw e (value_of b)
  at_place (k ∷ ks) (suc i) h b = at_place ks i h b

  -- the knot there, and its conversion
  pub record Knot (ks : List Quantity) (i : ℕ) (x : Float) : Type 0 where
    pub knot : Quantity
    pub there : At ks i knot
    pub becomes : Becomes knot x

  knot_on : (k : Quantity) (ks : List Quantity) (i : ℕ) (x : Float) → Knot ks i x → Knot (k ∷ ks) (suc i) x
  knot_on k ks i x r = record { knot = r.knot; there = r.there; becomes = r.becomes }

  pub knot_at : (ks : List Quantity) (i : ℕ) (x : Float) → Converts (conversions t ks m) i x → Knot ks i x
  knot_at [] i x h = let z : ◌≡◌ {A = ℕ} 0 1 = cc in absurd (omega arith)
  knot_at (k ∷ ks) zero x h = record { knot = k; there = refl; becomes = of_value k x h }
  knot_at (k ∷ ks) (suc i) x h = knot_on k ks i x (knot_at ks i x h)

  -- some knot converts to x
  abbrev pub OfKnot : List Quantity → Float → Type 0
  OfKnot ks x = (i : ℕ) × Knot ks i x

  pub all_knots : {ks : List Quantity} {xs : List Float} → Become ks xs → All (OfKnot ks) xs
  all_knots done = tt
  all_knots (next {a = k} {l = l} {m = m} b a) =
      ((0, record { knot = k; there = refl; becomes = b }), all_imp {P = OfKnot l} {Q = OfKnot (k ∷ l)} m (λ x p. (suc p.0, knot_on k l p.0 x p.1)) (all_knots a))

  -- the lowest refused, behind knots that all convert
  pub lowest-of : (ks : List Quantity) (vs : List Float) (r : Refusal) (more : List (Outcome Float)) → conversions t ks m ≡ all vs ++ Err r ∷ more → Lowest ks r
  lowest-of [] [] r more h = let z : ◌≡◌ {A = ℕ} 0 1 = cc in absurd (omega arith)
  lowest-of [] (v ∷ vs) r more h = let z : ◌≡◌ {A = ℕ} 0 1 = cc in absurd (omega arith)
  lowest-of (k ∷ ks) [] r more h = record { place = 0; knot = k; there = refl; refuses = refusal_of_lem k r (cc); before = λ j q l a. absurd (omega arith) }
  lowest-of (k ∷ ks) (v ∷ vs) r more h =
      let l = lowest-of ks vs r more (cc) in
      record { place = suc l.place; knot = l.knot; there = l.there; refuses = l.refuses; before = earlier (of_value k v (cc)) l }
    where
      earlier : Becomes k v → (l : Lowest ks r) → (j : ℕ) (q : Quantity) → j < suc l.place → At (k ∷ ks) j q → Convertible q
      earlier b l zero q h a = let e : q ≡ k = cc in rw e (v, b)
      earlier b l (suc j) q h a = l.before j q (omega arith) a

  -- behind them: what the core sees
  pub behind : (ks : List Quantity) (i : ℕ) (k : Quantity) (r : Refusal) → At ks i k → convert_merged t k m ≡ Err r → ((j : ℕ) (q : Quantity) → j < i → At ks j q → Convertible q) →
      (vs : List Float) × (more : List (Outcome Float)) × (conversions t ks m ≡ all vs ++ Err r ∷ more)
  behind [] i k r a h b = let z : ◌≡◌ {A = ℕ} 0 1 = cc in absurd (omega arith)
  behind (q ∷ ks) zero k r a h b =
      let e : q ≡ k = cc in
      ([], conversions t ks m, ap (λ o. o ∷ conversions t ks m) (ap (λ p. merged_value t p m) e ∙ value_by k (Err r) h))
  behind (q ∷ ks) (suc i) k r a h b =
      let f = b 0 q (omega arith) refl in
      let s = behind ks i k r a h (λ j p l c. b (suc j) p (omega arith) c) in
      (f.0 ∷ s.0, s.1, ap₂ (λ o cs. o ∷ cs) (value_of f.1) s.2)

-- ---- what holds of each value holds of each run's first

first_from : (P : Float → Type 0) (t f : Float) (k : ℕ) (l : List Float) → P f → All P l → All (λ r. P r.first) (runs_from t f k l)
unfolding runs_from
first_from P t f k [] p h = (p, tt)
first_from P t f k (x ∷ l) p h = on_next (All (λ r. P r.first)) t f x k l (λ e. first_from P t f (suc k) l p h.1) (λ e. (p, first_from P t x 1 l h.0 h.1))

pub all_firsts : (P : Float → Type 0) (t : Float) (xs : List Float) → All P xs → All (λ r. P r.first) (runs t xs)
unfolding runs
all_firsts P t [] h = tt
all_firsts P t (x ∷ l) h = first_from P t x 1 l h.0 h.1
