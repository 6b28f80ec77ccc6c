-- What the knot vector and the span quotient promise (02, order 4; readings 23 to 28), at the calls: for any table, any knots and any rule.
use mathlib.Core.Path.{◌≡◌, refl, sym, ◌∙◌, ap, ap₂}
use mathlib.Core.Bool.{Bool, true, false}
use mathlib.Core.Logic.{◌↔◌}
use mathlib.Core.List.{List, ◌∷◌, map}
use Prim.Native.Nat.{ℕ, suc, ◌+◌, ◌≤◌, ◌<◌}
use native.Mathlib.Omega.{arith}
use lib.Dec.{T}
use lib.ListN.{length, get_or, length-map}
use lib.Ieee.{Float, binary64, nan, sub, lt, le}
use lib.Ieee.Scale.{finite}
use Rattle.exponents.specs.Words.{pick, All}
use Rattle.exponents.specs.Outcome.{Refusal, ORDER, MULTIPLE, ARGUMENT, Outcome, Ok, Err}
use Rattle.exponents.proofs.Each.{Along, done, next}
use Rattle.floats.specs.Power.{one}
use Rattle.units.specs.declared.Factors.{Factors}
use Rattle.units.specs.declared.Quantity.{Quantity}
use Rattle.units.specs.declared.Rows.{Rows}
use Rattle.quantities.specs.Calls.{merged_value}
use Rattle.knotruns.specs.Values.{plus_zero, argument_fault, unordered}
use Rattle.knotruns.specs.Runs.{Run, joins, runs, run_of, value_at, merged_at, ratio, quotient_at}
use Rattle.knotruns.specs.Knots.{vector, quotient}
use Rattle.knotruns.proofs.Conversions.{Sound}
use Rattle.knotruns.proofs.Answers.{Answered, answered, converts-at}
use Rattle.knotruns.proofs.Ordered.{finite_at, next_at}
use Rattle.knotruns.proofs.Spans.{value_is, merged_is, standing_first, standing_on}
use Rattle.knotruns.proofs.Apart.{Apart}
use Rattle.knotruns.proofs.Multiplicities as multiplicities
use Rattle.knotruns.proofs.Multiplicities.{total}
use Rattle.knotruns.proofs.Rising as rising
use Rattle.knotruns.proofs.Rising.{distinct}
use Rattle.knotruns.proofs.Stands as standing
use Rattle.knotruns.proofs.Stands.{Stands}
use Rattle.knotruns.proofs.Quotients as quotients
use Rattle.knotruns.proofs.Joining as joining
use Rattle.knotruns.proofs.Joining.{begins}
use Rattle.knotruns.proofs.Groups as grouping
use Rattle.knotruns.proofs.Groups.{Group, knots, Grouped, run_of_group}
use Rattle.knotruns.proofs.Cases as core
use Rattle.knots.specs.Calls.{conversions, knot_vector, span_quotient}
use Rattle.knots.specs.declared.Rule.{Rule}
use Rattle.knotpromises.proofs.Words.{At, span_of, bad_arguments, overfull, Becomes, Convertible, Become, Lowest, Knot, OfKnot, all_of, of-all, become_at, at_place, knot_at, all_knots, lowest-of, behind, all_firsts}

-- the cases of a knot vector, in the order of 02's refusals: count, degree or tolerance; the lowest knot that doesn't convert; then of all values, NaN, an infinity or a fall; a run of over degree plus one knots; the runs
pub data Case (t : Rows) (ks : List Quantity) (u : Rule) : Outcome (List Run) → Type 0 where
  argument : bad_arguments ks u ≡ true → Case t ks u (Err ARGUMENT)
  conversion : (r : Refusal) → bad_arguments ks u ≡ false → Lowest t u.unit ks r → Case t ks u (Err r)
  order : (xs : List Float) → bad_arguments ks u ≡ false → Become t u.unit ks xs → unordered xs ≡ true → Case t ks u (Err ORDER)
  multiple : (xs : List Float) → bad_arguments ks u ≡ false → Become t u.unit ks xs → unordered xs ≡ false → overfull u xs ≡ true → Case t ks u (Err MULTIPLE)
  answer : (xs : List Float) → bad_arguments ks u ≡ false → Become t u.unit ks xs → unordered xs ≡ false → overfull u xs ≡ false → Case t ks u (Ok (runs u.tolerance xs))

-- those of a span quotient: the vector's refusals, then ARGUMENT for a span that isn't there; the quotient
pub data SpanCase (t : Rows) (ks : List Quantity) (u : Rule) (i : ℕ) (x : Float) : Outcome Float → Type 0 where
  no_vector : (r : Refusal) → knot_vector t ks u ≡ Err r → SpanCase t ks u i x (Err r)
  no_span : (rs : List Run) → knot_vector t ks u ≡ Ok rs → length ks ≤ suc i → SpanCase t ks u i x (Err ARGUMENT)
  span : (rs : List Run) → knot_vector t ks u ≡ Ok rs → suc i < length ks → SpanCase t ks u i x (Ok (quotient_at rs i x))

-- t is a table, ks are knots, u is a rule
module _ (t : Rows) (ks : List Quantity) (u : Rule) where
  -- what the core sees
  abbrev seen : List (Outcome Float)
  seen = conversions t ks u.unit

  by_core : knot_vector t ks u ≡ vector seen u.degree u.tolerance
  unfolding knot_vector
  by_core = refl

  span_by_core : (i : ℕ) (x : Float) → span_quotient t ks (span_of u i x) ≡ quotient seen u.degree u.tolerance i x
  unfolding span_quotient
  span_by_core i x = refl

  many : length seen ≡ length ks
  many = length-map ks (λ q. merged_value t q u.unit)

  fault_is : argument_fault (length seen) u.degree u.tolerance ≡ bad_arguments ks u
  fault_is = ap (λ n. argument_fault n u.degree u.tolerance) many

  -- ---- refusals

  from_core : {o : Outcome (List Run)} → core.Case seen u.degree u.tolerance o → Case t ks u o
  from_core (core.argument f) = argument (sym fault_is ∙ f)
  from_core (core.conversion f vs r more e) = conversion r (sym fault_is ∙ f) (lowest-of t u.unit ks vs r more e)
  from_core (core.order f xs e h) = order xs (sym fault_is ∙ f) (of-all t u.unit ks xs e) h
  from_core (core.multiple f xs e h c) = multiple xs (sym fault_is ∙ f) (of-all t u.unit ks xs e) h c
  from_core (core.answer f xs e h c) = answer xs (sym fault_is ∙ f) (of-all t u.unit ks xs e) h c

  to_core : {o : Outcome (List Run)} → Case t ks u o → core.Case seen u.degree u.tolerance o
  to_core (argument f) = core.argument (fault_is ∙ f)
  to_core (conversion r f l) = let b = behind t u.unit ks l.place l.knot r l.there l.refuses l.before in core.conversion (fault_is ∙ f) b.0 r b.1 b.2
  to_core (order xs f b h) = core.order (fault_is ∙ f) xs (all_of t u.unit b) h
  to_core (multiple xs f b h c) = core.multiple (fault_is ∙ f) xs (all_of t u.unit b) h c
  to_core (answer xs f b h c) = core.answer (fault_is ∙ f) xs (all_of t u.unit b) h c

  -- THEOREM: one of the five cases always holds, and the call answers as it says
  pub one_case : Case t ks u (knot_vector t ks u)
  one_case = rw by_core (from_core (core.case seen u.degree u.tolerance))

  -- THEOREM: and nothing else
  pub no_other : {o : Outcome (List Run)} → Case t ks u o → knot_vector t ks u ≡ o
  no_other {o} c = by_core ∙ sym (core.only seen u.degree u.tolerance o (to_core c))

  -- THEOREM: a bad count, degree or tolerance is ARGUMENT, whatever the table and the knots
  pub argument_first : bad_arguments ks u ≡ true → knot_vector t ks u ≡ Err ARGUMENT
  argument_first f = no_other (argument f)

  -- count, degree and tolerance in order
  module _ (f : bad_arguments ks u ≡ false) where
    -- THEOREM: where a knot's conversion is refused and all before it convert, its refusal is answered, whatever the others are and in whatever order they stand
    pub lowest_refused : (r : Refusal) → Lowest t u.unit ks r → knot_vector t ks u ≡ Err r
    lowest_refused r l = no_other (conversion r f l)

    -- THEOREM: and a refusal other than ORDER and MULTIPLE is that of the lowest knot that doesn't convert
    pub lowest_only : (r : Refusal) → (r ≡ ORDER → ⊥) → (r ≡ MULTIPLE → ⊥) → knot_vector t ks u ≡ Err r → Lowest t u.unit ks r
    lowest_only r o m e = go one_case e
      where
        go : {p : Outcome (List Run)} → Case t ks u p → p ≡ Err r → Lowest t u.unit ks r
        go (argument g) h = let z : ◌≡◌ {A = ℕ} 0 1 = cc in absurd (omega arith)
        go (conversion w g l) h = let n : r ≡ w = cc in rw n l
        go (order xs g b w) h = let n : r ≡ ORDER = cc in absurd (o n)
        go (multiple xs g b w c) h = let n : r ≡ MULTIPLE = cc in absurd (m n)
        go (answer xs g b w c) h = let z : ◌≡◌ {A = ℕ} 0 1 = cc in absurd (omega arith)

    -- all knots convert, to the values xs
    module _ (xs : List Float) (b : Become t u.unit ks xs) where
      -- THEOREM: ORDER exactly where a value is NaN or infinite, or one is below the value before it
      pub order_exactly : (knot_vector t ks u ≡ Err ORDER) ↔ (unordered xs ≡ true)
      order_exactly = (λ e. go (unordered xs) refl e, λ h. no_other (order xs f b h))
        where
          crowd : (c : Bool) → unordered xs ≡ false → overfull u xs ≡ c → knot_vector t ks u ≡ Err ORDER → ⊥
          crowd true h c e = let g = sym (no_other (multiple xs f b h c)) ∙ e in let z : ◌≡◌ {A = ℕ} 0 1 = cc in omega arith
          crowd false h c e = let g = sym (no_other (answer xs f b h c)) ∙ e in let z : ◌≡◌ {A = ℕ} 0 1 = cc in omega arith

          go : (w : Bool) → unordered xs ≡ w → knot_vector t ks u ≡ Err ORDER → unordered xs ≡ true
          go true h e = h
          go false h e = absurd (crowd (overfull u xs) h refl e)

      -- these are in order
      module _ (h : unordered xs ≡ false) where
        -- THEOREM: MULTIPLE exactly where a run has more knots than the degree plus one
        pub multiple_exactly : (knot_vector t ks u ≡ Err MULTIPLE) ↔ (overfull u xs ≡ true)
        multiple_exactly = (λ e. go (overfull u xs) refl e, λ c. no_other (multiple xs f b h c))
          where
            go : (w : Bool) → overfull u xs ≡ w → knot_vector t ks u ≡ Err MULTIPLE → overfull u xs ≡ true
            go true c e = c
            go false c e = let g = sym (no_other (answer xs f b h c)) ∙ e in let z : ◌≡◌ {A = ℕ} 0 1 = cc in absurd (omega arith)

        -- THEOREM: else the runs of the values
        pub else_runs : overfull u xs ≡ false → knot_vector t ks u ≡ Ok (runs u.tolerance xs)
        else_runs c = no_other (answer xs f b h c)

  -- ---- refusals of a span quotient
  module _ (i : ℕ) (x : Float) where
    span_from_core : {o : Outcome Float} → core.SpanCase seen u.degree u.tolerance i x o → SpanCase t ks u i x o
    span_from_core (core.no_vector r e) = no_vector r (by_core ∙ e)
    span_from_core (core.no_span rs e h) = no_span rs (by_core ∙ e) (rw many at h)
    span_from_core (core.span rs e h) = span rs (by_core ∙ e) (rw many at h)

    span_to_core : {o : Outcome Float} → SpanCase t ks u i x o → core.SpanCase seen u.degree u.tolerance i x o
    span_to_core (no_vector r e) = core.no_vector r (sym by_core ∙ e)
    span_to_core (no_span rs e h) = core.no_span rs (sym by_core ∙ e) (rw many h)
    span_to_core (span rs e h) = core.span rs (sym by_core ∙ e) (rw many h)

    -- THEOREM: one of the three cases always holds, and the call answers as it says
    pub one_span_case : SpanCase t ks u i x (span_quotient t ks (span_of u i x))
    one_span_case = rw span_by_core (span_from_core (core.span_case seen u.degree u.tolerance i x))

    -- THEOREM: and nothing else
    pub no_other_span : {o : Outcome Float} → SpanCase t ks u i x o → span_quotient t ks (span_of u i x) ≡ o
    no_other_span {o} c = span_by_core i x ∙ sym (core.span_only seen u.degree u.tolerance i x o (span_to_core c))

  -- THEOREM: what refuses the vector refuses every span of it, there or not, for every x: the knots' refusals, ORDER and MULTIPLE
  pub span_passes : (r : Refusal) → knot_vector t ks u ≡ Err r → (i : ℕ) (x : Float) → span_quotient t ks (span_of u i x) ≡ Err r
  span_passes r v i x = no_other_span i x (no_vector r v)

  -- THEOREM: and ARGUMENT for a bad count, degree or tolerance before all these
  pub span_argument_first : bad_arguments ks u ≡ true → (i : ℕ) (x : Float) → span_quotient t ks (span_of u i x) ≡ Err ARGUMENT
  span_argument_first f = span_passes ARGUMENT (argument_first f)

  -- ---- the answer
  module _ (rs : List Run) (v : knot_vector t ks u ≡ Ok rs) where
    of_core : vector seen u.degree u.tolerance ≡ Ok rs
    of_core = sym by_core ∙ v

    shows : Answered seen u.degree u.tolerance rs
    shows = answered seen u.degree u.tolerance rs of_core

    -- THEOREM: there are 1 to 512 knots, the degree is 1 to 9, the tolerance is a number from 0 on
    pub in_order : Sound (length ks) u.degree u.tolerance
    in_order = rw many at shows.arguments

    -- THEOREM: every knot converts
    pub every_converts : (i : ℕ) (q : Quantity) → At ks i q → Convertible t u.unit q
    every_converts = become_at t u.unit (of-all t u.unit ks shows.values shows.from)

    -- what the knot at place i converts to, as the core has it
    seen_at : (i : ℕ) {q : Quantity} {x : Float} → At ks i q → Becomes t u.unit q x → (i < length shows.values) × (x ≡ get_or shows.values i nan)
    seen_at i a b = converts-at seen shows.values i _ shows.from (at_place t u.unit ks i a b)

    -- THEOREM: to a value that is neither NaN nor infinite
    pub every_finite : (i : ℕ) (q : Quantity) (x : Float) → At ks i q → Becomes t u.unit q x → T (finite x)
    every_finite i q x a b =
        let p = seen_at i a b in
        rw p.1 (finite_at shows.values i shows.in_order p.0)

    -- THEOREM: and not below that of the knot before it
    pub none_falls : (i : ℕ) (q p : Quantity) (x y : Float) → At ks i q → At ks (suc i) p → Becomes t u.unit q x → Becomes t u.unit p y → T (le x y)
    none_falls i q p x y a c b d =
        let e = seen_at i a b in
        let f = seen_at (suc i) c d in
        rw (e.1, f.1) (next_at shows.values i shows.in_order f.0)

    -- ---- the runs

    -- THEOREM: the lowest knot begins the first run: its bits stand for it
    pub lowest_stands : (q : Quantity) (x : Float) → At ks 0 q → Becomes t u.unit q x → value_at rs 0 ≡ x
    lowest_stands q x a b =
        let p = seen_at 0 a b in
        rw (shows.are, p.1) (value_is u.tolerance shows.values 0 p.0 ∙ standing_first u.tolerance shows.values)

    -- the next knot, behind the one at place i
    module _ (i : ℕ) (q : Quantity) (x : Float) (a : At ks (suc i) q) (b : Becomes t u.unit q x) where
      -- THEOREM: it is of the same run exactly if it, less the value that stands for that run by one rounded subtraction, is at most the tolerance
      pub joins_exactly : merged_at rs i ≡ joins u.tolerance (value_at rs i) x
      joins_exactly =
          let p = seen_at (suc i) a b in
          rw (shows.are, p.1, value_is u.tolerance shows.values i (omega (arith, p.0))) (merged_is u.tolerance shows.values i p.0)

      -- THEOREM: if so that value stands for it too; otherwise its own bits do, and begin the next run
      pub next_stands : value_at rs (suc i) ≡ pick (joins u.tolerance (value_at rs i) x) (value_at rs i) x
      next_stands =
          let p = seen_at (suc i) a b in
          rw (shows.are, p.1, value_is u.tolerance shows.values i (omega (arith, p.0))) (value_is u.tolerance shows.values (suc i) p.0 ∙ standing_on u.tolerance shows.values i p.0)

    -- THEOREM: the multiplicities add up to the knots given
    pub add_up : total rs ≡ length ks
    add_up = multiplicities.add_up seen u.degree u.tolerance rs of_core ∙ many

    -- THEOREM: each is from 1 to the degree plus one
    pub each_within : All (λ r. (0 < r.times) × (r.times ≤ suc u.degree)) rs
    each_within = multiplicities.each_within seen u.degree u.tolerance rs of_core

    -- THEOREM: there are at most as many distinct values as knots, and at least one
    pub number_within : (0 < length rs) × (length rs ≤ length ks)
    number_within = rw many at (multiplicities.number_within seen u.degree u.tolerance rs of_core)

    -- THEOREM: the distinct values rise strictly, from any to any later one
    pub rises : (i n : ℕ) → i + suc n < length rs → T (lt (distinct rs i) (distinct rs (i + suc n)))
    rises = rising.rise seen u.degree u.tolerance rs of_core

    -- THEOREM: each less the one before it, by one rounded subtraction, is above the tolerance and not zero, so no span divides by zero
    pub apart : (j : ℕ) → suc j < length rs → Apart u.tolerance (distinct rs j) (distinct rs (suc j))
    apart = rising.neighbours seen u.degree u.tolerance rs of_core

    -- THEOREM: each knot lies within the tolerance of the value that stands for it, by the one rounded subtraction, and not below it
    pub stands_within : (i : ℕ) (q : Quantity) (x : Float) → At ks i q → Becomes t u.unit q x → Stands u.tolerance (value_at rs i) x
    stands_within i q x a b = standing.near seen u.degree u.tolerance rs of_core i x (at_place t u.unit ks i a b)

    -- THEOREM: every distinct value is what some knot converts to
    pub from_knots : All (λ r. OfKnot t u.unit ks r.first) rs
    from_knots =
        rw shows.are (all_firsts (OfKnot t u.unit ks) u.tolerance shows.values (all_knots t u.unit (of-all t u.unit ks shows.values shows.from)))

    -- a knot that begins the run of the one at place i, and whose bits stand for it
    pub record Origin (i : ℕ) : Type 0 where
      pub place : ℕ
      pub not_after : place ≤ i
      pub first_one : begins rs place ≡ true
      pub one-run : run_of rs i ≡ run_of rs place
      pub stands_for : Knot t u.unit ks place (value_at rs i)

    -- THEOREM: the bits of its run's first knot stand for each knot
    pub first_stands : (i : ℕ) → i < length ks → Origin i
    first_stands i h =
        let o = joining.begun_by seen u.degree u.tolerance rs of_core i (omega (arith, many)) in
        record { place = o.place; not_after = o.not_after; first_one = o.first_one; one-run = o.one-run; stands_for = knot_at t u.unit ks o.place (value_at rs i) o.stands_for }

    -- what one run means for the knots from place i to place j: x stands for each, and every span between them gives +0 for every z
    pub record OneRun (i j : ℕ) (x : Float) : Type 0 where
      pub one-run : (k : ℕ) → i ≤ k → k ≤ j → run_of rs k ≡ run_of rs i
      pub one_value : (k : ℕ) → i ≤ k → k ≤ j → value_at rs k ≡ x
      pub no_span : (k : ℕ) → i ≤ k → k < j → (z : Float) → span_quotient t ks (span_of u k z) ≡ Ok plus_zero

    -- THEOREM: a knot that begins a run and another spelling of it later, with conversions whose rounded difference is at most the tolerance, are one run with all between them
    pub other_spelling : (i j : ℕ) (q p : Quantity) (x y : Float) → i ≤ j → At ks i q → At ks j p → Becomes t u.unit q x → Becomes t u.unit p y → begins rs i ≡ true → joins u.tolerance x y ≡ true → OneRun i j x
    other_spelling i j q p x y h a c b d g n =
        let w = joining.joins-run seen u.degree u.tolerance rs of_core i j x y h (at_place t u.unit ks i a b) (at_place t u.unit ks j c d) g n in
        record { one-run = w.one-run; one_value = w.one_value; no_span = λ k l m z. span_by_core k z ∙ w.no_span k l m z }

    -- THEOREM: and only such: a knot of the run that another begins lies within the tolerance of it
    pub only_within : (i j : ℕ) (q p : Quantity) (x y : Float) → At ks i q → At ks j p → Becomes t u.unit q x → Becomes t u.unit p y → begins rs i ≡ true → run_of rs j ≡ run_of rs i → joins u.tolerance x y ≡ true
    only_within i j q p x y a c b d = joining.only_within seen u.degree u.tolerance rs of_core i j x y (at_place t u.unit ks i a b) (at_place t u.unit ks j c d)

    -- THEOREM: what a shop does about spellings that part in the middle of a run: where the knots' values fall into groups, each group's last within the tolerance of its lowest and the next group's lowest beyond it, the runs are the groups
    pub groups : (gs : List Group) → Become t u.unit ks (knots gs) → Grouped u.tolerance gs → rs ≡ map run_of_group gs
    groups gs b w = grouping.groups-answered gs u.degree u.tolerance rs (sym (ap (λ cs. vector cs u.degree u.tolerance) (all_of t u.unit b)) ∙ of_core) w

    -- ---- spans: the one whose left knot is at place i
    module _ (i : ℕ) where
      -- THEOREM: a span that isn't there is ARGUMENT, after all else: the vector answers
      pub span_last : length ks ≤ suc i → (x : Float) → span_quotient t ks (span_of u i x) ≡ Err ARGUMENT
      span_last h x = no_other_span i x (no_span rs v h)

      -- THEOREM: spans are 0 to the count less 2, and each has a quotient for every x
      pub span_there : suc i < length ks → (x : Float) → span_quotient t ks (span_of u i x) ≡ Ok (quotient_at rs i x)
      span_there h x = no_other_span i x (span rs v h)

      -- THEOREM: a merged span gives +0 for every x, a NaN too
      pub merged_span : suc i < length ks → merged_at rs i ≡ true → (x : Float) → span_quotient t ks (span_of u i x) ≡ Ok plus_zero
      merged_span h e x = span_by_core i x ∙ quotients.merged_span seen u.degree u.tolerance rs of_core i (rw many h) e x

      -- THEOREM: any other gives (x - left) / (right - left), each operation rounded, over a divisor above the tolerance and not zero
      pub open_span : (x q : Float) → span_quotient t ks (span_of u i x) ≡ Ok q → merged_at rs i ≡ false → (q ≡ ratio (value_at rs i) (value_at rs (suc i)) x) × Apart u.tolerance (value_at rs i) (value_at rs (suc i))
      open_span x q h = quotients.open_span seen u.degree u.tolerance rs of_core i x q (sym (span_by_core i x) ∙ h)

      -- THEOREM: at the left end's own bits it is +0
      pub at_left : (q : Float) → span_quotient t ks (span_of u i (value_at rs i)) ≡ Ok q → q ≡ plus_zero
      at_left q h = quotients.at_left seen u.degree u.tolerance rs of_core i q (sym (span_by_core i (value_at rs i)) ∙ h)

      -- of a span whose ends aren't an infinity apart
      module _ (w : T (finite (sub binary64 (value_at rs (suc i)) (value_at rs i)))) where
        -- THEOREM: at the right end's own bits it is exactly 1, unless the span is merged
        pub at_right : (q : Float) → span_quotient t ks (span_of u i (value_at rs (suc i))) ≡ Ok q → merged_at rs i ≡ false → q ≡ one
        at_right q h = quotients.at_right seen u.degree u.tolerance rs of_core i w q (sym (span_by_core i (value_at rs (suc i))) ∙ h)

        -- THEOREM: for left ≤ x ≤ right it lies from 0 to 1
        pub quotient_within : (x q : Float) → span_quotient t ks (span_of u i x) ≡ Ok q → T (le (value_at rs i) x) → T (le x (value_at rs (suc i))) → T (le plus_zero q) × T (le q one)
        quotient_within x q h = quotients.within seen u.degree u.tolerance rs of_core i w x q (sym (span_by_core i x) ∙ h)

        -- THEOREM: and for left ≤ x ≤ y ≤ right the quotient of x is at most that of y
        pub quotient_rises : (x y q p : Float) → span_quotient t ks (span_of u i x) ≡ Ok q → span_quotient t ks (span_of u i y) ≡ Ok p → T (le (value_at rs i) x) → T (le x y) → T (le y (value_at rs (suc i))) → T (le q p)
        quotient_rises x y q p h k = quotients.rises seen u.degree u.tolerance rs of_core i w x y q p (sym (span_by_core i x) ∙ h) (sym (span_by_core i y) ∙ k)

-- ---- what the answers depend on

-- the knots of two tables convert alike, place by place: to the same value, or refused alike
abbrev pub Alike : Rows → Factors → List Quantity → Rows → Factors → List Quantity → Type 0
Alike t m ks t' m' js = Along (λ q p. merged_value t q m ≡ merged_value t' p m') ks js

alike_seen : (t t' : Rows) (m m' : Factors) {ks js : List Quantity} → Alike t m ks t' m' js → conversions t ks m ≡ conversions t' js m'
alike_seen t t' m m' done = refl
alike_seen t t' m m' (next e a) = ap₂ (λ o cs. o ∷ cs) e (alike_seen t t' m m' a)

-- two tables, knots and units; the same degree and tolerance
module _ (t t' : Rows) (ks js : List Quantity) (u w : Rule) (d : u.degree ≡ w.degree) (x : u.tolerance ≡ w.tolerance) (a : Alike t u.unit ks t' w.unit js) where
  -- THEOREM: knots that convert alike have one knot vector, refusals included: it depends on the conversions and on nothing else of table, knots and unit
  pub conversions_only : knot_vector t ks u ≡ knot_vector t' js w
  conversions_only = by_core t ks u ∙ rw (alike_seen t t' u.unit w.unit a, d, x) (sym (by_core t' js w))

  -- THEOREM: and one quotient of each span
  pub conversions_only_span : (i : ℕ) (y : Float) → span_quotient t ks (span_of u i y) ≡ span_quotient t' js (span_of w i y)
  conversions_only_span i y = span_by_core t ks u i y ∙ rw (alike_seen t t' u.unit w.unit a, d, x) (sym (span_by_core t' js w i y))
