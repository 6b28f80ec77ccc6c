-- Simplification's third step as the code takes it, group by group: what it holds after those before a place, and what is left to do.
use mathlib.Core.Path.{◌≡◌, refl, sym, ap, ap₂, ◌∙◌, subst}
use mathlib.Core.List.{List, [], ◌∷◌, ◌++◌}
use Prim.Native.Nat.{ℕ, ◌+◌, ◌≤◌, ◌<◌}
use native.Mathlib.Omega.{arith}
use lib.Ieee.{Float, binary64, mul}
use lib.ListN.{length, drop, length-drop, drop_of_length-le}
use lib.Seq.{drop-drop}
use Rattle.exponents.specs.Words.{All}
use Rattle.exponents.specs.Outcome.{Refusal, Outcome, Ok, Err, apply, bind}
use Rattle.exponents.proofs.Holds.{take_out, bind_given, bind_refused}
use Rattle.exponents.proofs.Numbers.{apply_answers, apply_refuses}
use Rattle.floats.specs.Power.{one}
use Rattle.units.specs.declared.Factor.{Factor}
use Rattle.units.specs.Lists.{factor_fault}
use Rattle.tables.specs.declared.Items.{Items}
use Rattle.tables.specs.Held.{View, Stands, Placed, Resolved, pack_items, packed, rules_by}
use Rattle.tables.proofs.Resolved.{none_resolved}
use Rattle.canonical.specs.Canonical.{canon}
use Rattle.canonical.proofs.Keeping.{each_faultless, none_faulty, Kept, kept_with}
use Rattle.targets.specs.Groups.{groups, target}
use Rattle.targets.specs.Held.{leading}
use Rattle.tables.specs.Rules.{Rules}
use Rattle.conversion.specs.Conversion.{convert}
use Rattle.simplification.specs.Steps as spec
use Rattle.simplification.specs.Steps.{Amount}
use Rattle.simplification.specs.Held.{progress_of, next_group, Grows}
use Rattle.simplification.specs.declared.steps.Progress.{Progress}
use Rattle.targets.proofs.Grouping.{leading_short, leading_some, groups-next, group_resolved}
use Rattle.targets.proofs.Within.{target_within}
use Rattle.simplification.proofs.Sounding.{grown_within}

module _ (R : Rules Float) where
  -- ---- one group
  module _ (s : Float) (u g : List Factor) where
    abbrev aim : Outcome (List Factor)
    aim = target R g

    pub target_stops : (r : Refusal) → aim ≡ Err r → spec.grown R s u g ≡ Err r
    unfolding spec.grown
    target_stops r e = bind_refused _ e

    module _ (m : List Factor) (is : aim ≡ Ok m) where
      aimed : spec.grown R s u g ≡ apply (λ x. (mul binary64 s x, u ++ m)) (convert R g m one)
      unfolding spec.grown
      aimed = bind_given _ is

      pub conversion_stops : (r : Refusal) → convert R g m one ≡ Err r → spec.grown R s u g ≡ Err r
      conversion_stops r e = aimed ∙ ap (apply (λ x. (mul binary64 s x, u ++ m))) e

      pub group_done : (x : Float) → convert R g m one ≡ Ok x → spec.grown R s u g ≡ Ok (mul binary64 s x, u ++ m)
      group_done x e = aimed ∙ ap (apply (λ x. (mul binary64 s x, u ++ m))) e

    -- where the group is resolved
    module _ {v : View} {k : Items} (q : Resolved v k g) where
      kept : All Kept g
      kept = each_faultless factor_fault g q.shaped

      -- a target has at most one factor
      pub aim_short : (m : List Factor) → aim ≡ Ok m → length m ≤ 1
      aim_short m e = (take_out (target_within Kept kept_with R g kept) e).0

      -- joined to a resolved list, it is resolved
      grown_resolved : {l : Items} → Resolved v l u → length u < 16 → (a : Amount) → spec.grown R s u g ≡ Ok a → (length a.1 ≤ length u + 1) × Resolved v (pack_items v a.1) a.1
      grown_resolved r h a e =
          let m = take_out (grown_within Kept kept_with R (length u) s u g (omega arith, each_faultless factor_fault u r.shaped) kept) e in
          let n = take_out (grown_within (λ f. Stands f.row v.among) (λ f e p s. p) R (length u) s u g (omega arith, r.named) q.named) e in
          (omega (arith, m.0), record { is = refl; short = omega (arith, m.0); shaped = none_faulty factor_fault a.1 m.1; named = n.1; placed = r.placed })

  -- ---- all groups of the list cs: those before place `next` are done
  module _ (cs : List Factor) where
    abbrev pub whole : Outcome Amount
    whole = spec.converted R one [] (groups R.alike cs)

    abbrev pub left : ℕ → Float → List Factor → Outcome Amount
    left i s u = spec.converted R s u (groups R.alike (drop i cs))

    abbrev pub group : ℕ → List Factor
    group i = leading R.alike (drop i cs)

    group_within : (i : ℕ) → i ≤ length cs → i + length (group i) ≤ length cs
    group_within i h = omega (arith, leading_short R.alike (drop i cs), length-drop i cs)

    module _ (i : ℕ) (h : i < length cs) where
      some_left : 0 < length (drop i cs)
      some_left = omega (arith, length-drop i cs)

      group_some : 0 < length (group i)
      group_some = leading_some R.alike (drop i cs) some_left

      group_first : groups R.alike (drop i cs) ≡ group i ∷ groups R.alike (drop (i + length (group i)) cs)
      group_first = groups-next R.alike (drop i cs) some_left ∙ ap (λ l. group i ∷ groups R.alike l) (drop-drop (length (group i)) i cs)

      group_turn : (s : Float) (u : List Factor) → left i s u ≡ bind (spec.grown R s u (group i)) (λ (p : Amount). left (i + length (group i)) p.0 p.1)
      unfolding spec.converted
      group_turn s u = ap (spec.converted R s u) group_first

    groups-over : (i : ℕ) (s : Float) (u : List Factor) → length cs ≤ i → left i s u ≡ apply (λ c. (s, c)) (canon R.order u)
    unfolding spec.converted groups
    groups-over i s u h = ap (λ l. spec.converted R s u (groups R.alike l)) (drop_of_length-le cs h)

    -- the whole outcome, from what is left
    module _ (x : Float) where
      abbrev own : Amount → Amount
      own p = (mul binary64 x p.0, p.1)

      pub groups_refuse : (r : Refusal) → whole ≡ Err r → spec.by_groups R x cs ≡ Err r
      unfolding spec.by_groups
      groups_refuse r e = ap (apply own) e

      pub groups_give : (a : Amount) → whole ≡ Ok a → spec.by_groups R x cs ≡ Ok (own a)
      unfolding spec.by_groups
      groups_give a e = ap (apply own) e

-- ---- one group, as code ends it
module _ (v : View) (o : Outcome Amount) (j : ℕ) where
  pub halted : (r : Refusal) → o ≡ Err r → ◌≡◌ {A = Outcome Progress} (Err r) (apply (progress_of v j) o)
  halted r e = sym (ap (apply (progress_of v j)) e)

  pub moved : (i : ℕ) (s : Float) (u : List Factor) (w : Items) → w ≡ pack_items v u → i ≡ j → o ≡ Ok (s, u) → ◌≡◌ {A = Outcome Progress} (Ok (record { unit = w; factor = s; next = i })) (apply (progress_of v j) o)
  moved i s u w e h g = ap₂ (λ (w : Items) (i : ℕ). Ok (record { unit = w; factor = s; next = i })) e h ∙ ap (apply (progress_of v j)) (sym g)

-- ---- all groups, as code goes through them: what it holds after those before place `next`
module _ (v : View) (n : ℕ) (cs : List Factor) where
  abbrev R : Rules Float
  R = rules_by v n

  pub record Along (p : Progress) : Type 0 where
    pub targets : List Factor
    pub unit : Resolved v p.unit targets
    pub few : length targets ≤ p.next
    pub within : p.next ≤ length cs
    pub so_far : left R cs p.next p.factor targets ≡ whole R cs

  pub along_none : Placed v → (p : Progress) → (u : Items) → u ≡ packed [] → p ≡ record { unit = u; factor = one; next = 0 } → Along p
  along_none h p u q e = subst Along (sym e) (record { targets = []; unit = none_resolved v h u q; few = omega arith; within = omega arith; so_far = refl })

  module _ {c : Items} (l : Resolved v c cs) (p : Progress) (a : Along p) where
    abbrev turn : Outcome Amount
    turn = spec.grown R p.factor a.targets (next_group v p cs)

    abbrev after : ℕ
    after = p.next + length (next_group v p cs)

    module _ (h : p.next < length cs) where
      pub grows : Grows v p c a.targets cs
      grows = record { whole = l; done = a.unit; fewer = a.few; more = h }

      pub along_on : (r : Progress) → ◌≡◌ {A = Outcome Progress} (Ok r) (apply (progress_of v after) turn) → Along r
      along_on r e =
          let t = apply_answers (progress_of v after) turn r (sym e) in
          let b = t.answer in
          let g = group_resolved l p.next (pack_items v (next_group v p cs)) refl in
          let new = grown_resolved R p.factor a.targets (next_group v p cs) g a.unit (omega (arith, a.few, l.short)) b t.is in
          let next : Along (progress_of v after b) = record {
            targets = b.1;
            unit = new.1;
            few = omega (arith, new.0, a.few, group_some R cs p.next h);
            within = group_within R cs p.next (omega arith);
            so_far = sym (bind_given (λ (p : Amount). left R cs after p.0 p.1) t.is) ∙ sym (group_turn R cs p.next h p.factor a.targets) ∙ a.so_far;
          } in
          subst Along t.made next

      pub along_off : (x : Float) (r : Refusal) → ◌≡◌ {A = Outcome Progress} (Err r) (apply (progress_of v after) turn) → spec.by_groups R x cs ≡ Err r
      along_off x r e =
          groups_refuse R cs x r
          (sym a.so_far ∙ group_turn R cs p.next h p.factor a.targets ∙ bind_refused _ (apply_refuses (progress_of v after) turn r (sym e)))

  module _ (p : Progress) (a : Along p) (x : Float) (h : length cs ≤ p.next) where
    over : whole R cs ≡ apply (λ c. (p.factor, c)) (canon R.order a.targets)
    over = sym a.so_far ∙ groups-over R cs p.next p.factor a.targets h

    pub along_unformed : (r : Refusal) → canon R.order a.targets ≡ Err r → spec.by_groups R x cs ≡ Err r
    along_unformed r e = groups_refuse R cs x r (over ∙ ap (apply (λ c. (p.factor, c))) e)

    pub along_end : (c : List Factor) → canon R.order a.targets ≡ Ok c → spec.by_groups R x cs ≡ Ok (mul binary64 x p.factor, c)
    along_end c e = groups_give R cs x (p.factor, c) (over ∙ ap (apply (λ c. (p.factor, c))) e)
