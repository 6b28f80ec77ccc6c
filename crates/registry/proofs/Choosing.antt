-- Each turn of the code makes of a candidate what the rule makes of it, and the turns together choose what the rule chooses.
use mathlib.Core.Path.{◌≡◌, refl, sym, ap, ◌∙◌}
use mathlib.Core.Bool.{Bool, true, false, true≢false}
use mathlib.Core.List.{List}
use Prim.Native.Nat.{ℕ, ◌+◌, ◌≤◌, ◌<◌}
use borrow.Author.Tests.{eq-eqb, ne_eqb, lt-ltb, le-ltb}
use lib.Dec.{eqb, ltb}
use lib.Ieee.{Float}
use lib.ListN.{length, drop, get_or, drop_of_length-le}
use Rattle.exponents.specs.Outcome.{Refusal, Outcome, Ok, Err, apply, bind}
use Rattle.exponents.specs.declared.Exponent.{Exponent}
use Rattle.exponents.proofs.Holds.{bind_given, bind_refused, one_answer}
use Rattle.exponents.proofs.Numbers.{clash, apply_refuses}
use Rattle.units.specs.declared.Factor.{Factor}
use Rattle.units.specs.declared.Quantity.{Quantity}
use Rattle.units.proofs.Laws.{len_pack}
use Rattle.exponents.specs.Words.{pick}
use Rattle.exponents.proofs.Places.{rest}
use Rattle.tables.specs.Rules.{Rules}
use Rattle.conversion.specs.Conversion.{convert}
use Rattle.simplification.specs.Steps.{Amount, quantity_of}
use Rattle.registry.specs.Registry.{Turn, wins, stays, after, fitting, turn, chosen}
use Rattle.registry.specs.Held.{choice_of}
use Rattle.registry.specs.declared.Choice.{Choice}

-- ---- one turn: the candidate m after the best so far

-- whether m fits what is left
abbrev pub tested : Rules Float → List Exponent → Float → Amount → List Factor → Outcome Bool
tested R xs s now m = fitting R (length now.1) xs s m

-- what is left, in m
abbrev pub reached : Rules Float → Amount → List Factor → Outcome Float
reached R now m = convert R now.1 m now.0

module _ (R : Rules Float) (xs : List Exponent) (s : Float) (now best : Amount) (m : List Factor) where
  -- what becomes of a value converted
  abbrev taken : Float → Turn
  taken x = pick (eqb (length m) 1) (wins (x, m)) (stays (pick (ltb (length m) (length best.1)) (x, m) best))

  pub test_refused : (r : Refusal) → tested R xs s now m ≡ Err r → turn R xs s now best m ≡ Err r
  unfolding turn
  test_refused r e = bind_refused _ e

  pub no_fit : tested R xs s now m ≡ Ok false → turn R xs s now best m ≡ Ok (stays best)
  unfolding turn
  no_fit e = bind_given _ e

  module _ (e : tested R xs s now m ≡ Ok true) where
    fit : turn R xs s now best m ≡ apply taken (reached R now m)
    unfolding turn
    fit = bind_given _ e

    pub not_reached : (r : Refusal) → reached R now m ≡ Err r → turn R xs s now best m ≡ Err r
    not_reached r g = fit ∙ ap (apply taken) g

    module _ (x : Float) (g : reached R now m ≡ Ok x) where
      took : turn R xs s now best m ≡ Ok (taken x)
      took = fit ∙ ap (apply taken) g

      pub one_wins : length m ≡ 1 → turn R xs s now best m ≡ Ok (wins (x, m))
      one_wins h = took ∙ rw (eq-eqb (length m) 1 h)

      pub fewer : (length m ≡ 1 → ⊥) → length m < length best.1 → turn R xs s now best m ≡ Ok (stays (x, m))
      fewer h k = took ∙ rw (ne_eqb (length m) 1 h, lt-ltb (length m) (length best.1) k)

      pub no_fewer : (length m ≡ 1 → ⊥) → length best.1 ≤ length m → turn R xs s now best m ≡ Ok (stays best)
      no_fewer h k = took ∙ rw (ne_eqb (length m) 1 h, le-ltb (length m) (length best.1) k)

-- ---- a turn as code hands it over, read back

-- the turn ended as `how` says, with the amount that code has
record Ended (how : Amount → Turn) (o : Outcome Turn) (x : Choice) : Type 0 where
  pub with_it : Amount
  pub is : o ≡ Ok (how with_it)
  pub has : x.best ≡ quantity_of with_it

has_won : (o : Outcome Turn) (x : Choice) → Ok x ≡ choice_of o → x.won ≡ true → Ended wins o x
has_won (Ok (wins a)) x e w = record { with_it = a; is = refl; has = ap (λ (y : Choice). y.best) (one_answer e) }
has_won (Ok (stays b)) x e w = absurd (true≢false (sym w ∙ ap (λ (y : Choice). y.won) (one_answer e)))
has_won (Err r) x e w = absurd (clash e)

has_stayed : (o : Outcome Turn) (x : Choice) → Ok x ≡ choice_of o → x.won ≡ false → Ended stays o x
has_stayed (Ok (wins a)) x e w = absurd (true≢false (sym (ap (λ (y : Choice). y.won) (one_answer e)) ∙ w))
has_stayed (Ok (stays b)) x e w = record { with_it = b; is = refl; has = ap (λ (y : Choice). y.best) (one_answer e) }
has_stayed (Err r) x e w = absurd (clash e)

-- an amount's list, as code holds it, has its length
pub amount_long : (a : Amount) (q : Quantity) → q ≡ quantity_of a → q.unit.len ≡ length a.1
amount_long a q e = ap (λ (q : Quantity). q.unit.len) e ∙ len_pack a.1

-- ---- the turns
module _ (R : Rules Float) (xs : List Exponent) (s : Float) (now : Amount) (ms : List (List Factor)) where
  abbrev all : Outcome Amount
  all = chosen R xs s now now ms

  -- the candidates before i are looked at: q is the best of them
  pub record Underway (q : Quantity) (i : ℕ) : Type 0 where
    pub best : Amount
    pub is : q ≡ quantity_of best
    pub left : chosen R xs s now best (drop i ms) ≡ all

  module _ (q : Quantity) (i : ℕ) (u : Underway q i) where
    -- no candidate is left
    pub turns_end : length ms ≤ i → Ok q ≡ apply quantity_of all
    unfolding chosen
    turns_end h = ap Ok u.is ∙ sym (ap (apply quantity_of) (sym u.left ∙ ap (chosen R xs s now u.best) (drop_of_length-le ms {i = i} h)))

    module _ (d : List Factor) (h : i < length ms) where
      abbrev this : Outcome Turn
      this = turn R xs s now u.best (get_or ms i d)

      opened : all ≡ bind this (λ w. after w (λ b. chosen R xs s now b (drop (i + 1) ms)))
      unfolding chosen
      opened = sym u.left ∙ ap (chosen R xs s now u.best) (rest ms d i h)

      pub turns_stop : (r : Refusal) → Err r ≡ choice_of this → Err r ≡ apply quantity_of all
      turns_stop r e = sym (ap (apply quantity_of) (opened ∙ bind_refused _ (apply_refuses _ this r (sym e))))

      module _ (x : Choice) (e : Ok x ≡ choice_of this) where
        pub turns_won : x.won ≡ true → Ok x.best ≡ apply quantity_of all
        unfolding after
        turns_won w =
            let a = has_won this x e w in
            ap Ok a.has ∙ sym (ap (apply quantity_of) (opened ∙ bind_given _ a.is))

        pub turns_on : x.won ≡ false → Underway x.best (i + 1)
        unfolding after
        turns_on w =
            let a = has_stayed this x e w in
            record { best = a.with_it; is = a.has; left = sym (opened ∙ bind_given _ a.is) }
