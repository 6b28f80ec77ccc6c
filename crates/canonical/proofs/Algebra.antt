-- The base exponents of joined, inverted, raised and canonical lists, in what they are worth (01, "Powers and scales", "Canonical form").
use mathlib.Core.Path.{◌≡◌, refl, sym, ◌∙◌, ap, ap₂, subst}
use mathlib.Core.Bool.{Bool, true, false}
use mathlib.Core.List.{List, [], ◌∷◌, ◌++◌, map}
use Prim.Native.Nat.{ℕ, Ordering}
use Rattle.exponents.specs.Outcome.{Outcome, Ok, each}
use Rattle.exponents.specs.Fractions.{nought, same, ranged}
use Rattle.exponents.specs.declared.Exponent.{Exponent}
use Rattle.exponents.proofs.Holds.{Holds, held, take_out, holds_imp, holds_map, holds_bind}
use Rattle.exponents.proofs.Exact.{mul_comm_frac}
use Rattle.exponents.proofs.Value.{Value}
use Rattle.exponents.proofs.Totals.{worth, zero-add, add_swap, total, total_join, total_map, total_neg, total_times}
use Rattle.units.specs.declared.Factor.{Factor}
use Rattle.units.specs.Lists.{with_exponent, inverted, raised}
use Rattle.exponents.proofs.Each.{each_holds, along_total}
use Rattle.tables.proofs.Total.{Total}
use Rattle.tables.specs.Order.{Atom, atom, of}
use Rattle.canonical.specs.Canonical.{place, insert, gather, drop_if, nonzero, canon}

module _ (W : Value) where
  -- what a factor adds to the base exponent at b
  abbrev pub term : (ℕ → Exponent) → Factor → W.Q
  term b f = W.act f.exponent (worth W (b f.row))

  -- the base exponent of a list at b, in the rational numbers
  unfoldable pub exact : List Factor → (ℕ → Exponent) → W.Q
  exact l b = total W (term b) l

  pub cons : (f : Factor) (l : List Factor) (b : ℕ → Exponent) → exact (f ∷ l) b ≡ W.add (W.act f.exponent (worth W (b f.row))) (exact l b)
  unfolding exact total
  cons f l b = refl

  -- of a joined list the sum
  pub exact_join : (l m : List Factor) (b : ℕ → Exponent) → exact (l ++ m) b ≡ W.add (exact l b) (exact m b)
  unfolding exact
  exact_join l m b = total_join W (term b) l m

  -- of a list with its exponents negated the negative
  pub exact_inverse : (l : List Factor) (b : ℕ → Exponent) → exact (map inverted l) b ≡ W.opp (exact l b)
  unfolding exact inverted with_exponent
  exact_inverse l b =
      total_map W inverted (term b) l ∙ ap (λ v. total W v l) (λ i f. W.neg_act f.exponent (worth W (b f.row)) i) ∙ total_neg W (term b) l

  -- of a quotient the difference
  pub exact_over : (l m : List Factor) (b : ℕ → Exponent) → exact (l ++ map inverted m) b ≡ W.add (exact l b) (W.opp (exact m b))
  exact_over l m b = exact_join l (map inverted m) b ∙ ap (W.add (exact l b)) (exact_inverse m b)

  raised_term : (e : Exponent) (b : ℕ → Exponent) (f : Factor) → Holds (λ g. term b g ≡ W.act e (term b f)) (raised e f)
  unfolding raised with_exponent
  raised_term e b f =
      holds_map _ (subst (λ o. Holds (λ g. (a : W.Q) → W.act g a ≡ W.act e (W.act f.exponent a)) o) (ap ranged (mul_comm_frac e f.exponent)) (W.mul?-act e f.exponent))
      λ g h. h (worth W (b f.row))

  -- of a power the multiple
  pub exact_power : (e : Exponent) (l : List Factor) (b : ℕ → Exponent) → Holds (λ p. exact p b ≡ W.act e (exact l b)) (each (raised e) l)
  unfolding exact
  exact_power e l b = holds_imp (each_holds (raised e) (raised_term e b) l) λ p s. along_total W _ (term b) s ∙ total_times W e (term b) l

  -- a zero exponent adds nothing
  drop_exact : (f : Factor) (l : List Factor) (b : ℕ → Exponent) (t : Bool) → same f.exponent nought ≡ t → exact (drop_if t f l) b ≡ exact (f ∷ l) b
  unfolding drop_if
  drop_exact f l b true e = sym (cons f l b ∙ simp (W.same_is _ _ e, W.nil_act, zero-add W))
  drop_exact f l b false e = refl

  pub nonzero_exact : (l : List Factor) (b : ℕ → Exponent) → exact (nonzero l) b ≡ exact l b
  unfolding nonzero
  nonzero_exact [] b = refl
  nonzero_exact (f ∷ l) b = drop_exact f (nonzero l) b _ refl ∙ simp (cons, nonzero_exact l b)

  module _ (cmp : Atom → Atom → Ordering) (O : Total cmp) where
    -- one factor put in: its term is added
    place_exact : (x y : Factor) (ys : List Factor) (r : Outcome (List Factor)) (b : ℕ → Exponent) (o : Ordering) → cmp (atom x) (atom y) ≡ o →
        Holds (λ l. exact l b ≡ W.add (W.act x.exponent (worth W (b x.row))) (exact ys b)) r → Holds (λ l. exact l b ≡ W.add (W.act x.exponent (worth W (b x.row))) (exact (y ∷ ys) b)) (place o x y ys r)
    unfolding place
    place_exact x y ys r b Ordering.lt e h = held (cons x (y ∷ ys) b)
    place_exact x y ys r b Ordering.eq e h =
        let row : y.row ≡ x.row = ap (λ (u : Atom). u.row) (sym (O.equal (atom x) (atom y) e)) in
        holds_map _ (W.add?-act y.exponent x.exponent) λ s hs.
        cons (of (atom y) s) ys b
        ∙ ap (λ t. W.add t (exact ys b)) (hs _)
        ∙ W.add_assoc _ _ _
        ∙ add_swap W _ _ _
        ∙ ap₂ (λ n t. W.add (W.act x.exponent (worth W (b n))) t) row (sym (cons y ys b))
    place_exact x y ys r b Ordering.gt e h = holds_map _ h λ l hl. simp (cons, hl, add_swap W)

    insert_exact : (x : Factor) (l : List Factor) (b : ℕ → Exponent) → Holds (λ m. exact m b ≡ W.add (W.act x.exponent (worth W (b x.row))) (exact l b)) (insert cmp x l)
    unfolding insert
    insert_exact x [] b = held (cons x [] b)
    insert_exact x (y ∷ ys) b = place_exact x y ys _ b _ refl (insert_exact x ys b)

    gather_exact : (a l : List Factor) (b : ℕ → Exponent) → Holds (λ m. exact m b ≡ W.add (exact a b) (exact l b)) (gather cmp a l)
    unfolding gather exact total
    gather_exact a [] b = held (sym (W.add-zero _))
    gather_exact a (x ∷ l) b =
        holds_bind _ (insert_exact x a b) λ m h. holds_imp (gather_exact m l b) λ n k. simp (cons, k, h, W.add_assoc, add_swap W)

    -- of the canonical form the same
    pub exact_canon : (l : List Factor) (b : ℕ → Exponent) → Holds (λ c. exact c b ≡ exact l b) (canon cmp l)
    unfolding canon exact total
    exact_canon l b = holds_map _ (gather_exact [] l b) λ m h. nonzero_exact m b ∙ h ∙ zero-add W _

    -- lists with the same canonical form have the same base exponents
    pub exact_equal : (l m c : List Factor) → canon cmp l ≡ Ok c → canon cmp m ≡ Ok c → (b : ℕ → Exponent) → exact l b ≡ exact m b
    exact_equal l m c p q b = sym (take_out (exact_canon l b) p) ∙ take_out (exact_canon m b) q
