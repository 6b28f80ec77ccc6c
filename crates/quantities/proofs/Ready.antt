-- What a conversion between the lists of a call gives: as the table's rules have it.
use mathlib.Core.Path.{◌≡◌, ap, ◌∙◌}
use mathlib.Core.List.{List}
use Prim.Native.Nat.{ℕ}
use lib.IntN.{ℤ}
use lib.Ieee.{Float}
use Rattle.exponents.specs.Outcome.{Outcome}
use Rattle.units.specs.declared.Factor.{Factor}
use Rattle.units.specs.declared.Factors.{Factors}
use Rattle.units.specs.declared.Rows.{Rows}
use Rattle.tables.specs.declared.Items.{Items}
use Rattle.tables.specs.Rules.{Rules, rules_in}
use Rattle.tables.specs.Held.{View, Lends, rules_by, Resolved}
use Rattle.lists.specs.Held.{Tells}
use Rattle.lists.specs.declared.opening.Opened.{Opened}
use Rattle.lists.proofs.Ready.{Ready, seen, lends}
use Rattle.conversion.specs.Conversion.{convert}

-- what code promises of what it hands over, h by a view's rules, for the lists l and m
abbrev pub Hands : {C : Type 0} → (Rules Float → List Factor → List Factor → C) → List ℤ → List ℕ → Items → Items → ℕ → C → Type 0
Hands h nums dens l m n c = (v : View) (fs gs : List Factor) → Lends v n nums dens → Resolved v l fs → Resolved v m gs → c ≡ h (rules_by v n) fs gs

-- of a conversion from l to m by f
abbrev pub ConvertsBy : (Rules Float → List Factor → List Factor → Float → Outcome Float) → List ℤ → List ℕ → Float → Items → Items → ℕ → Outcome Float → Type 0
ConvertsBy f nums dens y = Hands (λ R fs gs. f R fs gs y) nums dens

-- and of 01's
abbrev pub Converts : List ℤ → List ℕ → Float → Items → Items → ℕ → Outcome Float → Type 0
Converts = ConvertsBy (λ R. convert R)

-- by the rules R, where the view's are these
handed_so : {C : Type 0} (h : Rules Float → List Factor → List Factor → C) {nums : List ℤ} {dens : List ℕ} (R : Rules Float) (v : View) (n : ℕ) (l m : Items) (fs gs : List Factor) (c : C) →
    rules_by v n ≡ R → Lends v n nums dens → Resolved v l fs → Resolved v m gs → Hands h nums dens l m n c → c ≡ h R fs gs
handed_so h R v n l m fs gs c e lent rl rm p = p v fs gs lent rl rm ∙ ap (λ R. h R fs gs) e

module _ {t : Rows} {a b : Factors} {x : Opened} (r : Ready t a b x) (nums : List ℤ) (dens : List ℕ) (tells : Tells t nums dens) {C : Type 0} (c : C) where
  pub in_table : (h : Rules Float → List Factor → List Factor → C) (l m : Items) (fs gs : List Factor) → Resolved (seen r) l fs → Resolved (seen r) m gs → Hands h nums dens l m x.slots.len c → c ≡ h (rules_in t r.ks) fs gs
  in_table h l m fs gs = handed_so h (rules_in t r.ks) (seen r) x.slots.len l m fs gs c r.rules (lends r nums dens tells)

  -- from the first list to the second
  pub forward : (h : Rules Float → List Factor → List Factor → C) → Hands h nums dens x.a x.b x.slots.len c → c ≡ h (rules_in t r.ks) r.fs r.gs
  forward h = in_table h x.a x.b r.fs r.gs r.first r.second

module _ {t : Rows} {a b : Factors} {x : Opened} (r : Ready t a b x) (nums : List ℤ) (dens : List ℕ) (tells : Tells t nums dens) (y : Float) (c : Outcome Float) where
  -- the first list to the second
  pub forth : (f : Rules Float → List Factor → List Factor → Float → Outcome Float) → ConvertsBy f nums dens y x.a x.b x.slots.len c → c ≡ f (rules_in t r.ks) r.fs r.gs y
  forth f = forward r nums dens tells c (λ R fs gs. f R fs gs y)

  -- the second to the first
  pub back : Converts nums dens y x.b x.a x.slots.len c → c ≡ convert (rules_in t r.ks) r.gs r.fs y
  back = in_table r nums dens tells c (λ R fs gs. convert R fs gs y) x.b x.a r.gs r.fs r.second r.first
