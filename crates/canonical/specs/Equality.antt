-- Equality of lists (01, "Canonical form"): two are equal if their canonical forms are the same.
use Rattle.std.specs.Prelude.{Bool, List}
use Prim.Native.Nat.{Ordering}
use Rattle.exponents.specs.Outcome.{Outcome, apply, bind}
use Rattle.units.specs.declared.Factor.{Factor}
use Rattle.tables.specs.Order.{Atom}
use Rattle.canonical.specs.Canonical.{canon, same_list}

-- RANGE or DENOMINATOR of the first list's canonical form, then of the second's
unfoldable pub equal : (Atom → Atom → Ordering) → List Factor → List Factor → Outcome Bool
equal cmp l m = bind (canon cmp l) (λ c. apply (same_list cmp c) (canon cmp m))
