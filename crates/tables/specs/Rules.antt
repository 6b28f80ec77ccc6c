-- The rules by which a table is read: all that the definitions above take from a table. Each takes one of these, or the one field that it needs.
use Rattle.std.specs.Prelude.{Bool, List, Float, length, get_or}
use Prim.Native.Nat.{ℕ, Ordering}
use Rattle.exponents.specs.Outcome.{Outcome}
use Rattle.exponents.specs.declared.Exponent.{Exponent}
use Rattle.units.specs.declared.Factor.{Factor}
use Rattle.units.specs.declared.Rows.{Rows}
use Rattle.keys.specs.Orders.{is_eq}
use Rattle.keys.specs.Key.{first}
use Rattle.floats.specs.declared.Tally.{Tally}
use Rattle.tables.specs.Scale.{Numbers, doubles, counting, size_by, counted_size, scale}
use Rattle.tables.specs.Rows.{Facts, nobody, scale_at, bases, base_rows}
use Rattle.tables.specs.Order.{Atom, key_order, order_in}

pub record Rules (A : Type 0) : Type 0 where
  -- 01, "Canonical form": the order of factors, by key, rank and prefix
  pub order : Atom → Atom → Ordering
  -- 01, "Powers and scales": each row's exponent at every base row, in rank order
  pub bases : List (ℕ → Exponent)
  -- 01, "Powers and scales": the numbers that scales are worked out with
  pub numbers : Numbers A
  -- 01, "Powers and scales": what a factor's exponent raises, its prefix's factor times its row's scale
  pub size : Factor → A
  -- 01, "Simplification": whether two rows have one key
  pub alike : ℕ → ℕ → Bool
  -- 01, "Simplification": whether a row is base
  pub is_base : ℕ → Bool
  -- 01, "Simplification": a row's first base exponent, 1 where it has none
  pub lead : ℕ → Exponent

-- the scale of a list by them
abbrev pub scale_by : {A : Type 0} → Rules A → List Factor → Outcome A
scale_by R = scale R.numbers R.size

-- those of the table t, whose rows are known as ks
abbrev pub rules_in : Rows → List Facts → Rules Float
rules_in t ks = record {
  order = order_in ks;
  bases = bases (length (base_rows t)) ks;
  numbers = doubles;
  size = size_by (scale_at ks);
  alike = λ r s. is_eq (key_order ks r s);
  is_base = λ r. (get_or ks r nobody).base;
  lead = λ r. first (get_or ks r nobody).exps;
}

-- 02, order 5: the same rules over numbers that carry the multiplications they took
abbrev pub counted : Rules Float → Rules Tally
counted R = record {
  order = R.order;
  bases = R.bases;
  numbers = counting R.numbers;
  size = counted_size R.size;
  alike = R.alike;
  is_base = R.is_base;
  lead = R.lead;
}
