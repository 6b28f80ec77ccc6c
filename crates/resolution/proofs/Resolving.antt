-- Lists resolved, as the code does it: a factor with what is known of its row, and a list packed one factor after the other.
use mathlib.Core.Path.{◌≡◌, sym, ◌∙◌, ap, ap₂}
use mathlib.Core.Bool.{Bool, false}
use mathlib.Core.List.{List}
use Prim.Native.Nat.{ℕ, ◌+◌, ◌<◌}
use native.Mathlib.Omega.{arith}
use native.Mathlib.Numerals.{add-one}
use lib.IntN.{ℤ}
use lib.Ieee.{Float}
use lib.ListN.{length, take, drop, set, get_or}
use lib.Seq.{take-suc, length-take-le, get_or-take, get_or-drop}
use Rattle.floats.specs.Power.{one}
use Rattle.units.specs.declared.Factor.{Factor}
use Rattle.units.specs.declared.Factors.{Factors}
use Rattle.units.specs.Lists.{no_factor, list_of}
use Rattle.tables.specs.Rows.{Facts, nobody, scale_at}
use Rattle.tables.specs.Held.{View, view_of, item_of, pack_items}
use Rattle.tables.proofs.Terms.{get_any}
use Rattle.tables.proofs.Resolved.{push_items}
use Rattle.resolution.specs.Held.{Fills, count_of, item_by}
use Rattle.resolution.specs.declared.Count.{Count}
use Rattle.tables.specs.declared.Item.{Item}
use Rattle.tables.specs.declared.Items.{Items}

-- ---- packed lists
module _ (v : View) where
  -- one turn of the loop: o holds the factors before i
  pub items_more : (fs : List Factor) (i : ℕ) (d : Factor) (o : Items) (x : Item) → i < length fs → i < 16 → o ≡ pack_items v (take i fs) → x ≡ item_of v (get_or fs i d) →
      ◌≡◌ {A = Items} (record { at = set o.at i x; len = i + 1 }) (pack_items v (take (i + 1) fs))
  items_more fs i d o x h k e q =
      push_items v (take i fs) (get_or fs i d) o x i e q (length-take-le i fs (omega arith)) k
      ∙ ap (pack_items v) (sym (ap (λ n. take n fs) (add-one i) ∙ take-suc fs i d h))

-- ---- a factor of a list that stands from place s on among all

pub row_any : (l : List Factor) (i : ℕ) (d e : Factor) → i < length l → (get_or l i d).row ≡ (get_or l i e).row
row_any l i d e h = ap (λ (f : Factor). f.row) (get_any l i d e h)

module _ {ks : List Facts} {fs : List Factor} {n : ℕ} {l : Factors} {s : ℕ} {none : Items} {rows : List ℕ} {keys : List ℤ} {scales : List Float} {ranks : List ℕ} {based : List Bool} (g : Fills ks fs n l s none rows keys scales ranks based) (i : ℕ) (h : i < l.len) (k : s + i < n) where
  row_of : (d : Factor) → get_or rows (s + i) 0 ≡ (get_or l.at i d).row
  row_of d =
      g.counts.named.row (s + i) k
      ∙ row_any fs (s + i) no_factor d (omega (arith, g.counts.all))
      ∙ ap (λ (f : Factor). f.row) (sym (sym (get_or-take l.len l.at i d h) ∙ ap (λ m. get_or m i d) g.part ∙ get_or-take l.len (drop s fs) i d h ∙ get_or-drop s fs i d))

  row_there : get_or rows (s + i) 0 < length ks
  row_there = rw (g.counts.named.row (s + i) k) (g.counts.named.known (s + i) k)

  pub item_of_lem : (d : Factor) (c : Count) (x : Item) → c ≡ count_of ks fs (get_or rows (s + i) 0) → x ≡ item_by (get_or scales (get_or rows (s + i) 0) one) (get_or based (get_or rows (s + i) 0) false) (get_or l.at i d) c → x ≡ item_of (view_of ks fs) (get_or (list_of l) i d)
  unfolding scale_at
  item_of_lem d c x e q =
      q
      ∙ ap₂ (λ (scale : Float) (base : Bool). item_by scale base (get_or l.at i d) c) (g.sized _ row_there) (g.basic _ row_there)
      ∙ ap (item_by (scale_at ks (get_or rows (s + i) 0)) (get_or ks (get_or rows (s + i) 0) nobody).base (get_or l.at i d)) e
      ∙ ap (λ r. item_by (scale_at ks r) (get_or ks r nobody).base (get_or l.at i d) (count_of ks fs r)) (row_of d)
      ∙ ap (item_of (view_of ks fs)) (sym (get_or-take l.len l.at i d h))
