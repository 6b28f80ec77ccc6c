-- How code holds an admitted table, a call's lists resolved against it, and what is worked out on the way. No rule stands here: nothing that a call promises names these.
use Rattle.std.specs.Prelude.{◌≡◌, ◌⊎◌, Result, Bool, true, false, not, List, [], ◌∷◌, ◌++◌, map, ltb, eqb, ℤ, pos, length, get_or, replicate, Float}
use Prim.Native.Nat.{ℕ, suc, ◌+◌, ◌-◌, ◌*◌, ◌<◌, ◌≤◌, compare, Ordering}
use Rattle.std.specs.Float.{binary64}
use Rattle.std.specs.Float.Ieee.{mul}
use Rattle.exponents.specs.Words.{All}
use Rattle.exponents.specs.Outcome.{Outcome, Ok, Err, apply, bind, tested}
use Rattle.exponents.specs.Fractions.{nought}
use Rattle.exponents.specs.declared.Exponent.{Exponent}
use Rattle.floats.specs.Power.{one}
use Rattle.units.specs.declared.Factor.{Factor}
use Rattle.units.specs.declared.Kind.{Kind}
use Rattle.units.specs.declared.Kind.TheVariants.{Base, Derived}
use Rattle.units.specs.declared.Row.{Row}
use Rattle.units.specs.declared.Rows.{Rows}
use Rattle.units.specs.Lists.{no_factor, some, factor_fault}
use Rattle.keys.specs.Key.{key, first}
use Rattle.tables.specs.Lists.{base}
use Rattle.tables.specs.Scale.{doubles, scale, size_by}
use Rattle.keys.specs.Orders.{is_eq}
use Rattle.tables.specs.Rows.{Facts, nobody, exp_at, scale_at, places, bases, count, def_of, row_facts, Admission, admitted, stopped, admit, base_rows}
use Rattle.tables.specs.Order.{Atom, key_order, row_order, order, order_in}
use Rattle.tables.specs.Rules.{Rules}
use Rattle.tables.specs.declared.Slot.{Slot}
use Rattle.tables.specs.declared.Slots.{Slots}
use Rattle.tables.specs.declared.Known.{Known}
use Rattle.tables.specs.declared.Admitted.{Admitted}
use Rattle.tables.specs.declared.Rejected.{Rejected}
use Rattle.tables.specs.declared.pages.Columns.{Columns}
use Rattle.tables.specs.declared.pages.Bases.{Bases}
use Rattle.tables.specs.declared.Item.{Item}
use Rattle.tables.specs.declared.Items.{Items}
use Rattle.floats.specs.declared.Tally.{Tally}

-- ---- rows: arrays of 16, clean past their ends

abbrev pub no_slot : Slot
no_slot = record { row = 0; rank = 0 }

unfoldable pub pack_slots : List Slot → Slots
pack_slots ss = record { at = ss ++ replicate (16 - length ss) no_slot; len = length ss }

unfoldable pub pack_exps : List Exponent → List Exponent
pack_exps es = es ++ replicate (16 - length es) nought

-- the key is worked out again where it is used
unfoldable pub known_of : Facts → Known
known_of k = record { exps = pack_exps k.exps; scale = k.scale; rank = k.rank; base = k.base }

abbrev pub exps_of : Outcome (List Exponent) → Outcome (List Exponent)
exps_of = apply pack_exps

-- it took at most so many
abbrev pub Within : ℕ → Outcome Tally → Type 0
Within n (Ok t) = t.count ≤ n
Within n (Err r) = Unit {0}

abbrev pub worked_of : Outcome Facts → Outcome Known
worked_of = apply known_of

-- one row more
unfoldable pub counted : Kind → ℕ → ℕ
counted Base n = n + 1
counted (Derived f) n = n

-- a derived row, where there are n base rows
abbrev pub row_derived : ℕ → List Facts → Row → Float → Outcome Facts
row_derived n ks r f =
    bind (base (bases n ks) (def_of r)) (λ e.
    bind (key e) (λ k.
    bind (apply (mul binary64 f) (scale doubles (size_by (scale_at ks)) (def_of r))) (λ s.
    Ok (record { exps = e; key = k; scale = s; rank = r.rank; base = false }))))

-- ---- an admitted table: five arrays of plain numbers. Row r's base exponents stand at 16 r and the places behind it; its scale, rank and kind at r.

-- numerators and denominators apart
abbrev pub tops : List Exponent → List ℤ
tops = map (λ (x : Exponent). x.num)

abbrev pub bottoms : List Exponent → List ℕ
bottoms = map (λ (x : Exponent). x.den)

-- a row's base exponent at place s, as the two arrays tell it; zero past their ends
unfoldable pub told : List ℤ → List ℕ → ℕ → ℕ → Exponent
told nums dens r s = record { num = get_or nums (r * 16 + s) (pos 0); den = get_or dens (r * 16 + s) 1 }

-- they tell zeros of the rows from n on
pub record Blank (n : ℕ) (nums : List ℤ) (dens : List ℕ) : Type 0 where
  pub top : (i : ℕ) → n * 16 ≤ i → get_or nums i (pos 0) ≡ pos 0
  pub bottom : (i : ℕ) → n * 16 ≤ i → get_or dens i 1 ≡ 1

-- the arrays' lengths
abbrev pub Room : List ℤ → List ℕ → List Float → List ℕ → List Bool → Type 0
Room nums dens scales ranks based = (length nums ≡ 2048) × (length dens ≡ 2048) × (length scales ≡ 128) × (length ranks ≡ 128) × (length based ≡ 128)

-- the first two arrays tell the base exponents of the rows ks
pub record Filed (ks : List Facts) (nums : List ℤ) (dens : List ℕ) : Type 0 where
  pub top : (r s : ℕ) → r < length ks → s < 16 → get_or nums (r * 16 + s) (pos 0) ≡ (exp_at ks s r).num
  pub bottom : (r s : ℕ) → r < length ks → s < 16 → get_or dens (r * 16 + s) 1 ≡ (exp_at ks s r).den

-- the third their scales
abbrev pub Sized : List Facts → List Float → Type 0
Sized ks scales = (r : ℕ) → r < length ks → get_or scales r one ≡ scale_at ks r

-- the fourth their ranks
abbrev pub Ranked : List Facts → List ℕ → Type 0
Ranked ks ranks = (r : ℕ) → r < length ks → get_or ranks r 0 ≡ (get_or ks r nobody).rank

-- the fifth which are base
abbrev pub Basic : List Facts → List Bool → Type 0
Basic ks based = (r : ℕ) → r < length ks → get_or based r false ≡ (get_or ks r nobody).base

-- and all five what is known of them
pub record Paged (ks : List Facts) (nums : List ℤ) (dens : List ℕ) (scales : List Float) (ranks : List ℕ) (based : List Bool) : Type 0 where
  pub short : (r : ℕ) → r < length ks → length (get_or ks r nobody).exps ≤ 16
  pub filed : Filed ks nums dens
  pub rest : Blank (length ks) nums dens
  pub sized : Sized ks scales
  pub ranked : Ranked ks ranks
  pub basic : Basic ks based

-- every row that a definition names is among the rows ks
abbrev pub Reaching : List Facts → List Factor → Type 0
Reaching ks fs = some (λ f. not (ltb f.row (length ks))) fs ≡ false

-- the arrays after an admission; after a refused one they tell nothing
abbrev pub Pages : Admission → List ℤ → List ℕ → List Float → List ℕ → List Bool → Type 0
Pages (admitted ks) nums dens scales ranks based = Paged ks nums dens scales ranks based
Pages (stopped r ks) nums dens scales ranks based = Unit {0}

-- a refused table tells how many rows stood before the fault
abbrev pub admitted_of : List Slot → Admission → Result Admitted Rejected
admitted_of ss (admitted ks) = Ok (record { slots = pack_slots ss; len = length ks })
admitted_of ss (stopped r ks) = Err (record { refusal = r; len = length ks })

-- t is what code holds of the table `rows`: its base rows and how many rows it has, or the refusal; the arrays tell the rest
pub record Admits (rows : Rows) (t : Result Admitted Rejected) (nums : List ℤ) (dens : List ℕ) (scales : List Float) (ranks : List ℕ) (based : List Bool) : Type 0 where
  pub is : t ≡ admitted_of (base_rows rows) (admit rows)
  pub pages : Pages (admit rows) nums dens scales ranks based

-- one row more, as its refusal or none, and as the arrays after it
abbrev pub RowIn : List Slot → List Facts → Row → Outcome (Unit {0}) → List ℤ → List ℕ → List Float → List ℕ → List Bool → Type 0
RowIn ss ks row o nums dens scales ranks based = (o ≡ tested (row_facts ss ks row)) × ((k : Facts) → row_facts ss ks row ≡ Ok k → Paged (ks ++ (k ∷ [])) nums dens scales ranks based)

-- that of row i, with so many base rows before it, from the arrays before it to those after it
pub record Enters (slots : Slots) (i bases : ℕ) (row : Row) (o : Outcome (Unit {0})) (nums : List ℤ) (dens : List ℕ) (scales : List Float) (ranks : List ℕ) (based : List Bool) (nums' : List ℤ) (dens' : List ℕ) (scales' : List Float) (ranks' : List ℕ) (based' : List Bool) : Type 0 where
  pub joins : (ss : List Slot) (ks : List Facts) → slots ≡ pack_slots ss → i ≡ length ks → bases ≡ count ks → Paged ks nums dens scales ranks based → RowIn ss ks row o nums' dens' scales' ranks' based'

-- ---- the same, of the columns as code holds them

abbrev pub BlankIn : ℕ → Columns → Type 0
BlankIn n c = Blank n c.nums c.dens

-- all numerators are zero; the other columns hold anything
abbrev pub NoughtIn : Columns → Type 0
NoughtIn c = (i : ℕ) → get_or c.nums i (pos 0) ≡ pos 0

abbrev pub AdmitsIn : Rows → Result Admitted Rejected → Columns → Type 0
AdmitsIn rows t c = Admits rows t c.nums c.dens c.scales c.ranks c.based

abbrev pub EntersIn : Slots → ℕ → ℕ → Row → Outcome (Unit {0}) → Columns → Columns → Type 0
EntersIn slots i bases row o c d = Enters slots i bases row o c.nums c.dens c.scales c.ranks c.based d.nums d.dens d.scales d.ranks d.based

-- ---- a table as the lists of a call see it

pub record View : Type 0 where
  -- the order of factors, and whether two rows have one key, as the table has them
  pub order : Atom → Atom → Ordering
  pub alike : ℕ → ℕ → Bool
  -- what is known of each row
  pub exps : ℕ → List Exponent
  pub scale : ℕ → Float
  pub base : ℕ → Bool
  -- the lists, joined
  pub among : List Factor
  -- where a row stands among theirs: by key, then rank
  pub place : ℕ → ℕ
  -- the same for rows of one key, and only for those
  pub class : ℕ → ℕ

-- each row's exponent at the base row of place j
abbrev pub view_at : View → ℕ → ℕ → Exponent
view_at v j r = get_or (v.exps r) j nought

-- the base rows, where there are n
abbrev pub view_bases : View → ℕ → List (ℕ → Exponent)
view_bases v n = map (view_at v) (places 0 n)

-- the rules that a view has, where there are n base rows
abbrev pub rules_by : View → ℕ → Rules Float
rules_by v n = record {
  order = v.order;
  bases = view_bases v n;
  numbers = doubles;
  size = size_by v.scale;
  alike = v.alike;
  is_base = v.base;
  lead = λ r. first (v.exps r);
}

-- the order of factors by places
abbrev pub by_place : View → Atom → Atom → Ordering
by_place v = order (λ r s. compare (v.place r) (v.place s))

-- the list names the row
abbrev pub Stands : ℕ → List Factor → Type 0
Stands r [] = ⊥
Stands r (f ∷ l) = (f.row ≡ r) ⊎ Stands r l

-- places and classes tell the order and the keys of the rows that the lists name
pub record Placed (v : View) : Type 0 where
  pub order : (u w : Atom) → Stands u.row v.among → Stands w.row v.among → by_place v u w ≡ v.order u w
  pub class : (r s : ℕ) → Stands r v.among → Stands s v.among → eqb (v.class r) (v.class s) ≡ v.alike r s

unfoldable pub is_less : Ordering → Bool
is_less Ordering.lt = true
is_less Ordering.eq = false
is_less Ordering.gt = false

unfoldable pub tally : Bool → ℕ → ℕ
tally true n = suc n
tally false n = n

-- how many of the rows that a list names come before r
unfoldable pub before : (ℕ → ℕ → Ordering) → List Factor → ℕ → ℕ
before cmp [] r = 0
before cmp (f ∷ l) r = tally (is_less (cmp f.row r)) (before cmp l r)

-- the table whose rows are known as ks, seen by way of the list l
abbrev pub view_of : List Facts → List Factor → View
view_of ks l = record {
  order = order_in ks;
  alike = λ r s. is_eq (key_order ks r s);
  exps = λ r. pack_exps (get_or ks r nobody).exps;
  scale = scale_at ks;
  base = λ r. (get_or ks r nobody).base;
  among = l;
  place = before (row_order ks) l;
  class = before (key_order ks) l;
}

-- the arrays tell each row's base exponents
abbrev pub Lent : View → List ℤ → List ℕ → Type 0
Lent v nums dens = (r s : ℕ) → s < 16 → view_at v s r ≡ told nums dens r s

-- what is lent with n base rows: their exponents, of which no row has more than the arrays have places for
pub record Lends (v : View) (n : ℕ) (nums : List ℤ) (dens : List ℕ) : Type 0 where
  pub lent : Lent v nums dens
  pub short : (r : ℕ) → length (v.exps r) ≤ 16
  pub few : n ≤ 16

-- the same of both columns, lent together
abbrev pub LendsIn : View → ℕ → Bases → Type 0
LendsIn v n b = Lends v n b.nums.now b.dens.now

-- ---- a resolved list

abbrev pub item_of : View → Factor → Item
item_of v f = record { factor = f; scale = v.scale f.row; place = v.place f.row; class = v.class f.row; base = v.base f.row }

-- what stands past the end
abbrev pub no_item : Item
no_item = record { factor = no_factor; scale = one; place = 0; class = 0; base = false }

unfoldable pub pack_items : View → List Factor → Items
pack_items v l = record { at = map (item_of v) l ++ replicate (16 - length l) no_item; len = length l }

-- the value of a list of items, its places past the end clean
unfoldable pub packed : List Item → Items
packed is = record { at = is ++ replicate (16 - length is) no_item; len = length is }

-- the empty list
abbrev pub no_items_lem : Items
no_items_lem = packed []

-- l is what code holds of the factors fs, at most sixteen, each keeping its rule, of rows that the view's lists name
pub record Resolved (v : View) (l : Items) (fs : List Factor) : Type 0 where
  pub is : l ≡ pack_items v fs
  pub short : length fs ≤ 16
  pub shaped : some factor_fault fs ≡ false
  pub named : All (λ f. Stands f.row v.among) fs
  pub placed : Placed v
