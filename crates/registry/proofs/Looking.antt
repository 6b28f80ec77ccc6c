-- What code reads from an admitted table is so: its rows and base rows, a list with what is known of its rows, and a conversion between two lists that passed.
use mathlib.Core.Path.{◌≡◌, refl, sym, ap, ap₂, ◌∙◌, subst}
use mathlib.Core.Bool.{Bool}
use mathlib.Core.List.{List, [], ◌++◌}
use Prim.Native.Nat.{ℕ}
use lib.Ieee.{Float}
use lib.IntN.{ℤ}
use lib.ListN.{length, get_or}
use Rattle.exponents.specs.Words.{All}
use Rattle.std.specs.Prelude.{Result}
use Rattle.exponents.specs.Outcome.{Refusal, Outcome, Ok, Err, apply}
use Rattle.exponents.specs.declared.Exponent.{Exponent}
use Rattle.exponents.proofs.Holds.{bind_given, one_answer}
use Rattle.exponents.proofs.Numbers.{clash}
use Rattle.units.specs.declared.Factor.{Factor}
use Rattle.units.specs.declared.Factors.{Factors}
use Rattle.units.specs.Lists.{both}
use Rattle.tables.specs.declared.Admitted.{Admitted}
use Rattle.tables.specs.declared.Rejected.{Rejected}
use Rattle.tables.specs.declared.Item.{Item}
use Rattle.tables.specs.declared.Items.{Items}
use Rattle.tables.specs.Lists.{base}
use Rattle.tables.specs.Rows.{Facts, nobody, scale_at, Admission, admitted, base_rows, known, table}
use Rattle.tables.specs.Rules.{Rules}
use Rattle.tables.specs.Held.{View, Stands, Placed, pack_exps, pack_slots, admitted_of, Admits, Pages, item_of, pack_items, no_items_lem, view_of, view_bases, rules_by, Lends, Resolved}
use Rattle.resolution.specs.Held.{Keyed, Reads, resolved_of}
use Rattle.resolution.specs.declared.Resolved.{Resolved as Both}
use Rattle.resolution.proofs.Keyed.{admit_keyed}
use Rattle.resolution.proofs.Viewed.{first-named, second-named, view_placed, rules_told}
use Rattle.canonical.specs.Canonical.{same_all}
use Rattle.reduction.proofs.Compared.{packed-same}
use Rattle.reduction.proofs.Handed.{base_long}
use Rattle.lists.proofs.Ends.{slots_len, tells_of}
use Rattle.conversion.specs.Conversion.{convert}
use Rattle.quantities.proofs.Ready.{Converts}
use Rattle.registry.specs.Held.{plain_view, Table, rules_of, Stored, Checks, BaseExps}
use Rattle.registry.proofs.GivenLists.{Listed, listed}

-- a list that passed is resolved, by any view that places its rows
module _ {rows : ℕ} {a : Factors} {fs : List Factor} (g : Listed rows a fs) where
  pub passed_resolved : {v : View} {l : Items} → Placed v → All (λ f. Stands f.row v.among) fs → l ≡ pack_items v fs → Resolved v l fs
  passed_resolved h n e = record { is = e; short = g.few; shaped = g.shaped; named = n; placed = h }

  -- with what is known of its rows
  pub plain_resolved : (ks : List Facts) {l : Items} → l ≡ pack_items (plain_view ks fs) fs → Resolved (plain_view ks fs) l fs
  plain_resolved ks = passed_resolved (record { order = λ u w h k. refl; class = λ r s h k. refl }) (second-named [] fs)

pub plain_item : (ks : List Facts) (l : List Factor) (f : Factor) (x : Float) (y : Bool) → x ≡ scale_at ks f.row → y ≡ (get_or ks f.row nobody).base → ◌≡◌ {A = Item} (record { factor = f; scale = x; place = 0; class = 0; base = y }) (item_of (plain_view ks l) f)
plain_item ks l f x y = ap₂ (λ (x : Float) (y : Bool). record { factor = f; scale = x; place = 0; class = 0; base = y })

-- ---- an admitted table
module _ (tb : Table) where
  pub rows-known : table tb.rows ≡ Ok tb.known
  rows-known = ap known tb.admits

  pub keyed : Keyed tb.known
  keyed = admit_keyed tb.rows tb.known tb.admits

  -- as code hands it over
  module _ {t : Admitted} {nums : List ℤ} {dens : List ℕ} {scales : List Float} {ranks : List ℕ} {based : List Bool} (a : Admits tb.rows (Ok t) nums dens scales ranks based) where
    is : t ≡ record { slots = pack_slots (base_rows tb.rows); len = length tb.known }
    is =
        let e : ◌≡◌ {A = Result Admitted Rejected} (Ok t) (admitted_of (base_rows tb.rows) (admitted tb.known)) = a.is ∙ ap (admitted_of (base_rows tb.rows)) tb.admits in
        cc

    pub slots-are : t.slots ≡ pack_slots (base_rows tb.rows)
    slots-are = ap (λ (t : Admitted). t.slots) is

    pub stored : Stored tb t.len t.slots.len nums dens scales ranks based
    stored = record {
      long = ap (λ (t : Admitted). t.len) is;
      bases = slots_len t.slots (base_rows tb.rows) slots-are;
      paged = subst (λ (a : Admission). Pages a nums dens scales ranks based) tb.admits a.pages;
    }

module _ {tb : Table} {len n : ℕ} {nums : List ℤ} {dens : List ℕ} {scales : List Float} {ranks : List ℕ} {based : List Bool} (g : Stored tb len n nums dens scales ranks based) where
  -- what resolving goes by
  pub reads : {none : Items} → none ≡ no_items_lem → Reads tb.known len none nums dens scales ranks based
  reads e = record { all = g.long; empty = e; paged = g.paged; keyed = keyed tb }

  -- what the arrays tell of the rows
  pub lends_rows : (l : List Factor) → Lends (view_of tb.known l) n nums dens
  lends_rows l =
      subst (λ n. Lends (view_of tb.known l) n nums dens) (sym g.bases)
      (tells_of tb.rows nums dens scales ranks based (subst (λ (a : Admission). Pages a nums dens scales ranks based) (sym tb.admits) g.paged) tb.known (rows-known tb) l)

  pub lends_plain : (l : List Factor) → Lends (plain_view tb.known l) n nums dens
  lends_plain l = let h = lends_rows l in record { lent = h.lent; short = h.short; few = h.few }

  -- by way of any list, the rules are the table's
  pub rules_are : (l : List Factor) → rules_by (view_of tb.known l) n ≡ rules_of tb
  rules_are l = rules_told tb.rows tb.known l n g.bases

  pub plain-bases : (l : List Factor) → view_bases (plain_view tb.known l) n ≡ (rules_of tb).bases
  plain-bases l = ap (λ (R : Rules Float). R.bases) (rules_are l)

  -- there is one base exponent for each base row
  pub base_sized : (ms : List Factor) (ys : List Exponent) → base (rules_of tb).bases ms ≡ Ok ys → length ys ≡ length (base_rows tb.rows)
  base_sized ms ys e = base_long (plain_view tb.known []) n ms ys (ap (λ bs. base bs ms) (plain-bases []) ∙ e) ∙ g.bases

  -- base exponents as code compares them
  pub bases-same : (ms : List Factor) (ys x y : List Exponent) (b : BaseExps tb y) → base (rules_of tb).bases ms ≡ Ok ys → x ≡ pack_exps ys → same_all x y ≡ same_all ys b.exps
  bases-same ms ys x y b e p = ap₂ same_all p b.are ∙ packed-same ys b.exps (base_sized ms ys e ∙ sym b.sized)

  -- two lists that passed, resolved
  module _ {l m : Factors} (p : Checks tb l) (q : Checks tb m) where
    both_pass : both (length tb.known) l m ≡ Ok (p.factors, q.factors)
    unfolding both
    both_pass = bind_given _ p.is ∙ ap (apply (λ gs. (p.factors, gs))) q.is

    pub not_refused : (r : Refusal) → Err r ≡ resolved_of tb.known (both (length tb.known) l m) → ⊥
    not_refused r e = clash (sym (e ∙ ap (resolved_of tb.known) both_pass))

    -- a conversion between them is by the table's rules
    pub converts : (o : Both) → Ok o ≡ resolved_of tb.known (both (length tb.known) l m) → (x : Float) (c : Outcome Float) → Converts nums dens x o.a o.b n c → c ≡ convert (rules_of tb) p.factors q.factors x
    converts o e x c h =
        let fs = p.factors ++ q.factors in
        let resolves = one_answer (e ∙ ap (resolved_of tb.known) both_pass) in
        h (view_of tb.known fs) p.factors q.factors (lends_rows fs)
        (passed_resolved (listed p.is) (view_placed tb.known fs) (first-named p.factors q.factors) (ap (λ (o : Both). o.a) resolves))
        (passed_resolved (listed q.is) (view_placed tb.known fs) (second-named p.factors q.factors) (ap (λ (o : Both). o.b) resolves))
        ∙ ap (λ R. convert R p.factors q.factors x) (rules_are fs)
