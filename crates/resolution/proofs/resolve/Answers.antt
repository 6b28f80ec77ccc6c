-- `resolve` meets its contract. The invariant: the rows and the keys of the factors before i of both lists are gathered.
use borrow.Author.Rules.{rules}
use mathlib.Core.Path.{◌≡◌, refl, sym, ap, ◌∙◌, subst}
use Prim.Native.Nat.{◌+◌, ◌*◌, ◌<◌}
use native.Mathlib.Omega.{arith}
use lib.ListN.{length, set, length-set}
use lib.Seq.{length-sets}
use Rattle.units.specs.Lists.{no_factor, both}
use Rattle.exponents.proofs.Words.{unmapped}
use Rattle.tables.proofs.Paging.{known_exps}
use Rattle.resolution.specs.Held.{Counts, Named, resolved_of}
use Rattle.resolution.proofs.Gathering.{Lists, join, first_short, second_short, long_join, first_part, second-part, names_row, key_there, key_is, within_on, named_on, named_none, resolved_by}
use Rattle.resolution.proofs.resolve.Goals as goal

pub returns-then-len-gt128 : goal.returns-then-len-gt128
returns-then-len-gt128 c ks h = absurd (omega (arith, h.all, h.keyed.few))

pub overflow_add-m : goal.overflow_add-m
overflow_add-m c =
    let first_full : length c.args.a.at ≡ 16 = search (rules, unmapped) in
    let second_full : length c.args.b.at ≡ 16 = search (rules, unmapped) in
    let g : Lists c.args.len c.args.a c.args.b = record { passed = c.in_ok-check_pair.ensures; first_full = first_full; second_full = second_full } in
    omega (arith, first_short g, second_short g)

pub loop-i-init : goal.loop-i-init
loop-i-init c =
    let first_full : length c.args.a.at ≡ 16 = search (rules, unmapped) in
    let second_full : length c.args.b.at ≡ 16 = search (rules, unmapped) in
    let g : Lists c.args.len c.args.a c.args.b = record { passed = c.in_ok-check_pair.ensures; first_full = first_full; second_full = second_full } in
    record {
      lists = g;
      first = first_short g;
      second = second_short g;
      long_keys = refl;
      long_rows = refl;
      within = λ j h. absurd (omega arith);
      gathered = λ ks h. named_none ks _ _ _;
    }

pub exps_at-e-requires : goal.exps_at-e-requires
exps_at-e-requires c =
    let low = names_row c.loop-i.invariant.lists c.loop-i.i no_factor (omega arith) in
    let here = c.row_at-r.ensures in
    search rules

pub returns-in_err-k : goal.returns-in_err-k
returns-in_err-k c ks h =
    let r = c.row_at-r.result in
    let there : r < length ks = omega (arith, names_row c.loop-i.invariant.lists c.loop-i.i no_factor (omega arith), c.row_at-r.ensures, h.all) in
    let known = known_exps _ _ _ _ _ _ r c.exps_at-e.result h.paged there c.exps_at-e.ensures.0 c.exps_at-e.ensures.1 (search (rules, unmapped)) in
    absurd (key_there h.keyed r there c.exps_at-e.result known _ c.in_err-k.ensures)

pub loop-i-preserved : goal.loop-i-preserved
loop-i-preserved c =
    let full : length c.in_ok-k.k ≡ 16 = search (rules, unmapped) in
    let o = c.loop-i in
    let v = o.invariant in
    let g = v.lists in
    let a = c.args in
    let r = c.row_at-r.result in
    let e = c.exps_at-e.result in
    let k = c.in_ok-k.k in
    let put = c.put_key.ensures in
    let row : r < a.len = omega (arith, names_row g o.i no_factor (omega arith), c.row_at-r.ensures) in
    let room : o.i < length o.named = omega arith in
    record {
      lists = g;
      first = v.first;
      second = v.second;
      long_keys = ap length put ∙ length-sets o.keys (o.i * 16) k ∙ v.long_keys;
      long_rows = length-set o.named o.i r ∙ v.long_rows;
      within = within_on o.named o.i r room (omega arith) v.within;
      gathered = λ ks h.
          let there : r < length ks = omega (arith, h.all) in
          let known = known_exps _ _ _ _ _ _ r e h.paged there c.exps_at-e.ensures.0 c.exps_at-e.ensures.1 (search (rules, unmapped)) in
          subst (Named ks (join a.a a.b) (o.i + 1) (set o.named o.i r)) (sym put)
          (named_on o.named o.i r room (v.gathered ks h) k (omega (arith, long_join g)) (omega arith) c.row_at-r.ensures there full (key_is h.keyed r there e known k c.in_ok-k.ensures));
    }

pub items-x-requires : goal.items-x-requires
items-x-requires c =
    let v = c.loop-i.invariant in
    (v.first, omega arith, (omega arith, v.long_rows, v.long_keys, λ j h. v.within j (omega arith)))

pub items-y-requires : goal.items-y-requires
items-y-requires c =
    let v = c.loop-i.invariant in
    (v.second, omega arith, (omega arith, v.long_rows, v.long_keys, λ j h. v.within j (omega arith)))

pub returns : goal.returns
returns c ks h =
    let o = c.loop-i in
    let g = o.invariant.lists in
    let a = c.args in
    let m : o.i ≡ a.a.len + a.b.len = omega arith in
    let fs = join a.a a.b in
    let all : Counts ks fs (a.a.len + a.b.len) o.named o.keys a.columns.now.ranks = record { all = sym (long_join g); named = subst (λ i. Named ks fs i o.named o.keys) m (o.invariant.gathered ks h); ranked = h.paged.ranked } in
    let sized = h.paged.sized in
    let basic = h.paged.basic in
    resolved_by g ks c.items-x.result c.items-y.result
    (c.items-x.ensures ks fs (record { counts = all; empty = h.empty; part = first_part g; sized = sized; basic = basic }))
    (c.items-y.ensures ks fs (record { counts = all; empty = h.empty; part = second-part g; sized = sized; basic = basic }))
    ∙ ap (λ n. resolved_of ks (both n a.a a.b)) h.all
