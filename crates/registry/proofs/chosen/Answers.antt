-- `chosen` meets its contract. The invariant: `best` is the best of the candidates before i, and those from i on choose from there as all do from the start.
use borrow.Author.Rules.{rules}
use mathlib.Core.Path.{◌≡◌, ◌∙◌}
use mathlib.Core.List.{List, []}
use Prim.Native.Nat.{◌<◌}
use native.Mathlib.Omega.{arith}
use lib.ListN.{length, get_or}
use Rattle.exponents.proofs.Handed.{handed_on}
use Rattle.exponents.proofs.Words.{unmapped}
use Rattle.units.specs.declared.Factor.{Factor}
use Rattle.registry.specs.Held.{rules_of, Checks}
use Rattle.registry.proofs.GivenLists.{all_given, nil_candidate, candidates_few, candidates_long, candidate_at_lem}
use Rattle.registry.proofs.Choosing.{Underway, turns_end, turns_stop, turns_won, turns_on}
use Rattle.registry.proofs.chosen.Goals as goal

pub returns-in_err-o : goal.returns-in_err-o
returns-in_err-o c tb l k x g =
    let a = c.args in
    let i = c.loop-i.i in
    let ms : List (List Factor) = k.lists in
    let so_far : Underway (rules_of tb) x.exps a.s l.amount ms c.loop-i.best i = c.loop-i.invariant tb l k x g in
    let full : length a.c.at ≡ 32 = search (rules, unmapped) in
    let here : i < a.c.len = omega (arith, c.loop-i-test.true, all_given a.c.len c.min-given.result (candidates_few (length tb.known) a.c ms k.are) c.min-given.ensures) in
    let more : i < length ms = omega (arith, candidates_long (length tb.known) a.c ms k.are full) in
    let candidate : Checks tb (get_or a.c.at i nil_candidate).unit = record { factors = get_or ms i []; is = candidate_at_lem (length tb.known) a.c ms k.are full i _ [] here } in
    handed_on _ _ c.from_residual.ensures.1
    ∙ turns_stop (rules_of tb) x.exps a.s l.amount ms c.loop-i.best i so_far [] more _ (c.in_err-o.ensures tb l so_far.best candidate x so_far.is g)

pub returns-then-o : goal.returns-then-o
returns-then-o c tb l k x g =
    let a = c.args in
    let i = c.loop-i.i in
    let ms : List (List Factor) = k.lists in
    let so_far : Underway (rules_of tb) x.exps a.s l.amount ms c.loop-i.best i = c.loop-i.invariant tb l k x g in
    let full : length a.c.at ≡ 32 = search (rules, unmapped) in
    let here : i < a.c.len = omega (arith, c.loop-i-test.true, all_given a.c.len c.min-given.result (candidates_few (length tb.known) a.c ms k.are) c.min-given.ensures) in
    let more : i < length ms = omega (arith, candidates_long (length tb.known) a.c ms k.are full) in
    let candidate : Checks tb (get_or a.c.at i nil_candidate).unit = record { factors = get_or ms i []; is = candidate_at_lem (length tb.known) a.c ms k.are full i _ [] here } in
    turns_won (rules_of tb) x.exps a.s l.amount ms c.loop-i.best i so_far [] more c.in_ok-o.o (c.in_ok-o.ensures tb l so_far.best candidate x so_far.is g) c.if-o.true

pub loop-i-preserved : goal.loop-i-preserved
loop-i-preserved c tb l k x g =
    let a = c.args in
    let i = c.loop-i.i in
    let ms : List (List Factor) = k.lists in
    let so_far : Underway (rules_of tb) x.exps a.s l.amount ms c.loop-i.best i = c.loop-i.invariant tb l k x g in
    let full : length a.c.at ≡ 32 = search (rules, unmapped) in
    let here : i < a.c.len = omega (arith, c.loop-i-test.true, all_given a.c.len c.min-given.result (candidates_few (length tb.known) a.c ms k.are) c.min-given.ensures) in
    let more : i < length ms = omega (arith, candidates_long (length tb.known) a.c ms k.are full) in
    let candidate : Checks tb (get_or a.c.at i nil_candidate).unit = record { factors = get_or ms i []; is = candidate_at_lem (length tb.known) a.c ms k.are full i _ [] here } in
    turns_on (rules_of tb) x.exps a.s l.amount ms c.loop-i.best i so_far [] more c.in_ok-o.o (c.in_ok-o.ensures tb l so_far.best candidate x so_far.is g) c.if-o.false

pub returns : goal.returns
returns c tb l k x g =
    let a = c.args in
    let ms : List (List Factor) = k.lists in
    let w = c.loop-i in
    let u : Underway (rules_of tb) x.exps a.s l.amount ms w.best w.i = w.invariant tb l k x g in
    let full : length a.c.at ≡ 32 = search (rules, unmapped) in
    let long : length ms ≡ a.c.len = candidates_long (length tb.known) a.c ms k.are full in
    let all = all_given a.c.len c.min-given.result (candidates_few (length tb.known) a.c ms k.are) c.min-given.ensures in
    turns_end (rules_of tb) x.exps a.s l.amount ms w.best w.i u (omega (arith, c.loop-i-test.false))
