-- `put_key` meets its contract.
use borrow.Author.Rules.{rules}
use mathlib.Core.Path.{◌≡◌, refl}
use mathlib.Core.List.{append_assoc}
use Prim.Native.Nat.{◌+◌, ◌-◌, ◌≤◌}
use native.Mathlib.Omega.{arith}
use lib.ListN.{length}
use lib.Seq.{sets-eq}
use Rattle.std.proofs.lemmas.List.{drop-drop}
use Rattle.resolution.proofs.put_key.Goals as goal

pub returns : goal.returns
returns c =
    let a = c.args in
    let full : length a.k ≡ 16 = search rules in
    let room : a.at + length a.k ≤ length a.keys.now = omega arith in
    let cut : a.at + 16 - a.at ≡ length a.k = omega arith in
    rw (c.copy_from_slice.ensures.after, cut, sets-eq, append_assoc, drop-drop) refl
