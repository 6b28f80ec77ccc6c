-- The first s slots are looked at.
use Rattle.std.proofs.Common.{◌≡◌, List, length, map, take}
use Rattle.tables.specs.declared.Slot.{Slot}
use Rattle.tables.specs.Held.{pack_slots, pack_exps}
use Rattle.tables.specs.Rows.{self_exp}
use Rattle.tables.proofs.rows.own_exps.Given as goal

abbrev pub invariant-loop-s : goal.invariant-loop-s
invariant-loop-s l = record {
  long : length l.out ≡ 16;
  so_far : (ss : List Slot) → l.slots ≡ pack_slots ss → l.out ≡ pack_exps (map (self_exp l.i) (take l.s ss));
}
