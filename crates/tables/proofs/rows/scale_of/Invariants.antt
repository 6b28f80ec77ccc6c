-- What is left, from `acc` on, is the whole scale.
use Rattle.std.proofs.Common.{◌≡◌, List, drop}
use Rattle.tables.specs.Scale.{doubles, scale_from_lem, scale, size_by}
use Rattle.tables.specs.Rows.{Facts, scale_at}
use Rattle.tables.specs.Held.{Reaching, Sized}
use Rattle.tables.proofs.rows.scale_of.Given as goal

abbrev pub invariant-loop-f : goal.invariant-loop-f
invariant-loop-f l = (ks : List Facts) → Reaching ks l.def → Sized ks l.scales → scale_from_lem doubles (size_by (scale_at ks)) l.acc (drop l.f-index l.def) ≡ scale doubles (size_by (scale_at ks)) l.def
