use mathlib.Core.Path.{sym}
use native.Mathlib.Omega.{arith}
use Rattle.std.proofs.lemmas.Slice.{put_mid-paste}
use Rattle.units.specs.Lists.{list_of}
use Rattle.units.proofs.Laws.{appended, listed}
use Rattle.units.proofs.lists.append.Goals as goal

pub returns : goal.returns
returns c fs e =
    let n = listed c.args.b c.well_formed.1.0.1.1.0.1.0.1 (omega arith) in
    appended c.args.out fs e (list_of c.args.b) _ c.args.b.len (sym n) c.requires (put_mid-paste _ _ _ _ _ c.args.b.len c.copy_from_slice.ensures.after (omega arith) (sym n))
