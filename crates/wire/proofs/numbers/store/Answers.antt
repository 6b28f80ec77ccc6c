-- One byte more is stored.
use mathlib.Core.Path.{◌∙◌}
use native.Mathlib.Omega.{arith}
use lib.ListN.{length-set}
use Rattle.wire.proofs.Digits.{store_turn}
use Rattle.wire.proofs.numbers.store.Goals as goal

pub loop-k-preserved : goal.loop-k-preserved
loop-k-preserved c = (simp length-set (omega arith), store_turn _ _ _ _ _ c.loop-k-test.true ∙ c.loop-k.invariant.1)
