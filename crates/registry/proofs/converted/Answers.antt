-- `converted` meets its contract.
use Rattle.registry.proofs.Looking.{reads, not_refused, converts}
use Rattle.registry.proofs.converted.Goals as goal

pub returns-in_err-o : goal.returns-in_err-o
returns-in_err-o c tb p q g =
    absurd (not_refused g p q _ (c.in_err-o.ensures tb.known (reads g c.no_items-none.ensures)))

pub returns : goal.returns
returns c tb p q g =
    converts g p q c.in_ok-o.o (c.in_ok-o.ensures tb.known (reads g c.no_items-none.ensures)) _ c.convert.result c.convert.ensures
