-- A write is made where a turn is left.
use Rattle.std.proofs.Common.{rules}
use Rattle.tsc_stream.proofs.limited.Limited.asks_to_write.Goals as goal

pub returns-then-ne : goal.returns-then-ne
returns-then-ne g c = search rules
