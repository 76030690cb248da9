-- The earliest time that passes two tests, of which the first stays passed, is the earliest that
-- passes the second, from the earliest on that passes the first.
use Rattle.timestamp_cache.proofs.Earliest.{earliest_in_turn}
use Rattle.timestamp_cache.proofs.laws.earliest_in_turn.Goals as goal

pub returns : goal.returns
returns c = earliest_in_turn
