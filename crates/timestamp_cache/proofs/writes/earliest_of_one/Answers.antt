-- The earliest that is clear of the answer is clear of each read that the seat has seen.
use Rattle.timestamp_cache.proofs.Asking.{asks_earliest}
use Rattle.timestamp_cache.proofs.writes.earliest_of_one.Goals as goal

pub returns-clause-asked : goal.returns-clause-asked
returns-clause-asked g c =
    asks_earliest g.C.Lookup.kind c.args.seat.now c.look_up.new.seat c.args.span.now c.args.by
    c.args.at c.in_ok-value.value c.earliest_clear_of.result g.met.C.Lookup.laws c.in_ok-value.ensures.looked
    c.earliest_clear_of.ensures
