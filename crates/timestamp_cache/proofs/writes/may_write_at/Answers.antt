-- What is clear of the answer is clear of each read that the seat has seen.
use Rattle.timestamp_cache.proofs.Asking.{asks}
use Rattle.timestamp_cache.proofs.writes.may_write_at.Goals as goal

pub returns-clause-asked : goal.returns-clause-asked
returns-clause-asked g c =
    asks g.C.Lookup.kind c.args.seat.now c.look_up.new.seat c.args.span.now c.args.by c.args.at
    c.in_ok-value.value c.is_clear_of.result g.met.C.Lookup.laws c.in_ok-value.ensures.looked
    c.is_clear_of.ensures
