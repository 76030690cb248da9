-- Proves the contract of `SharedCache::figures`. What `Cache::figures` counts, after a history that
-- begins with all that the seat has seen, and that has each Add that returned before, as in
-- `get_max`.
use Rattle.std.proofs.Common.{subst}
use Rattle.tsc_shared.specs.Keeping.{seat_view}
use Rattle.tsc_shared.specs.Answers.{ReadsFigures}
use Rattle.tsc_shared.proofs.SeatSteps.{kept_looked, counts_now}
use Rattle.tsc_shared.proofs.shared.SharedCache.figures.Goals as goal

pub invariant_of-seat : goal.invariant_of-seat
invariant_of-seat c = let l = c.read-figures.ensures.looked in
    kept_looked c.seat.inside.participant c.read-figures.new.who
    c.read-figures.result.1 l.0 c.seat.inside.number c.seat.inside.count
    c.seat.inside.seen c.seat.invariant l.1 c.read-figures.ensures.table

pub returns : goal.returns
returns c = let l = c.read-figures.ensures.looked in
    subst (λ old. ReadsFigures old (seat_view c.read-figures.new.who)
    (record {
      figures = c.read-figures.result.0;
      front = c.read-figures.result.1;
    })) c.seat.view_is
    (counts_now c.seat.inside.participant c.read-figures.new.who
    c.read-figures.result.1 l.0 c.read-figures.result.0 c.seat.invariant.seat
    l.1 c.read-figures.ensures.table l.2)
