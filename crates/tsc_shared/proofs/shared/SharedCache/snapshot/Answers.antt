-- Proves the contract of `SharedCache::snapshot`. The cache after a history that begins with all
-- that
-- the seat has seen, and that has each Add that returned before, as in `get_max`.
use Rattle.std.proofs.Common.{subst, IfOk, arith}
use Rattle.tsc_shared.specs.declared.answers.Snapshot.{Snapshot}
use Rattle.tsc_shared.specs.Seats.{SeatView}
use Rattle.tsc_shared.specs.Keeping.{seat_view}
use Rattle.tsc_shared.specs.Answers.{TakesSnapshot, HasLookedOn}
use Rattle.tsc_shared.proofs.SeatSteps.{kept_looked, looked_on, takes_handle}
use Rattle.tsc_shared.proofs.shared.SharedCache.snapshot.Goals as goal

pub invariant_of-seat : goal.invariant_of-seat
invariant_of-seat c = let l = c.read-cache.ensures.looked in
    kept_looked c.seat.inside.participant c.read-cache.new.who c.read-cache.result.1
    l.0 c.seat.inside.number c.seat.inside.count c.seat.inside.seen c.seat.invariant l.1
    c.read-cache.ensures.table

pub returns-clause-taken : goal.returns-clause-taken
returns-clause-taken c = let l = c.read-cache.ensures.looked in
    subst (λ (old : SeatView). IfOk c.snapshot_of.result
    (λ (snapshot : Snapshot). TakesSnapshot old (seat_view c.read-cache.new.who) snapshot))
    c.seat.view_is
    (takes_handle c.seat.inside.participant c.read-cache.new.who
    c.read-cache.result.1 _ l.0 c.read-cache.result.0 c.snapshot_of.result
    c.seat.invariant.seat l.1 c.read-cache.ensures.table l.2 (omega arith)
    c.snapshot_of.ensures)

pub returns-clause-looked : goal.returns-clause-looked
returns-clause-looked c = let l = c.read-cache.ensures.looked in
    subst (λ (old : SeatView). HasLookedOn old (seat_view c.read-cache.new.who))
    c.seat.view_is
    (looked_on c.seat.inside.participant c.read-cache.new.who c.read-cache.result.1
    l.0 c.seat.invariant.seat l.1 c.read-cache.ensures.table)
