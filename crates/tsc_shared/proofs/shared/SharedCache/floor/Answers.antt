-- Proves the contract of `SharedCache::floor`. Where the floor stands after a history that
-- begins with all that the seat has seen, and that has each Add that returned before, as in
-- `get_max`.
use Rattle.std.proofs.Common.{subst}
use Rattle.tsc_cache.specs.ConfigView.{IsWithinLimits}
use Rattle.tsc_shared.specs.Seats.{SharedView}
use Rattle.tsc_shared.specs.Keeping.{seat_view}
use Rattle.tsc_shared.specs.Answers.{ReadsFloor}
use Rattle.tsc_shared.proofs.SeatSteps.{kept_looked, reads_now}
use Rattle.tsc_shared.proofs.shared.SharedCache.floor.Goals as goal

pub invariant_of-seat : goal.invariant_of-seat
invariant_of-seat c = let l = c.read-time.ensures.looked in
    kept_looked c.seat.inside.participant c.read-time.new.who c.read-time.result.1 l.0
    c.seat.inside.number c.seat.inside.count c.seat.inside.seen c.seat.invariant l.1
    c.read-time.ensures.table

pub returns-clause-floor : goal.returns-clause-floor
returns-clause-floor c = let l = c.read-time.ensures.looked in
    subst (λ old. ReadsFloor old (seat_view c.read-time.new.who)
    (record { time = c.read-time.result.0; front = c.read-time.result.1 }))
    c.seat.view_is
    (reads_now c.seat.inside.participant c.read-time.new.who c.read-time.result.1 l.0
    c.read-time.result.0 c.seat.invariant.seat l.1 c.read-time.ensures.table l.2)

pub returns-clause-limits : goal.returns-clause-limits
returns-clause-limits c = subst (λ (cache : SharedView). IsWithinLimits cache.config) c.self.view_is
    c.page_first-first.ensures.limits
