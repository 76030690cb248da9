-- Proves the contract of `SharedCache::get_max_ref`. As `get_max`, of a span over keys that lie
-- elsewhere.
use Rattle.std.proofs.Common.{subst}
use Rattle.tsc_shared.specs.Keeping.{seat_view}
use Rattle.tsc_shared.specs.Answers.{AnswersLookup}
use Rattle.tsc_shared.proofs.SeatSteps.{kept_looked, looks_now, is_above, reports_no_part}
use Rattle.tsc_shared.proofs.shared.SharedCache.get_max_ref.Goals as goal

pub invariant_of-seat : goal.invariant_of-seat
invariant_of-seat c = let l = c.read-value.ensures.looked in
    kept_looked c.seat.inside.participant c.read-value.new.who c.read-value.result.1 l.0
    c.seat.inside.number c.seat.inside.count c.seat.inside.seen c.seat.invariant l.1
    c.read-value.ensures.table

pub returns-clause-looked : goal.returns-clause-looked
returns-clause-looked c = let l = c.read-value.ensures.looked in
    subst (λ old. AnswersLookup old (seat_view c.read-value.new.who) c.args.span.now
    (record { value = c.read-value.result.0; front = c.read-value.result.1 }))
    c.seat.view_is
    (looks_now c.seat.inside.participant c.read-value.new.who c.read-value.result.1 l.0
    c.args.span.now c.read-value.result.0 c.seat.invariant.seat l.1
    c.read-value.ensures.table l.2)

pub returns-clause-above : goal.returns-clause-above
returns-clause-above c = is_above c.args.seat.now (seat_view c.read-value.new.who)
    c.args.span.now (record {
      value = c.read-value.result.0;
      front = c.read-value.result.1;
    }) (returns-clause-looked c)

pub returns-clause-whole : goal.returns-clause-whole
returns-clause-whole c = reports_no_part (seat_view c.read-value.new.who) c.args.span.now
    c.read-value.result.0 (returns-clause-above c)
