-- Proves the contract of `StripedCache::floor`. Where the floor of a stripe stands.
use Rattle.std.proofs.Common.{◌≡◌, subst}
use Rattle.std.specs.Prelude.{IfSome, IfNone}
use Rattle.tsc_stripe_table.specs.Stripes.{state_on}
use Rattle.tsc_striped.specs.Keeping.{seat_view}
use Rattle.tsc_striped.specs.Answers.{ReadsFloor}
use Rattle.tsc_striped.specs.Waiting.{HasEnd}
use Rattle.tsc_striped.proofs.SeatSteps.{kept_if_looked, same_if_busy, floor_if_read}
use Rattle.tsc_striped.proofs.striped.StripedCache.floor.Goals as goal

pub invariant_of-seat : goal.invariant_of-seat
invariant_of-seat g c =
    let p = c.seat.inside.participant in
    kept_if_looked p c.floor_in.new.who c.floor_in.result
    (λ time h. time ≡ (state_on p.me.0.setup c.args.stripe h).floor) _ c.floor_in.ensures.table
    c.floor_in.ensures.looked c.floor_in.ensures.busy c.seat.inside.number c.seat.inside.count
    c.seat.invariant

pub returns-clause-read : goal.returns-clause-read
returns-clause-read g c =
    subst (λ old. IfSome c.floor_in.result (λ time. ReadsFloor old (seat_view c.floor_in.new.who)
    c.args.stripe time)) c.seat.view_is
    (floor_if_read c.seat.inside.participant c.floor_in.new.who c.args.stripe c.floor_in.result
    c.seat.invariant.seat c.floor_in.ensures.table c.floor_in.ensures.looked)

pub returns-clause-busy : goal.returns-clause-busy
returns-clause-busy g c =
    subst (λ old. IfNone c.floor_in.result ((seat_view c.floor_in.new.who ≡ old)
    × HasEnd (g.P.WaitPolicy.tries c.args.policy.now))) c.seat.view_is
    (same_if_busy c.seat.inside.participant c.floor_in.new.who c.floor_in.result _
    c.floor_in.ensures.table c.floor_in.ensures.busy)
