-- Proves the contract of `SharedCache::catch_up`. Takes in a front.
use Rattle.std.proofs.Common.{subst}
use Rattle.tsc_shared.specs.Keeping.{seat_view, front_view}
use Rattle.tsc_shared.specs.Answers.{Learns}
use Rattle.tsc_shared.proofs.SeatSteps.{rests_newest}
use Rattle.tsc_shared.proofs.Endings.{kept_met, learns}
use Rattle.tsc_shared.proofs.shared.SharedCache.catch_up.Goals as goal

pub invariant_of-seat : goal.invariant_of-seat
invariant_of-seat c =
    let n = c.see_newest-newest.ensures.seen in
    let r = rests_newest c.seat.inside.participant c.see_newest-newest.new.who
    c.front.inside.participant.me.0.front c.see_newest-newest.result c.seat.invariant.seat
    c.see_newest-newest.ensures.table n in
    kept_met c.seat.inside.participant c.see_newest-newest.new.who n.history
    c.seat.inside.number c.seat.inside.count c.seat.inside.seen c.see_newest-newest.result
    c.seat.invariant r n.long

pub returns : goal.returns
returns c =
    let n = c.see_newest-newest.ensures.seen in
    let r = rests_newest c.seat.inside.participant c.see_newest-newest.new.who
    c.front.inside.participant.me.0.front c.see_newest-newest.result c.seat.invariant.seat
    c.see_newest-newest.ensures.table n in
    subst (λ old. Learns old (seat_view c.see_newest-newest.new.who) c.args.front
    c.see_newest-newest.result) c.seat.view_is
    (subst (λ front. Learns (seat_view c.seat.inside.participant)
    (seat_view c.see_newest-newest.new.who) front c.see_newest-newest.result)
    c.front.view_is
    (learns c.seat.inside.participant c.see_newest-newest.new.who
    (front_view c.front.inside.participant) n.history c.see_newest-newest.result r
    n.begins_other n.long))
