-- Proves the contract of `StripedCache::learn`. Takes in a front.
use Rattle.std.proofs.Common.{subst, refl}
use Rattle.tsc_striped.specs.Keeping.{seat_view, front_view}
use Rattle.tsc_striped.specs.Answers.{Learns}
use Rattle.tsc_striped.proofs.Meeting.{rests_met, kept_rested, learns}
use Rattle.tsc_striped.proofs.striped.StripedCache.learn.Goals as goal

pub invariant_of-seat : goal.invariant_of-seat
invariant_of-seat c =
    let m = c.see_front.ensures.seen in
    let r = rests_met c.seat.inside.participant c.see_front.new.who c.see_front.new.who.me
    c.front.inside.participant.me.0.front c.see_front.ensures.table refl m in
    kept_rested c.seat.inside.participant c.see_front.new.who m.history r c.seat.inside.number
    c.seat.inside.count c.seat.invariant

pub returns : goal.returns
returns c =
    let m = c.see_front.ensures.seen in
    let r = rests_met c.seat.inside.participant c.see_front.new.who c.see_front.new.who.me
    c.front.inside.participant.me.0.front c.see_front.ensures.table refl m in
    subst (λ old. Learns old (seat_view c.see_front.new.who) c.args.front) c.seat.view_is
    (subst (λ front. Learns (seat_view c.seat.inside.participant) (seat_view c.see_front.new.who)
    front) c.front.view_is
    (learns c.seat.inside.participant c.see_front.new.who m.history
    (front_view c.front.inside.participant) c.seat.invariant.seat r m.begins_other))
