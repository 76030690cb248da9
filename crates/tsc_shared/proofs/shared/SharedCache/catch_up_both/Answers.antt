-- Proves the contract of `SharedCache::catch_up_both`. Has two seats meet.
use Rattle.std.proofs.Common.{◌∙◌, subst}
use Rattle.tsc_shared.specs.Answers.{Meets}
use Rattle.tsc_shared.specs.Keeping.{seat_view}
use Rattle.tsc_left_right.specs.Steps.{seen_of}
use Rattle.tsc_shared.proofs.shared.SharedCache.catch_up_both.Goals as goal
use Rattle.tsc_shared.proofs.SeatSteps.{rests_met}
use Rattle.tsc_shared.proofs.Endings.{met_second, kept_met, met_length, meets_both}

-- src/shared.rt:163:5
pub invariant_of-first : goal.invariant_of-first
invariant_of-first c =
    let a = seen_of c.first.inside.participant.me.0 in
    let b = seen_of c.second.inside.participant.me.0 in
    let met = c.catch_up.ensures.caught_up in
    let r = rests_met c.first.inside.participant c.catch_up-2.new.other c.catch_up.new.who.me b
    c.first.invariant.rest c.first.invariant.seat
    (c.catch_up-2.ensures.other_same.0 ∙ c.catch_up.ensures.table)
    c.catch_up-2.ensures.other_same.1 met in
    kept_met c.first.inside.participant c.catch_up-2.new.other met.history c.first.inside.number
    c.first.inside.count c.first.inside.seen c.max-met.result c.first.invariant r
    (met_length a b met.history c.first.inside.seen c.second.inside.seen c.max-met.result
    c.max-met.ensures c.first.invariant.seen_kept c.second.invariant.seen_kept met.is_longer)

-- src/shared.rt:163:5
pub invariant_of-second : goal.invariant_of-second
invariant_of-second c =
    let a = seen_of c.first.inside.participant.me.0 in
    let b = seen_of c.second.inside.participant.me.0 in
    let met = c.catch_up.ensures.caught_up in
    let r = met_second c.first.inside.participant c.second.inside.participant c.catch_up-2.new.who
    c.catch_up.new.who.me c.catch_up.new.other.me c.catch_up.ensures.other_same.1
    c.second.invariant.rest c.second.invariant.seat
    (c.catch_up-2.ensures.table ∙ c.catch_up.ensures.other_same.0) met
    c.catch_up-2.ensures.caught_up in
    kept_met c.second.inside.participant c.catch_up-2.new.who met.history c.second.inside.number
    c.second.inside.count c.second.inside.seen c.max-met.result c.second.invariant r
    (met_length a b met.history c.first.inside.seen c.second.inside.seen c.max-met.result
    c.max-met.ensures c.first.invariant.seen_kept c.second.invariant.seen_kept met.is_longer)

-- src/shared.rt:170:5
pub returns : goal.returns
returns c =
    let a = seen_of c.first.inside.participant.me.0 in
    let b = seen_of c.second.inside.participant.me.0 in
    let met = c.catch_up.ensures.caught_up in
    let r = rests_met c.first.inside.participant c.catch_up-2.new.other c.catch_up.new.who.me b
    c.first.invariant.rest c.first.invariant.seat
    (c.catch_up-2.ensures.other_same.0 ∙ c.catch_up.ensures.table)
    c.catch_up-2.ensures.other_same.1 met in
    let s = met_second c.first.inside.participant c.second.inside.participant c.catch_up-2.new.who
    c.catch_up.new.who.me c.catch_up.new.other.me c.catch_up.ensures.other_same.1
    c.second.invariant.rest c.second.invariant.seat
    (c.catch_up-2.ensures.table ∙ c.catch_up.ensures.other_same.0) met
    c.catch_up-2.ensures.caught_up in
    subst (λ first. Meets first c.args.second.now (seat_view c.catch_up-2.new.other)
    (seat_view c.catch_up-2.new.who) c.max-met.result) c.first.view_is
    (subst (λ second. Meets (seat_view c.first.inside.participant) second
    (seat_view c.catch_up-2.new.other) (seat_view c.catch_up-2.new.who) c.max-met.result)
    c.second.view_is
    (meets_both c.first.inside.participant c.second.inside.participant c.catch_up-2.new.other
    c.catch_up-2.new.who met.history c.max-met.result r s
    (met_length a b met.history c.first.inside.seen c.second.inside.seen c.max-met.result
    c.max-met.ensures c.first.invariant.seen_kept c.second.invariant.seen_kept met.is_longer)))
