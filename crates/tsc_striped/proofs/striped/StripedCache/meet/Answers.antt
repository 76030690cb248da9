-- Proves the contract of `StripedCache::meet`. Has two seats meet.
use Rattle.std.proofs.Common.{◌∙◌, subst}
use Rattle.tsc_stripe_table.specs.Steps.{seen_of}
use Rattle.tsc_striped.specs.Answers.{Meets}
use Rattle.tsc_striped.specs.Keeping.{seat_view}
use Rattle.tsc_striped.proofs.Meeting.{rests_met, kept_rested, met_second, meets_both}
use Rattle.tsc_striped.proofs.striped.StripedCache.meet.Goals as goal

pub invariant_of-first : goal.invariant_of-first
invariant_of-first c =
    let b = seen_of c.second.inside.participant.me.0 in
    let m = c.catch_up.ensures.caught_up in
    let r = rests_met c.first.inside.participant c.catch_up-2.new.other c.catch_up.new.who.me b
    (c.catch_up-2.ensures.other_same.0 ∙ c.catch_up.ensures.table)
    c.catch_up-2.ensures.other_same.1 m in
    kept_rested c.first.inside.participant c.catch_up-2.new.other m.history r
    c.first.inside.number c.first.inside.count c.first.invariant

pub invariant_of-second : goal.invariant_of-second
invariant_of-second c =
    let m = c.catch_up.ensures.caught_up in
    let s = met_second c.first.inside.participant c.second.inside.participant c.catch_up-2.new.who
    c.catch_up.new.who.me c.catch_up.new.other.me c.catch_up.ensures.other_same.1
    (c.catch_up-2.ensures.table ∙ c.catch_up.ensures.other_same.0) m
    c.catch_up-2.ensures.caught_up in
    kept_rested c.second.inside.participant c.catch_up-2.new.who m.history s
    c.second.inside.number c.second.inside.count c.second.invariant

pub returns : goal.returns
returns c =
    let b = seen_of c.second.inside.participant.me.0 in
    let m = c.catch_up.ensures.caught_up in
    let r = rests_met c.first.inside.participant c.catch_up-2.new.other c.catch_up.new.who.me b
    (c.catch_up-2.ensures.other_same.0 ∙ c.catch_up.ensures.table)
    c.catch_up-2.ensures.other_same.1 m in
    let s = met_second c.first.inside.participant c.second.inside.participant c.catch_up-2.new.who
    c.catch_up.new.who.me c.catch_up.new.other.me c.catch_up.ensures.other_same.1
    (c.catch_up-2.ensures.table ∙ c.catch_up.ensures.other_same.0) m
    c.catch_up-2.ensures.caught_up in
    subst (λ first. Meets first c.args.second.now (seat_view c.catch_up-2.new.other)
    (seat_view c.catch_up-2.new.who)) c.first.view_is
    (subst (λ second. Meets (seat_view c.first.inside.participant) second
    (seat_view c.catch_up-2.new.other) (seat_view c.catch_up-2.new.who)) c.second.view_is
    (meets_both c.first.inside.participant c.second.inside.participant c.catch_up-2.new.other
    c.catch_up-2.new.who m.history c.first.invariant.seat c.second.invariant.seat r s))
