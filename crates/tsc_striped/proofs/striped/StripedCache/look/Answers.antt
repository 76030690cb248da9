-- Proves the contract of `StripedCache::look`. What the caches of all stripes answer that the span
-- touches.
use Rattle.std.proofs.Common.{◌≡◌, ◌∙◌, ◌-◌, sym, ap, subst, arith}
use Rattle.std.specs.Prelude.{IfSome, IfNone}
use Rattle.tsc_striped.specs.Keeping.{seat_view}
use Rattle.tsc_striped.specs.Answers.{AnswersLookup}
use Rattle.tsc_striped.specs.Looks.{look_from, look_on}
use Rattle.tsc_striped.specs.Seats.{SeatView, StripedView}
use Rattle.tsc_striped.specs.Waiting.{HasEnd}
use Rattle.tsc_striped.proofs.SeatSteps.{kept_if_looked, same_if_busy, answers_over, answers_in}
use Rattle.tsc_striped.proofs.striped.StripedCache.look.Goals as goal

pub invariant_of-seat : goal.invariant_of-seat
invariant_of-seat g c =
    let p = c.seat.inside.participant in
    kept_if_looked p c.look_over.new.who c.look_over.result
    (λ value h. value ≡ look_from p.me.0.setup h c.args.span.now
    c.find_touched-touched.result.first
    (c.find_touched-touched.result.last - c.find_touched-touched.result.first)) _
    c.look_over.ensures.table c.look_over.ensures.looked c.look_over.ensures.busy
    c.seat.inside.number c.seat.inside.count c.seat.invariant

pub returns-then-touched-clause-looked : goal.returns-then-touched-clause-looked
returns-then-touched-clause-looked g c =
    let same = ap (λ (s : SeatView). s.cache) c.seat.view_is ∙ c.requires.cache
    ∙ sym c.self.view_is in
    let bounds = c.as_slice.ensures.value ∙ c.self.invariant.2
    ∙ ap (λ (x : StripedView). x.terms.bounds) (sym same) in
    subst (λ old. IfSome c.look_over.result (λ value. AnswersLookup old
    (seat_view c.look_over.new.who) c.args.span.now value)) c.seat.view_is
    (answers_over c.seat.inside.participant c.look_over.new.who c.as_slice.result.now
    c.args.span.now c.look_over.result c.find_touched-touched.result.first
    c.find_touched-touched.result.last c.seat.invariant.seat c.look_over.ensures.table bounds
    c.find_touched-touched.ensures.first c.find_touched-touched.ensures.last
    c.look_over.ensures.looked)

pub returns-then-touched-clause-busy : goal.returns-then-touched-clause-busy
returns-then-touched-clause-busy g c =
    subst (λ old. IfNone c.look_over.result ((seat_view c.look_over.new.who ≡ old)
    × HasEnd (g.P.WaitPolicy.tries c.args.policy.now))) c.seat.view_is
    (same_if_busy c.seat.inside.participant c.look_over.new.who c.look_over.result _
    c.look_over.ensures.table c.look_over.ensures.busy)

pub invariant_of-seat-2 : goal.invariant_of-seat-2
invariant_of-seat-2 g c =
    let p = c.seat.inside.participant in
    kept_if_looked p c.look_in.new.who c.look_in.result
    (λ value h. value ≡ look_on p.me.0.setup h c.args.span.now
    c.find_touched-touched.result.first) _ c.look_in.ensures.table c.look_in.ensures.looked
    c.look_in.ensures.busy c.seat.inside.number c.seat.inside.count c.seat.invariant

pub returns-clause-looked : goal.returns-clause-looked
returns-clause-looked g c =
    let same = ap (λ (s : SeatView). s.cache) c.seat.view_is ∙ c.requires.cache
    ∙ sym c.self.view_is in
    let bounds = c.as_slice.ensures.value ∙ c.self.invariant.2
    ∙ ap (λ (x : StripedView). x.terms.bounds) (sym same) in
    subst (λ old. IfSome c.look_in.result (λ value. AnswersLookup old
    (seat_view c.look_in.new.who) c.args.span.now value)) c.seat.view_is
    (answers_in c.seat.inside.participant c.look_in.new.who c.as_slice.result.now
    c.args.span.now c.look_in.result c.find_touched-touched.result.first
    c.find_touched-touched.result.last c.seat.invariant.seat c.look_in.ensures.table bounds
    c.find_touched-touched.ensures.first c.find_touched-touched.ensures.last
    (omega (arith, c.if-touched.false)) c.look_in.ensures.looked)

pub returns-clause-busy : goal.returns-clause-busy
returns-clause-busy g c =
    subst (λ old. IfNone c.look_in.result ((seat_view c.look_in.new.who ≡ old)
    × HasEnd (g.P.WaitPolicy.tries c.args.policy.now))) c.seat.view_is
    (same_if_busy c.seat.inside.participant c.look_in.new.who c.look_in.result _
    c.look_in.ensures.table c.look_in.ensures.busy)
