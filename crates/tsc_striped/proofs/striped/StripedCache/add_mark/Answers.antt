-- Proves the contract of `StripedCache::add_mark`. An Add of one mark.
use Rattle.std.proofs.Common.{◌≡◌, ◌∙◌, sym, ap, subst, ◌+◌, arith, true, [], ◌∷◌}
use Rattle.std.specs.Prelude.{Ok}
use Rattle.tsc_page_model.specs.Page.{Mark}
use Rattle.tsc_cache.specs.ConfigView.{ConfigView, fits}
use Rattle.tsc_cache.specs.History.{CanBeAdded}
use Rattle.tsc_striped.specs.declared.striped.StripedCache.TheInside.{Inside}
use Rattle.tsc_striped.specs.declared.answers.Receipt.{Receipt}
use Rattle.tsc_striped.specs.Touching.{first_touched, last_touched}
use Rattle.tsc_striped.specs.Seats.{SeatView, StripedView}
use Rattle.tsc_striped.specs.Keeping.{seat_view}
use Rattle.tsc_striped.specs.Batches.{AddsAll}
use Rattle.tsc_striped.specs.Answers.{AnswersTriedAdd}
use Rattle.tsc_striped.proofs.Adds.{there_in, span_fits, lies_there, adds_one, was_tried}
use Rattle.tsc_striped.proofs.Adds.{answers_added}
use Rattle.tsc_striped.proofs.SeatSteps.{kept_added}
use Rattle.tsc_striped.proofs.striped.StripedCache.add_mark.Goals as goal

pub add_in-requires-clause-mark : goal.add_in-requires-clause-mark
add_in-requires-clause-mark g c =
    let p = c.seat.inside.participant in
    let same = ap (λ (s : SeatView). s.cache) c.seat.view_is ∙ c.requires.cache
    ∙ sym c.self.view_is in
    let bounds = c.as_slice.ensures.value
    ∙ ap (λ (x : Inside). x.bounds.items) c.self-inside.view_is ∙ c.self.invariant.2
    ∙ ap (λ (x : StripedView). x.terms.bounds) (sym same) in
    let first = c.find_touched-touched.ensures.first
    ∙ ap (first_touched c.as_slice.result.now) c.borrowed.ensures in
    let last = c.find_touched-touched.ensures.last
    ∙ ap (last_touched c.as_slice.result.now) c.borrowed.ensures in
    let m : Mark = record { span = c.args.mark.span.now; value = c.args.mark.value } in
    let settled = c.seat.invariant.seat.settled in
    let config = ap (λ (x : Inside). x.setup.config) c.self-inside.view_is
    ∙ ap (λ (x : StripedView). x.terms.config) (sym same) in
    let fit : fits p.me.0.setup.config c.args.mark.span.now ≡ true =
    span_fits p.me.0.setup c.args.mark.span.now c.cost-cost.result settled
    c.cost-cost.ensures.value c.cost-cost.ensures.most in
    let can : CanBeAdded p.me.0.setup.config m c.args.mark.moment =
    subst (λ (s : ConfigView). CanBeAdded s m c.args.mark.moment) config
    (c.can_be_added.ensures
    (subst (λ (s : ConfigView). fits s c.args.mark.span.now ≡ true) (sym config) fit)) in
    let there = there_in c.as_slice.result.now p.me.0.setup.bounds c.args.mark.span.now
    c.find_touched-touched.result.first bounds first in
    let lies = lies_there p.me.0.setup c.as_slice.result.now m c.args.mark.moment
    c.find_touched-touched.result.first c.find_touched-touched.result.last settled bounds can first
    last c.if-touched.false in (there, lies, fit, can)

pub invariant_of-seat-2 : goal.invariant_of-seat-2
invariant_of-seat-2 g c =
    let p = c.seat.inside.participant in
    let same = ap (λ (s : SeatView). s.cache) c.seat.view_is ∙ c.requires.cache
    ∙ sym c.self.view_is in
    let bounds = c.as_slice.ensures.value
    ∙ ap (λ (x : Inside). x.bounds.items) c.self-inside.view_is ∙ c.self.invariant.2
    ∙ ap (λ (x : StripedView). x.terms.bounds) (sym same) in
    let first = c.find_touched-touched.ensures.first
    ∙ ap (first_touched c.as_slice.result.now) c.borrowed.ensures in
    let last = c.find_touched-touched.ensures.last
    ∙ ap (last_touched c.as_slice.result.now) c.borrowed.ensures in
    let m : Mark = record { span = c.args.mark.span.now; value = c.args.mark.value } in
    let settled = c.seat.invariant.seat.settled in
    let config = ap (λ (x : Inside). x.setup.config) c.self-inside.view_is
    ∙ ap (λ (x : StripedView). x.terms.config) (sym same) in
    let fit : fits p.me.0.setup.config c.args.mark.span.now ≡ true =
    span_fits p.me.0.setup c.args.mark.span.now c.cost-cost.result settled
    c.cost-cost.ensures.value c.cost-cost.ensures.most in
    let can : CanBeAdded p.me.0.setup.config m c.args.mark.moment =
    subst (λ (s : ConfigView). CanBeAdded s m c.args.mark.moment) config
    (c.can_be_added.ensures
    (subst (λ (s : ConfigView). fits s c.args.mark.span.now ≡ true) (sym config) fit)) in
    let there = there_in c.as_slice.result.now p.me.0.setup.bounds c.args.mark.span.now
    c.find_touched-touched.result.first bounds first in
    let lies = lies_there p.me.0.setup c.as_slice.result.now m c.args.mark.moment
    c.find_touched-touched.result.first c.find_touched-touched.result.last settled bounds can first
    last (omega (arith, c.if-touched.false)) in
    let adds : AddsAll p.me c.add_in.new.who.me (m ∷ []) c.args.mark.moment c.in_ok-added.added =
    adds_one p.me c.add_in.new.who.me c.find_touched-touched.result.first m c.args.mark.moment
    c.in_ok-added.added there lies c.is_counted.ensures c.in_ok-added.ensures.added in
    let receipt : Receipt = record {
      number = c.seat.inside.count;
      added = c.in_ok-added.added;
      front = record { cache = (seat_view p).cache; seen = (seat_view p).seen };
    } in
    kept_added p c.add_in.new.who (m ∷ []) c.args.mark.moment receipt c.in_ok-added.ensures.table
    adds c.seat.inside.number c.seat.inside.count (c.seat.inside.count + 1) c.seat.invariant
    (omega arith)

pub returns-clause-answers : goal.returns-clause-answers
returns-clause-answers g c =
    let p = c.seat.inside.participant in
    let same = ap (λ (s : SeatView). s.cache) c.seat.view_is ∙ c.requires.cache
    ∙ sym c.self.view_is in
    let bounds = c.as_slice.ensures.value
    ∙ ap (λ (x : Inside). x.bounds.items) c.self-inside.view_is ∙ c.self.invariant.2
    ∙ ap (λ (x : StripedView). x.terms.bounds) (sym same) in
    let first = c.find_touched-touched.ensures.first
    ∙ ap (first_touched c.as_slice.result.now) c.borrowed.ensures in
    let last = c.find_touched-touched.ensures.last
    ∙ ap (last_touched c.as_slice.result.now) c.borrowed.ensures in
    let m : Mark = record { span = c.args.mark.span.now; value = c.args.mark.value } in
    let settled = c.seat.invariant.seat.settled in
    let config = ap (λ (x : Inside). x.setup.config) c.self-inside.view_is
    ∙ ap (λ (x : StripedView). x.terms.config) (sym same) in
    let fit : fits p.me.0.setup.config c.args.mark.span.now ≡ true =
    span_fits p.me.0.setup c.args.mark.span.now c.cost-cost.result settled
    c.cost-cost.ensures.value c.cost-cost.ensures.most in
    let can : CanBeAdded p.me.0.setup.config m c.args.mark.moment =
    subst (λ (s : ConfigView). CanBeAdded s m c.args.mark.moment) config
    (c.can_be_added.ensures
    (subst (λ (s : ConfigView). fits s c.args.mark.span.now ≡ true) (sym config) fit)) in
    let there = there_in c.as_slice.result.now p.me.0.setup.bounds c.args.mark.span.now
    c.find_touched-touched.result.first bounds first in
    let lies = lies_there p.me.0.setup c.as_slice.result.now m c.args.mark.moment
    c.find_touched-touched.result.first c.find_touched-touched.result.last settled bounds can first
    last (omega (arith, c.if-touched.false)) in
    let adds : AddsAll p.me c.add_in.new.who.me (m ∷ []) c.args.mark.moment c.in_ok-added.added =
    adds_one p.me c.add_in.new.who.me c.find_touched-touched.result.first m c.args.mark.moment
    c.in_ok-added.added there lies c.is_counted.ensures c.in_ok-added.ensures.added in
    let receipt : Receipt = record {
      number = c.seat.inside.count;
      added = c.in_ok-added.added;
      front = c.front.result;
    } in
    let tries = g.P.WaitPolicy.tries c.args.policy.now in
    subst (λ new. AnswersTriedAdd c.args.seat.now new (m ∷ []) c.args.mark.moment tries
    (Ok receipt)) (sym c.front.ensures.same)
    (subst (λ old. AnswersTriedAdd old (seat_view c.add_in.new.who) (m ∷ []) c.args.mark.moment
    tries (Ok receipt)) c.seat.view_is
    (answers_added p c.add_in.new.who (m ∷ []) c.args.mark.moment tries receipt
    c.seat.invariant.seat c.in_ok-added.ensures.table adds c.seat.invariant.count_kept
    c.front.ensures.front
    (λ full. absurd (omega (arith, c.if-seat.false, c.seat.invariant.count_kept, full)))
    (was_tried tries c.in_ok-added.added c.in_ok-added.ensures.why.1)))
