-- Proves the contract of `StripedCache::add_copied`. An Add of a copy of marks.
use Rattle.std.proofs.Common.{◌≡◌, ◌∙◌, sym, ap, subst, ◌+◌, arith, List}
use Rattle.std.specs.Prelude.{Ok}
use Rattle.tsc_span.specs.Span.{KeyBytes}
use Rattle.tsc_page_model.specs.Page.{Mark}
use Rattle.tsc_time.specs.Time.{Time}
use Rattle.tsc_cache.specs.History.{CanAllBeAdded}
use Rattle.tsc_striped.specs.declared.striped.StripedCache.TheInside.{Inside}
use Rattle.tsc_striped.specs.declared.answers.Receipt.{Receipt}
use Rattle.tsc_striped.specs.Seats.{SeatView, StripedView}
use Rattle.tsc_striped.specs.Keeping.{seat_view}
use Rattle.tsc_striped.specs.Cutting.{IsCut}
use Rattle.tsc_striped.specs.Batches.{AddsAll}
use Rattle.tsc_striped.specs.Answers.{AnswersTriedAdd}
use Rattle.tsc_striped.proofs.Adds.{answers_added, can_be_all}
use Rattle.tsc_striped.proofs.SeatSteps.{kept_added}
use Rattle.tsc_striped.proofs.striped.StripedCache.add_copied.Goals as goal

pub add_batch-requires-clause-can : goal.add_batch-requires-clause-can
add_batch-requires-clause-can g c =
    let p = c.seat.inside.participant in
    let same = ap (λ (s : SeatView). s.cache) c.seat.view_is ∙ c.requires.cache
    ∙ sym c.self.view_is in
    let bounds = c.as_slice-3.ensures.value
    ∙ ap (λ (x : Inside). x.bounds.items) c.self-inside.view_is ∙ c.self.invariant.2
    ∙ ap (λ (x : StripedView). x.terms.bounds) (sym same) in
    let config = ap (λ (x : Inside). x.setup.config) c.self-inside.view_is
    ∙ ap (λ (x : StripedView). x.terms.config) (sym same) in
    let b = c.in-Ok.batch in
    let is = c.in-Ok.ensures.same in
    let can = can_be_all _ p.me.0.setup.config _ _ c.args.marks.items c.args.moment
    c.fit_all.ensures c.can_all_be_added.ensures c.as_slice.ensures.value
    c.as_slice-2.ensures.value config in (
      record {
        cut = subst (λ (bs : List KeyBytes). IsCut bs b) bounds c.in-Ok.ensures.cut;
        can = subst (λ (now : Time). CanAllBeAdded p.me.0.setup.config b.marks.items now) (sym is.1)
            (subst (λ (ms : List Mark). CanAllBeAdded p.me.0.setup.config ms c.args.moment)
            (sym is.0) can);
        room = c.seat.invariant.seat.settled.room;
      },
      c.due-notice.ensures.reported,
    )

pub invariant_of-seat-2 : goal.invariant_of-seat-2
invariant_of-seat-2 g c =
    let p = c.seat.inside.participant in
    let receipt : Receipt = record {
      number = c.seat.inside.count;
      added = c.in_ok-added.added;
      front = record { cache = (seat_view p).cache; seen = (seat_view p).seen };
    } in
    kept_added p c.add_batch.new.who c.in-Ok.batch.marks.items c.in-Ok.batch.moment receipt
    c.in_ok-added.ensures.table c.in_ok-added.ensures.added.0 c.seat.inside.number
    c.seat.inside.count (c.seat.inside.count + 1) c.seat.invariant (omega arith)

pub returns-clause-answers : goal.returns-clause-answers
returns-clause-answers g c =
    let p = c.seat.inside.participant in
    let is = c.in-Ok.ensures.same in
    let tries = g.P.WaitPolicy.tries c.args.policy.now in
    let receipt : Receipt = record {
      number = c.seat.inside.count;
      added = c.in_ok-added.added;
      front = c.front.result;
    } in
    let adds : AddsAll p.me c.add_batch.new.who.me c.args.marks.items c.args.moment
    c.in_ok-added.added =
    subst (λ (now : Time). AddsAll p.me c.add_batch.new.who.me c.args.marks.items now
    c.in_ok-added.added) is.1
    (subst (λ (ms : List Mark). AddsAll p.me c.add_batch.new.who.me ms c.in-Ok.batch.moment
    c.in_ok-added.added) is.0 c.in_ok-added.ensures.added.0) in
    subst (λ new. AnswersTriedAdd c.args.seat.now new c.args.marks.items c.args.moment tries
    (Ok receipt)) (sym c.front.ensures.same)
    (subst (λ old. AnswersTriedAdd old (seat_view c.add_batch.new.who) c.args.marks.items
    c.args.moment tries (Ok receipt)) c.seat.view_is
    (answers_added p c.add_batch.new.who c.args.marks.items c.args.moment tries receipt
    c.seat.invariant.seat c.in_ok-added.ensures.table adds c.seat.invariant.count_kept
    c.front.ensures.front
    (λ full. absurd (omega (
      arith,
      c.requires.room,
      ap (λ (s : SeatView). s.count) c.seat.view_is,
      full,
    )))
    c.requires.tries))

pub returns-clause-gate : goal.returns-clause-gate
returns-clause-gate g c =
    let due = c.due-notice.ensures.gate in
    let number : c.due-notice.result.seat ≡ c.args.seat.now.number =
    due.1 ∙ c.seat.invariant.number_kept ∙ ap (λ (s : SeatView). s.number) c.seat.view_is in
    subst (g.G.Gate.HasReported c.args.gate.now) number
    (subst (λ gate. g.G.Gate.HasReported gate c.due-notice.result.seat) due.0
    c.in_ok-added.ensures.added.1)
