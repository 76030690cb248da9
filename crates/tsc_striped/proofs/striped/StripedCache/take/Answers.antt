-- Proves the contract of `StripedCache::take`. A snapshot.
use Rattle.std.proofs.Common.{◌∙◌, refl, sym, ap, subst, arith}
use Rattle.tsc_striped.specs.declared.answers.Snapshot.{Snapshot}
use Rattle.tsc_striped.specs.Touching.{first_touched, last_touched}
use Rattle.tsc_striped.specs.Seats.{SeatView, StripedView}
use Rattle.tsc_striped.specs.Keeping.{seat_view}
use Rattle.tsc_striped.specs.Answers.{TakesSnapshot}
use Rattle.tsc_striped.proofs.Adds.{there_in, last_in}
use Rattle.tsc_striped.proofs.SeatSteps.{kept_looked}
use Rattle.tsc_striped.proofs.Copied.{takes_snapshot}
use Rattle.tsc_striped.proofs.striped.StripedCache.take.Goals as goal

pub share_over-requires-clause-onward : goal.share_over-requires-clause-onward
share_over-requires-clause-onward g c =
    let p = c.seat.inside.participant in
    let same = ap (λ (s : SeatView). s.cache) c.seat.view_is ∙ c.requires.cache
    ∙ sym c.self.view_is in
    let bounds = c.as_slice.ensures.value ∙ c.self.invariant.2
    ∙ ap (λ (x : StripedView). x.terms.bounds) (sym same) in
    let first = c.find_touched-touched.ensures.first
    ∙ ap (first_touched c.as_slice.result.now) c.borrowed.ensures in
    let last = c.find_touched-touched.ensures.last
    ∙ ap (last_touched c.as_slice.result.now) c.borrowed.ensures in (
      omega (arith, c.max-last.ensures),
      omega (
        arith,
        c.max-last.ensures,
        there_in c.as_slice.result.now p.me.0.setup.bounds c.args.span.now
            c.find_touched-touched.result.first bounds first,
        last_in c.as_slice.result.now p.me.0.setup.bounds c.args.span.now
            c.find_touched-touched.result.last bounds last,
      ),
    )

pub invariant_of-seat-2 : goal.invariant_of-seat-2
invariant_of-seat-2 g c = kept_looked c.seat.inside.participant c.share_over.new.who _
    c.in_ok-caches.ensures.table c.in_ok-caches.ensures.shared c.seat.inside.number
    c.seat.inside.count c.seat.invariant

pub returns-clause-taken : goal.returns-clause-taken
returns-clause-taken g c =
    let p = c.seat.inside.participant in
    let same = ap (λ (s : SeatView). s.cache) c.seat.view_is ∙ c.requires.cache
    ∙ sym c.self.view_is in
    let bounds = c.as_slice.ensures.value ∙ c.self.invariant.2
    ∙ ap (λ (x : StripedView). x.terms.bounds) (sym same) in
    let first = c.find_touched-touched.ensures.first
    ∙ ap (first_touched c.as_slice.result.now) c.borrowed.ensures in
    let last = c.find_touched-touched.ensures.last
    ∙ ap (last_touched c.as_slice.result.now) c.borrowed.ensures in
    let snapshot : Snapshot = record {
      first = c.find_touched-touched.result.first;
      caches = c.in_ok-caches.caches;
    } in
    subst (λ old. TakesSnapshot old (seat_view c.share_over.new.who) c.args.span.now snapshot)
    c.seat.view_is
    (takes_snapshot p c.share_over.new.who c.as_slice.result.now c.args.span.now
    c.find_touched-touched.result.first c.find_touched-touched.result.last c.max-last.result
    snapshot c.seat.invariant.seat c.in_ok-caches.ensures.table bounds first last
    (omega (arith, c.max-last.ensures)) refl c.in_ok-caches.ensures.shared)
