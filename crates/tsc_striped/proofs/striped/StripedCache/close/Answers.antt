-- Proves the contract of `StripedCache::close`. Ends the cache where all its seats are handed in.
use Rattle.std.proofs.Common.{◌∙◌, sym, ap, subst, arith}
use Rattle.tsc_striped.specs.Seats.{DealerView, StripedView}
use Rattle.tsc_striped.specs.Answers.{Closes}
use Rattle.tsc_striped.proofs.Endings.{gathered_states, all_gathered, none_held, retires}
use Rattle.tsc_striped.proofs.striped.StripedCache.close.Goals as goal

pub gather-all-requires-clause-seats : goal.gather-all-requires-clause-seats
gather-all-requires-clause-seats c =
    (c.args.self, sym (ap (λ (x : StripedView). x.table) c.self.view_is), c.requires.seats)

pub close-requires-clause-none : goal.close-requires-clause-none
close-requires-clause-none c stripe =
    let p = c.dealer.inside.participant in
    none_held stripe c.gather-all.result.me.0 c.args.seats.items c.dealer.inside.dealt _
    (gathered_states c.gather-all.result.me p.me c.args.seats.items c.dealer.inside.dealt
    c.gather-all.ensures.all.1 c.dealer.invariant.states)

pub close-requires-clause-states : goal.close-requires-clause-states
close-requires-clause-states c =
    let p = c.dealer.inside.participant in
    all_gathered c.gather-all.result.me.0.states c.args.seats.items c.dealer.inside.dealt _
    (gathered_states c.gather-all.result.me p.me c.args.seats.items c.dealer.inside.dealt
    c.gather-all.ensures.all.1 c.dealer.invariant.states)
    (omega (arith, c.len.ensures, c.if-is_missing.false, c.args.seats.ok.0)) c.dealer.invariant.some
    ∙ ap (λ (x : StripedView). x.terms.seats) (ap (λ (d : DealerView). d.cache) c.dealer.view_is
    ∙ c.requires.dealer ∙ sym c.self.view_is)
    ∙ sym (ap (λ t. t.seats) c.self.invariant.1)

pub returns-clause-closed : goal.returns-clause-closed
returns-clause-closed c =
    let p = c.dealer.inside.participant in
    subst (λ (d : DealerView). Closes d c.args.seats.items (record { caches = c.close.result }))
    c.dealer.view_is
    (retires _ c.args.seats.items c.gather-all.result.me.0.states _ c.close.result.items
    (c.self.invariant.1 ∙ ap (λ (x : StripedView). x.terms) (c.self.view_is
    ∙ sym c.requires.dealer ∙ sym (ap (λ (d : DealerView). d.cache) c.dealer.view_is)))
    c.dealer.invariant.some
    (gathered_states c.gather-all.result.me p.me c.args.seats.items c.dealer.inside.dealt
    c.gather-all.ensures.all.1 c.dealer.invariant.states)
    c.close.ensures)
