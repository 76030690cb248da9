-- Proves the contract of `SharedRange::close`. Ends the range where all its clients are handed in.
use Rattle.std.proofs.Common.{◌∙◌, sym, ap, subst, arith, refl}
use Rattle.mvcc_shared.specs.declared.answers.Closed.{Closed}
use Rattle.mvcc_shared.specs.Clients.{DealerView, SharedView}
use Rattle.mvcc_shared.specs.Answers.{Closes}
use Rattle.mvcc_shared.proofs.Gathering.{gathered_states, all_gathered, none_held, closes}
use Rattle.mvcc_shared.proofs.shared_range.SharedRange.close.Goals as goal

pub gather-all-requires-clause-clients : goal.gather-all-requires-clause-clients
gather-all-requires-clause-clients c =
    (c.args.self, sym (ap (λ (x : SharedView). x.table) c.self.view_is), c.requires.clients)

pub close-range-requires-clause-none : goal.close-range-requires-clause-none
close-range-requires-clause-none c =
    let p = c.dealer.inside.participant in
    none_held c.gather-all.result.me.0 c.args.clients.items c.dealer.inside.dealt _
    (gathered_states c.gather-all.result.me p.me c.args.clients.items c.dealer.inside.dealt
    c.gather-all.ensures.all.1 c.dealer.invariant.states)

pub close-range-requires-clause-states : goal.close-range-requires-clause-states
close-range-requires-clause-states c =
    let p = c.dealer.inside.participant in
    all_gathered c.gather-all.result.me.0.states c.args.clients.items c.dealer.inside.dealt _
    (gathered_states c.gather-all.result.me p.me c.args.clients.items c.dealer.inside.dealt
    c.gather-all.ensures.all.1 c.dealer.invariant.states)
    (omega (arith, c.len.ensures, c.if-is_missing.false, c.args.clients.ok.0)) c.dealer.invariant.some
    ∙ ap (λ (x : SharedView). x.terms.clients) (ap (λ (d : DealerView). d.range) c.dealer.view_is
    ∙ c.requires.dealer ∙ sym c.self.view_is)
    ∙ sym (ap (λ t. t.clients) c.self.invariant.1)

pub returns-clause-closed : goal.returns-clause-closed
returns-clause-closed c =
    let p = c.dealer.inside.participant in
    let closed : Closed = record { range = c.close-range.result.range; log = c.close-range.result.log } in
    subst (λ (d : DealerView). Closes d c.args.clients.items closed) c.dealer.view_is
    (closes _ c.args.clients.items c.gather-all.result.me.0.states _ c.close-range.result closed
    (c.self.invariant.1 ∙ ap (λ (x : SharedView). x.terms) (c.self.view_is
    ∙ sym c.requires.dealer ∙ sym (ap (λ (d : DealerView). d.range) c.dealer.view_is)))
    c.dealer.invariant.some
    (gathered_states c.gather-all.result.me p.me c.args.clients.items c.dealer.inside.dealt
    c.gather-all.ensures.all.1 c.dealer.invariant.states)
    c.close-range.ensures refl)
