-- Proves the contract of `SharedRange::deal`. The next client.
use Rattle.std.proofs.Common.{◌∙◌, sym, ap, arith}
use Rattle.mvcc_shared.specs.declared.shared_range.SharedRange.TheInside.{Inside}
use Rattle.mvcc_shared.specs.Clients.{DealerView, SharedView}
use Rattle.mvcc_shared.proofs.Dealing.{keeps_next, keeps_first}
use Rattle.mvcc_shared.proofs.shared_range.SharedRange.deal.Goals as goal

pub invariant_of-result : goal.invariant_of-result
invariant_of-result c =
    let same = ap (λ (d : DealerView). d.range) c.dealer.view_is ∙ c.requires.range
    ∙ sym c.self.view_is in
    keeps_first c.dealer.inside.participant c.deal-participant.new.all c.deal-participant.result
    c.dealer.inside.dealt c.dealer.invariant
    (omega (
      arith,
      c.if-number-self.false,
      ap (λ (x : Inside). x.setup.clients) c.self-inside.view_is,
      ap (λ (x : SharedView). x.terms.clients) same,
    ))
    c.deal-participant.ensures.table c.deal-participant.ensures.others
    c.deal-participant.ensures.first.0 c.deal-participant.ensures.first.1

pub invariant_of-dealer : goal.invariant_of-dealer
invariant_of-dealer c =
    let same = ap (λ (d : DealerView). d.range) c.dealer.view_is ∙ c.requires.range
    ∙ sym c.self.view_is in
    keeps_next c.dealer.inside.participant c.deal-participant.new.all c.deal-participant.result
    c.dealer.inside.dealt c.dealer.invariant
    (omega (
      arith,
      c.if-number-self.false,
      ap (λ (x : Inside). x.setup.clients) c.self-inside.view_is,
      ap (λ (x : SharedView). x.terms.clients) same,
    ))
    c.deal-participant.ensures.table c.deal-participant.ensures.others
    c.deal-participant.ensures.first.0 c.deal-participant.ensures.first.1
