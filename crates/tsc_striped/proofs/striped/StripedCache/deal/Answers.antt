-- Proves the contract of `StripedCache::deal`. The next seat.
use Rattle.std.proofs.Common.{◌∙◌, sym, ap, subst, arith}
use Rattle.tsc_striped.specs.declared.striped.StripedCache.TheInside.{Inside}
use Rattle.tsc_striped.specs.Seats.{DealerView, StripedView, IsSettled}
use Rattle.tsc_striped.proofs.Dealing.{keeps_next, keeps_first}
use Rattle.tsc_striped.proofs.striped.StripedCache.deal.Goals as goal

pub invariant_of-result : goal.invariant_of-result
invariant_of-result c =
    let same = ap (λ (d : DealerView). d.cache) c.dealer.view_is ∙ c.requires.cache
    ∙ sym c.self.view_is in
    keeps_first c.dealer.inside.participant c.deal-participant.new.all c.deal-participant.result
    c.dealer.inside.dealt c.dealer.invariant
    (omega (
      arith,
      c.if-number-self.false,
      ap (λ (x : Inside). x.setup.seats) c.self-inside.view_is,
      ap (λ (x : StripedView). x.terms.seats) same,
    ))
    c.deal-participant.ensures.table c.deal-participant.ensures.others
    c.deal-participant.ensures.first.0 c.deal-participant.ensures.first.1
    (subst (λ (x : StripedView). IsSettled x.terms) (sym same) c.self.invariant.3)

pub invariant_of-dealer : goal.invariant_of-dealer
invariant_of-dealer c =
    let same = ap (λ (d : DealerView). d.cache) c.dealer.view_is ∙ c.requires.cache
    ∙ sym c.self.view_is in
    keeps_next c.dealer.inside.participant c.deal-participant.new.all c.deal-participant.result
    c.dealer.inside.dealt c.dealer.invariant
    (omega (
      arith,
      c.if-number-self.false,
      ap (λ (x : Inside). x.setup.seats) c.self-inside.view_is,
      ap (λ (x : StripedView). x.terms.seats) same,
    ))
    c.deal-participant.ensures.table c.deal-participant.ensures.others
    c.deal-participant.ensures.first.0 c.deal-participant.ensures.first.1
