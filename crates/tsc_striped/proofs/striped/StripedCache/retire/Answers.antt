-- Proves the contract of `StripedCache::retire`. Who keeps the states of all seats sees the end.
use Rattle.std.proofs.Common.{◌≡◌, ◌∙◌, sym, ap, subst, arith, rules}
use Rattle.tsc_striped.specs.Seats.{DealerView, StripedView, SeatView}
use Rattle.tsc_striped.specs.Keeping.{cache_of}
use Rattle.tsc_striped.specs.Answers.{Retires}
use Rattle.tsc_striped.proofs.Endings.{gathered_states, retires}
use Rattle.tsc_striped.proofs.SeeingEnds.{keeps_all, its_own}
use Rattle.tsc_striped.proofs.striped.StripedCache.retire.Goals as goal

pub gather-all-requires-clause-seats : goal.gather-all-requires-clause-seats
gather-all-requires-clause-seats c =
    (c.args.self.now, sym (ap (λ (x : StripedView). x.table) c.self.view_is), c.requires.seats)

pub see_end-requires-clause-all : goal.see_end-requires-clause-all
see_end-requires-clause-all c =
    let p = c.dealer.inside.participant in
    let whose : cache_of p ≡ c.args.self.now =
    ap (λ (d : DealerView). d.cache) c.dealer.view_is ∙ c.requires.dealer in
    let own = c.gather-all.ensures.own (its_own c.args.seats.items (cache_of p) c.args.self.now whose
    c.requires.seats) in
    keeps_all c.gather-all.result c.args.seats.items p.me.0.states c.dealer.inside.dealt _
    c.gather-all.ensures.all.1
    (gathered_states c.gather-all.result.me p.me c.args.seats.items c.dealer.inside.dealt
    c.gather-all.ensures.all.1 c.dealer.invariant.states)
    (omega (arith, c.len.ensures, c.if-is_missing.false, c.args.seats.ok.0)) c.dealer.invariant.some
    (ap (λ (x : StripedView). x.terms.seats) (sym own))

pub returns-clause-retired : goal.returns-clause-retired
returns-clause-retired c =
    let p = c.dealer.inside.participant in
    let whose : cache_of p ≡ c.args.self.now =
    ap (λ (d : DealerView). d.cache) c.dealer.view_is ∙ c.requires.dealer in
    let own = c.gather-all.ensures.own (its_own c.args.seats.items (cache_of p) c.args.self.now whose
    c.requires.seats) in (
      c.see_end.ensures.caches,
      subst (λ (d : DealerView). Retires d c.args.seats.items c.see_end.ensures.caches)
          c.dealer.view_is
          (retires _ c.args.seats.items c.gather-all.result.me.0.states _ c.see_end.ensures.caches
          (ap (λ (x : StripedView). x.terms) own) c.dealer.invariant.some
          (gathered_states c.gather-all.result.me p.me c.args.seats.items c.dealer.inside.dealt
          c.gather-all.ensures.all.1 c.dealer.invariant.states)
          c.see_end.ensures.end_is),
    )
