-- Proves the contract of `try_summary_in_stripes`. Summaries of a span at a seat.
use Rattle.std.proofs.Common.{◌≡◌, List, ap, sym, subst}
use Rattle.tsc_span.specs.Span.{KeyBytes}
use Rattle.tsc_striped.specs.Seats.{StripedView}
use Rattle.tsc_striped_leases.specs.Leases.{SummarizeFrom}
use Rattle.tsc_striped_leases.proofs.Leases.{summarizes_in_stripes}
use Rattle.tsc_striped_leases.proofs.try_summary_in_stripes.Goals as goal

pub returns-in-Ok-clause-reported : goal.returns-in-Ok-clause-reported
returns-in-Ok-clause-reported c =
    let bounds : c.args.cache.now.terms.bounds ≡ c.args.seat.now.cache.terms.bounds =
    ap (λ (x : StripedView). x.terms.bounds) (sym c.requires.cache) in
    summarizes_in_stripes c.args.seat.now c.try_snapshot.new.seat c.args.span.now c.args.most
    c.in_ok-snapshot.snapshot c.in-Ok.reported.items c.number-number.ensures.seat
    c.in_ok-snapshot.ensures.taken
    (subst (λ (b : List KeyBytes). SummarizeFrom b c.args.span.now c.args.most
    c.in_ok-snapshot.snapshot.first c.in_ok-snapshot.snapshot.caches.items c.in-Ok.reported.items)
    bounds c.in-Ok.ensures)
