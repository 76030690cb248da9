-- Proves the contract of `summary_in_stripes`. Summaries of a span at a seat.
use Rattle.std.proofs.Common.{◌≡◌, List, length, ap, sym, subst}
use Rattle.tsc_span.specs.Span.{KeyBytes}
use Rattle.tsc_striped.specs.Seats.{StripedView}
use Rattle.tsc_striped_leases.specs.Leases.{SummarizeFrom}
use Rattle.tsc_striped_leases.proofs.Leases.{summarizes_in_stripes, all_there}
use Rattle.tsc_striped_leases.proofs.summary_in_stripes.Goals as goal

pub summaries-requires : goal.summaries-requires
summaries-requires g c =
    let old = c.args.seat.now in
    let taken = c.in_ok-snapshot.ensures.taken in
    let bounds : old.cache.terms.bounds ≡ c.args.cache.now.terms.bounds =
    ap (λ (x : StripedView). x.terms.bounds) c.requires.cache in
    all_there old.cache.terms.bounds c.args.cache.now.terms.bounds c.args.span.now
    c.in_ok-snapshot.snapshot.first (length c.in_ok-snapshot.snapshot.caches.items) bounds
    taken.first taken.all

pub returns-clause-reported : goal.returns-clause-reported
returns-clause-reported g c =
    let bounds : c.args.cache.now.terms.bounds ≡ c.args.seat.now.cache.terms.bounds =
    ap (λ (x : StripedView). x.terms.bounds) (sym c.requires.cache) in
    summarizes_in_stripes c.args.seat.now c.snapshot.new.seat c.args.span.now c.args.most
    c.in_ok-snapshot.snapshot c.in_ok-reported.reported.items c.number-number.ensures.seat
    c.in_ok-snapshot.ensures.taken
    (subst (λ (b : List KeyBytes). SummarizeFrom b c.args.span.now c.args.most
    c.in_ok-snapshot.snapshot.first c.in_ok-snapshot.snapshot.caches.items
    c.in_ok-reported.reported.items) bounds c.in_ok-reported.ensures)
