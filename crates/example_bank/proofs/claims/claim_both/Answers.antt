-- Proves the contract of `claim_both`. Two clients of a new range never both commit a claim.
use Rattle.std.proofs.Common.{◌∙◌, ap}
use Rattle.mvcc_shared.specs.Clients.{SharedView, ClientView}
use Rattle.example_bank.proofs.Rivals.{never_both}
use Rattle.example_bank.proofs.claims.claim_both.Goals as goal

pub returns : goal.returns
returns g c =
    let opened = c.in_ok-range.ensures in
    never_both c.no_write_skew.ensures c.in_ok-range.field-0.dealer c.in_ok-clients.clients.items
    c.in-Ok._closed c.in_ok-alice-2.alice.client c.in_ok-bob-2.bob.client c.args.span.now
    c.in_ok-alice-2.alice.done c.in_ok-bob-2.bob.done c.in-Ok.ensures.closed
    c.in_ok-clients.ensures.items
    (c.in_ok-alice-2.ensures.0.number ∙ c.in_ok-alice.ensures.0.number
    ∙ ap (λ (x : ClientView). x.number) opened.one)
    (c.in_ok-bob-2.ensures.0.number ∙ c.in_ok-bob.ensures.0.number
    ∙ ap (λ (x : ClientView). x.number) opened.two)
    (ap (λ (r : SharedView). r.terms.clients) opened.dealer ∙ opened.clients)
    c.in_ok-alice-2.ensures.1 c.in_ok-bob-2.ensures.1
