-- Proves the contract of `StripedCache::counts`. What can be counted of a stripe.
use Rattle.std.proofs.Common.{◌≡◌, subst}
use Rattle.std.specs.Prelude.{IfSome, IfNone}
use Rattle.tsc_cache.specs.Counts.{figures_of}
use Rattle.tsc_stripe_table.specs.Stripes.{state_on}
use Rattle.tsc_striped.specs.Keeping.{seat_view}
use Rattle.tsc_striped.specs.Answers.{ReadsFigures}
use Rattle.tsc_striped.specs.Waiting.{HasEnd}
use Rattle.tsc_striped.proofs.SeatSteps.{kept_if_looked, same_if_busy, figures_if_read}
use Rattle.tsc_striped.proofs.striped.StripedCache.counts.Goals as goal

pub invariant_of-seat : goal.invariant_of-seat
invariant_of-seat g c =
    let p = c.seat.inside.participant in
    kept_if_looked p c.figures_in.new.who c.figures_in.result
    (λ figures h. figures ≡ figures_of (state_on p.me.0.setup c.args.stripe h)) _
    c.figures_in.ensures.table c.figures_in.ensures.looked c.figures_in.ensures.busy
    c.seat.inside.number c.seat.inside.count c.seat.invariant

pub returns-clause-read : goal.returns-clause-read
returns-clause-read g c =
    subst (λ old. IfSome c.figures_in.result (λ figures. ReadsFigures old
    (seat_view c.figures_in.new.who) c.args.stripe figures)) c.seat.view_is
    (figures_if_read c.seat.inside.participant c.figures_in.new.who c.args.stripe
    c.figures_in.result c.seat.invariant.seat c.figures_in.ensures.table
    c.figures_in.ensures.looked)

pub returns-clause-busy : goal.returns-clause-busy
returns-clause-busy g c =
    subst (λ old. IfNone c.figures_in.result ((seat_view c.figures_in.new.who ≡ old)
    × HasEnd (g.P.WaitPolicy.tries c.args.policy.now))) c.seat.view_is
    (same_if_busy c.seat.inside.participant c.figures_in.new.who c.figures_in.result _
    c.figures_in.ensures.table c.figures_in.ensures.busy)
