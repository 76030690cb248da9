-- Proves the contract of `SharedCache::add_ref`. An Add of what a caller asks for, which is given
-- up
-- when the policy gives up.
use Rattle.std.proofs.Common.{rules, ◌≡◌, ◌∙◌, false, true≢false, refl, sym, ap, subst}
use Rattle.std.specs.Prelude.{OnOk}
use Rattle.tsc_shared.specs.Seats.{SharedView}
use Rattle.tsc_shared.specs.Adding.{fits_asked}
use Rattle.tsc_shared.proofs.GivenUp.{none_of_them}
use Rattle.tsc_shared.proofs.SeatSteps.{goes_nowhere, not_where_it_fits}
use Rattle.tsc_shared.proofs.shared.SharedCache.add_ref.Goals as goal

pub add_fitting-requires-clause-made : goal.add_fitting-requires-clause-made
add_fitting-requires-clause-made g c =
    c.can_be_added.ensures (sym c.fits.ensures ∙ c.if-not-fits.false)

pub returns-clause-answers : goal.returns-clause-answers
returns-clause-answers g c = record {
  accepted = c.add_fitting.ensures.accepted;
  seat = c.add_fitting.ensures.seat;
  refused = c.add_fitting.ensures.refused;
  why = c.add_fitting.ensures.why;
  too_large = not_where_it_fits _ _ _
      (ap (λ (cache : SharedView). fits_asked cache.config c.args.asked.now.marks) c.requires.cache)
      (sym c.fits.ensures ∙ c.if-not-fits.false) c.add_fitting.ensures.fits;
  no_tries = λ none _. c.add_fitting.ensures.no_tries (none_of_them _ none);
}

pub returns-then-not-fits-clause-answers : goal.returns-then-not-fits-clause-answers
returns-then-not-fits-clause-answers g c =
    let large : fits_asked c.args.seat.now.cache.config c.args.asked.now.marks ≡ false =
    subst (λ (cache : SharedView). fits_asked cache.config c.args.asked.now.marks ≡ false)
    (sym c.requires.cache) (sym c.fits.ensures ∙ c.if-not-fits.true) in
    record {
      accepted = tt;
      seat = goes_nowhere c.args.seat.now c.is_as_always.ensures;
      refused = record { count = refl };
      why = refl;
      too_large = (λ _. large, λ _. refl);
      no_tries = λ _ fit. absurd (true≢false (sym fit ∙ large));
    }

pub returns-clause-gate : goal.returns-clause-gate
returns-clause-gate g c =
    subst (λ gate. OnOk c.add_fitting.result (g.G.Gate.HasReported gate c.args.seat.now.number))
    c.due.ensures.gate c.add_fitting.ensures.gate

pub add_fitting-requires-clause-unreported : goal.add_fitting-requires-clause-unreported
add_fitting-requires-clause-unreported g c = search rules
