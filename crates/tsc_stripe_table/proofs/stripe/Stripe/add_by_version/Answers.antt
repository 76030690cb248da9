-- Proves the contract of `Stripe::add_by_version`. The next version takes the place of the cache.
use Rattle.std.proofs.Common.{sym, subst}
use Rattle.tsc_page_model.specs.Page.{Mark}
use Rattle.tsc_cache.specs.CacheView.{CacheView, StandsAfter}
use Rattle.tsc_stripe_table.proofs.stripe.Stripe.add_by_version.Goals as goal

pub returns-clause-stands : goal.returns-clause-stands
returns-clause-stands c =
    let m : Mark = record { span = c.args.span.now; value = c.args.value } in
    subst (λ (v : CacheView). StandsAfter c.args.self.now.cache v m c.args.now)
    (sym c.replace-replaced.ensures.cache) c.in_ok-next.ensures.stands
