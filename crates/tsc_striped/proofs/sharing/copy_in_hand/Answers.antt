-- Proves the contract of `copy_in_hand`. A copy of the cache in hand.
use Rattle.std.proofs.Common.{◌≡◌, ◌∙◌, ap, sym, subst}
use Rattle.tsc_cache.specs.CacheView.{CacheView}
use Rattle.tsc_stripe_table.specs.declared.stripe.Stripe.{Stripe}
use Rattle.tsc_stripe_table.specs.Rule.{StoredStripe}
use Rattle.tsc_striped.specs.Sharing.{IsCopy}
use Rattle.tsc_striped.proofs.Holding.{same_in_hand}
use Rattle.tsc_striped.proofs.sharing.copy_in_hand.Goals as goal

pub returns-clause-copied : goal.returns-clause-copied
returns-clause-copied c x has =
    let same = same_in_hand c.args.who.now.me.1 c.args.stripe c.args.stripe x
    c.slot_mut-stored.result.now _ _ has.hand c.slot_mut-stored.ensures.value in
    let old : x.value.cache ≡ c.deref.result.now.cache =
    ap (λ (y : StoredStripe). y.value.cache) same
    ∙ sym (ap (λ (y : Stripe). y.cache) c.deref.ensures) in
    subst (λ (v : CacheView). IsCopy v c.in_ok-made.made.cache) (sym old) c.in_ok-made.ensures.stands
