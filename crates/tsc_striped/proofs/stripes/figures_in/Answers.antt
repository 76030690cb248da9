-- Proves the contract of `figures_in`. What can be counted of one stripe.
use Rattle.std.proofs.Common.{◌≡◌, ◌∙◌, ◌∷◌, sym, subst}
use Rattle.atomic_table.specs.Table.{rest}
use Rattle.tsc_stripe_table.specs.Rule.{StoredStripe}
use Rattle.tsc_cache.specs.Counts.{figures_of}
use Rattle.tsc_stripe_table.specs.declared.stripe.Stripe.{Stripe}
use Rattle.tsc_stripe_table.specs.Stripes.{state_on, IsStateOn}
use Rattle.tsc_striped.proofs.Holding.{acquired_is, looked_is, in_hand, same_in_hand}
use Rattle.tsc_striped.proofs.Holding.{can_release}
use Rattle.tsc_striped.proofs.stripes.figures_in.Goals as goal

pub slot_mut-stored-requires : goal.slot_mut-stored-requires
slot_mut-stored-requires g c =
    let taken = c.acquire.ensures.acquired c.if-not-acquire.false in (
      c.acquire.ensures.table ∙ c.requires.rest.0.table,
      (taken.0, in_hand c.acquire.new.who.me.1 _ c.args.stripe taken.0 taken.2),
    )

pub release_seen-requires-clause-can : goal.release_seen-requires-clause-can
release_seen-requires-clause-can g c =
    let taken = c.acquire.ensures.acquired c.if-not-acquire.false in
    let a = taken.1 in
    let me = c.args.who.now.me in
    let y : StoredStripe = c.slot_mut-stored.result.now in
    let same = same_in_hand c.acquire.new.who.me.1 c.args.stripe c.args.stripe taken.0 y _ _
    taken.2 c.slot_mut-stored.ensures.value in (
      y,
      can_release me (c.acquire.new.who.me.0, (c.args.stripe, y) ∷ rest c.acquire.new.who.me.1)
          c.args.stripe a.history y c.requires.is_stripe
          (λ i. (a.after i, (c.args.stripe, y) ∷ rest (taken.2 i)))
          (subst (λ (x : StoredStripe). IsStateOn me.0.setup c.args.stripe a.history x.value.cache)
          same a.stands),
    )

pub returns-clause-looked : goal.returns-clause-looked
returns-clause-looked g c =
    let taken = c.acquire.ensures.acquired c.if-not-acquire.false in
    let a = taken.1 in
    let me = c.args.who.now.me in
    let same = same_in_hand c.acquire.new.who.me.1 c.args.stripe c.args.stripe taken.0
    c.slot_mut-stored.result.now _ _ taken.2 c.slot_mut-stored.ensures.value in
    looked_is me c.acquire.new.who.me c.release_seen.new.who.me c.args.stripe a.history taken.0
    (λ h. c.figures-figures.result ≡ figures_of (state_on c.args.who.now.me.0.setup c.args.stripe h))
    c.requires.rest.1 (acquired_is me c.acquire.new.who.me c.args.stripe taken.0 a taken.2)
    a.begins a.legal a.own c.release_seen.ensures.released
    (c.figures-figures.ensures.stands me.0.setup.config (state_on me.0.setup c.args.stripe a.history)
    (subst (λ (y : Stripe). IsStateOn me.0.setup c.args.stripe a.history y.cache)
    (sym c.deref.ensures)
    (subst (λ x. IsStateOn me.0.setup c.args.stripe a.history x.value.cache) same a.stands)))
