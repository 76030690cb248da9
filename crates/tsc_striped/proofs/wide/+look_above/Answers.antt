-- Proves the contract of `look_above`. What a lookup answers in the stripes from one to the last.
use Rattle.std.proofs.Common.{◌∙◌, ◌∷◌, ◌<◌, ◌+◌, ◌-◌, sym, ap, subst, refl, arith}
use Rattle.atomic_table.specs.Table.{rest}
use Rattle.tsc_stripe_table.specs.declared.stripe.Stripe.{Stripe}
use Rattle.tsc_stripe_table.specs.Rule.{StoredStripe}
use Rattle.tsc_stripe_table.specs.Stripes.{stripe_count, state_on, IsStateOn}
use Rattle.tsc_striped.specs.Looks.{look_from}
use Rattle.tsc_stripe_table.specs.Participating.{IsSized}
use Rattle.tsc_striped.proofs.Holding.{acquired_is, in_hand, same_in_hand, can_release}
use Rattle.tsc_striped.proofs.Several.{reaches_nothing, reaches_released, looks_last, looks_more}
use Rattle.tsc_striped.proofs.Several.{can_acquire_next, holds_some, has_reached, can_release_on}
use Rattle.tsc_striped.proofs.Several.{reaches_on, same_there}
use Rattle.tsc_striped.proofs.wide.+look_above.Goals as goal

pub returns-then-not-try_acquire-clause-looked : goal.returns-then-not-try_acquire-clause-looked
returns-then-not-try_acquire-clause-looked t c =
    reaches_nothing c.args.who.now.me c.try_acquire.new.who.me c.args.stripe _ c.requires.can.0
    c.requires.can.2 (c.try_acquire.ensures.busy c.if-not-try_acquire.true) tt

pub returns-then-stripe-last-clause-looked : goal.returns-then-stripe-last-clause-looked
returns-then-stripe-last-clause-looked t c =
    let taken = c.try_acquire.ensures.acquired c.if-not-try_acquire.false in
    let a = taken.1 in
    let me = c.args.who.now.me in
    let same = same_in_hand c.try_acquire.new.who.me.1 c.args.stripe c.args.stripe taken.0
    c.slot_mut-stored.result.now _ _ taken.2 c.slot_mut-stored.ensures.value in
    reaches_released me c.try_acquire.new.who.me c.release.new.who.me c.args.stripe a.history a.history
    taken.0 _ c.requires.can.1
    (acquired_is me c.try_acquire.new.who.me c.args.stripe taken.0 a taken.2) a.unchanged
    (λ j held. refl) a.begins a.legal a.own c.release.ensures.released
    (looks_last me.0.setup a.history c.args.span.now c.args.stripe c.args.last
    c.get_max_ref-own.result c.if-stripe-last.true
    (c.get_max_ref-own.ensures.stands me.0.setup.config (state_on me.0.setup c.args.stripe a.history)
    (subst (λ (y : Stripe). IsStateOn me.0.setup c.args.stripe a.history y.cache)
    (sym c.deref.ensures)
    (subst (λ (x : StoredStripe). IsStateOn me.0.setup c.args.stripe a.history x.value.cache) same
    a.stands))))

pub slot_mut-stored-requires : goal.slot_mut-stored-requires
slot_mut-stored-requires t c =
    let taken = c.try_acquire.ensures.acquired c.if-not-try_acquire.false in (
      c.try_acquire.ensures.table ∙ c.requires.of.table,
      (taken.0, in_hand c.try_acquire.new.who.me.1 _ c.args.stripe taken.0 taken.2),
    )

pub release-requires-clause-can : goal.release-requires-clause-can
release-requires-clause-can t c =
    let taken = c.try_acquire.ensures.acquired c.if-not-try_acquire.false in
    let a = taken.1 in
    let me = c.args.who.now.me in
    let y : StoredStripe = c.slot_mut-stored.result.now in
    let same = same_in_hand c.try_acquire.new.who.me.1 c.args.stripe c.args.stripe taken.0 y _ _
    taken.2 c.slot_mut-stored.ensures.value in (
      y,
      can_release me
          (c.try_acquire.new.who.me.0, (c.args.stripe, y) ∷ rest c.try_acquire.new.who.me.1)
          c.args.stripe a.history y c.requires.can.0.is_stripe
          (λ i. (a.after i, (c.args.stripe, y) ∷ rest (taken.2 i)))
          (subst (λ (x : StoredStripe). IsStateOn me.0.setup c.args.stripe a.history x.value.cache)
          same a.stands),
    )

pub look_above-requires : goal.look_above-requires
look_above-requires t c =
    let taken = c.try_acquire.ensures.acquired c.if-not-try_acquire.false in
    let a = taken.1 in
    let me = c.args.who.now.me in
    let is = acquired_is me c.try_acquire.new.who.me c.args.stripe taken.0 a taken.2 in
    let low : c.args.stripe < c.args.last = omega (arith, c.requires.last.0, c.if-stripe-last.false) in (
      omega (arith, c.decreases, low),
      (
        record {
          table = c.try_acquire.ensures.table ∙ c.requires.of.table;
          sized = subst (λ v. IsSized c.args.shared.now.table_id v.setup.bounds) (sym a.after)
              c.requires.of.sized;
        },
        (
          (
            can_acquire_next me c.try_acquire.new.who.me c.args.stripe c.args.last a.history taken.0
                c.requires.can.0 low c.requires.last.1 is,
            holds_some me c.try_acquire.new.who.me c.args.stripe a.history taken.0 is,
            has_reached me c.try_acquire.new.who.me c.args.stripe taken.0 a is,
          ),
          (
            omega (arith, low),
            subst (λ v. c.args.last < stripe_count v.setup.bounds) (sym a.after)
                c.requires.last.1,
          ),
        ),
      ),
    )

pub release-requires-in-Ok-clause-can : goal.release-requires-in-Ok-clause-can
release-requires-in-Ok-clause-can t c =
    let taken = c.try_acquire.ensures.acquired c.if-not-try_acquire.false in
    let a = taken.1 in
    let me = c.args.who.now.me in
    let y : StoredStripe = c.slot_mut-stored.result.now in
    let same = same_in_hand c.try_acquire.new.who.me.1 c.args.stripe c.args.stripe taken.0 y _ _
    taken.2 c.slot_mut-stored.ensures.value in (
      y,
      can_release_on me _ c.look_above.new.who.me c.args.stripe taken.0 y a
          (λ i. (a.after i, (c.args.stripe, y) ∷ rest (taken.2 i))) _ c.in-Ok.ensures.looked
          c.requires.can.0.is_stripe
          (subst (λ (x : StoredStripe). IsStateOn me.0.setup c.args.stripe a.history x.value.cache)
          same a.stands),
    )

pub release-requires-in-Err-clause-can : goal.release-requires-in-Err-clause-can
release-requires-in-Err-clause-can t c =
    let taken = c.try_acquire.ensures.acquired c.if-not-try_acquire.false in
    let a = taken.1 in
    let me = c.args.who.now.me in
    let y : StoredStripe = c.slot_mut-stored.result.now in
    let same = same_in_hand c.try_acquire.new.who.me.1 c.args.stripe c.args.stripe taken.0 y _ _
    taken.2 c.slot_mut-stored.ensures.value in (
      y,
      can_release_on me _ c.look_above.new.who.me c.args.stripe taken.0 y a
          (λ i. (a.after i, (c.args.stripe, y) ∷ rest (taken.2 i))) _ c.in-Err.ensures.looked
          c.requires.can.0.is_stripe
          (subst (λ (x : StoredStripe). IsStateOn me.0.setup c.args.stripe a.history x.value.cache)
          same a.stands),
    )

pub returns-in-Ok-clause-looked : goal.returns-in-Ok-clause-looked
returns-in-Ok-clause-looked t c =
    let taken = c.try_acquire.ensures.acquired c.if-not-try_acquire.false in
    let a = taken.1 in
    let me = c.args.who.now.me in
    let y : StoredStripe = c.slot_mut-stored.result.now in
    let in_hand = same_in_hand c.try_acquire.new.who.me.1 c.args.stripe c.args.stripe taken.0 y _ _
    taken.2 c.slot_mut-stored.ensures.value in
    let r = c.in-Ok.ensures.looked in
    let low : c.args.stripe < c.args.last =
    omega (arith, c.requires.last.0, c.if-stripe-last.false) in
    reaches_on me _ c.look_above.new.who.me c.args.stripe taken.0 y a
    (λ i. (a.after i, (c.args.stripe, y) ∷ rest (taken.2 i))) _ r
    c.release-in-Ok.new.who.me _ c.requires.can.1 c.release-in-Ok.ensures.released
    (looks_more me.0.setup a.history r.history c.args.span.now c.args.stripe c.args.last
    c.get_max_ref-own.result c.in-Ok.others c.ratchet.result.0 low
    (same_there me _ c.look_above.new.who.me c.args.stripe taken.0 y a
    (λ i. (a.after i, (c.args.stripe, y) ∷ rest (taken.2 i))) _ r)
    (c.get_max_ref-own.ensures.stands me.0.setup.config (state_on me.0.setup c.args.stripe a.history)
    (subst (λ (z : Stripe). IsStateOn me.0.setup c.args.stripe a.history z.cache)
    (sym c.deref.ensures)
    (subst (λ (x : StoredStripe). IsStateOn me.0.setup c.args.stripe a.history x.value.cache)
    in_hand a.stands)))
    (r.found ∙ ap (λ v. look_from v.setup r.history c.args.span.now (c.args.stripe + 1)
    (c.args.last - (c.args.stripe + 1))) a.after)
    c.ratchet.ensures.value)

pub returns-in-Err-clause-looked : goal.returns-in-Err-clause-looked
returns-in-Err-clause-looked t c =
    let taken = c.try_acquire.ensures.acquired c.if-not-try_acquire.false in
    let a = taken.1 in
    let me = c.args.who.now.me in
    let y : StoredStripe = c.slot_mut-stored.result.now in
    reaches_on me _ c.look_above.new.who.me c.args.stripe taken.0 y a
    (λ i. (a.after i, (c.args.stripe, y) ∷ rest (taken.2 i))) _ c.in-Err.ensures.looked
    c.release-in-Err.new.who.me _ c.requires.can.1 c.release-in-Err.ensures.released tt
