-- Proves the contract of `add_in`. An Add in one stripe.
use Rattle.std.proofs.Common.{◌≡◌, ◌∷◌, ◌∙◌, sym, subst, true}
use Rattle.std.specs.Box.{with_value}
use Rattle.atomic_table.specs.Table.{rest}
use Rattle.tsc_page_model.specs.Page.{Mark}
use Rattle.tsc_cache.specs.CacheView.{CacheView}
use Rattle.tsc_cache.specs.ConfigView.{ConfigView, fits}
use Rattle.tsc_stripe_table.specs.declared.stripe.Stripe.{Stripe}
use Rattle.tsc_stripe_table.specs.Rule.{StoredStripe}
use Rattle.tsc_stripe_table.specs.Stripes.{IsStateOn}
use Rattle.tsc_striped.proofs.Holding.{can_commit, committed_is, in_hand, same_in_hand}
use Rattle.tsc_striped.proofs.Holding.{can_release}
use Rattle.tsc_striped.proofs.stripes.add_in.Goals as goal

pub slot_mut-stored-requires : goal.slot_mut-stored-requires
slot_mut-stored-requires g c =
    let taken = c.acquire.ensures.acquired c.if-not-acquire.false in (
      c.acquire.ensures.table ∙ c.requires.rest.0.table,
      (taken.0, in_hand c.acquire.new.who.me.1 _ c.args.stripe taken.0 taken.2),
    )

pub add-requires : goal.add-requires
add-requires g c =
    let taken = c.acquire.ensures.acquired c.if-not-acquire.false in
    let a = taken.1 in
    let me = c.args.who.now.me in
    let same = same_in_hand c.acquire.new.who.me.1 c.args.stripe c.args.stripe taken.0
    c.slot_mut-stored.result.now _ _ taken.2 c.slot_mut-stored.ensures.value in
    let stands = subst (λ (y : Stripe). IsStateOn me.0.setup c.args.stripe a.history y.cache)
    (sym c.deref_mut.ensures.value)
    (subst (λ (y : StoredStripe). IsStateOn me.0.setup c.args.stripe a.history y.value.cache) same
    a.stands) in record {
      fits = subst (λ (s : ConfigView). fits s c.args.mark.span.now ≡ true) (sym stands.set_up)
          c.requires.mark.2;
    }

pub release-requires-clause-can : goal.release-requires-clause-can
release-requires-clause-can g c =
    let taken = c.acquire.ensures.acquired c.if-not-acquire.false in
    let a = taken.1 in
    let me = c.args.who.now.me in
    let x : StoredStripe = with_value c.slot_mut-stored.result.now c.add.new.self in
    let same = same_in_hand c.acquire.new.who.me.1 c.args.stripe c.args.stripe taken.0
    c.slot_mut-stored.result.now _ _ taken.2 c.slot_mut-stored.ensures.value in
    let stands = subst (λ (y : Stripe). IsStateOn me.0.setup c.args.stripe a.history y.cache)
    (sym c.deref_mut.ensures.value)
    (subst (λ (y : StoredStripe). IsStateOn me.0.setup c.args.stripe a.history y.value.cache) same
    a.stands) in (
      x,
      can_release me (c.acquire.new.who.me.0, (c.args.stripe, x) ∷ rest c.acquire.new.who.me.1)
          c.args.stripe a.history x c.requires.mark.0
          (λ i. (a.after i, (c.args.stripe, x) ∷ rest (taken.2 i)))
          (subst (λ (v : CacheView). IsStateOn me.0.setup c.args.stripe a.history v)
          (sym c.in-Err.ensures.unchanged) stands),
    )

pub commit-requires-clause-can : goal.commit-requires-clause-can
commit-requires-clause-can g c =
    let taken = c.acquire.ensures.acquired c.if-not-acquire.false in
    let a = taken.1 in
    let me = c.args.who.now.me in
    let m : Mark = record { span = c.args.mark.span.now; value = c.args.mark.value } in
    let x : StoredStripe = with_value c.slot_mut-stored.result.now c.add.new.self in
    let same = same_in_hand c.acquire.new.who.me.1 c.args.stripe c.args.stripe taken.0
    c.slot_mut-stored.result.now _ _ taken.2 c.slot_mut-stored.ensures.value in
    let stands = subst (λ (y : Stripe). IsStateOn me.0.setup c.args.stripe a.history y.cache)
    (sym c.deref_mut.ensures.value)
    (subst (λ (y : StoredStripe). IsStateOn me.0.setup c.args.stripe a.history y.value.cache) same
    a.stands) in
    let p = c.in-Ok.ensures.pending in (
      x,
      can_commit me (c.acquire.new.who.me.0, (c.args.stripe, x) ∷ rest c.acquire.new.who.me.1)
          c.args.stripe a.history x c.deref_mut.result.now.cache m c.args.mark.moment
          c.requires.rest.1 c.requires.mark.0
          (λ i. (a.after i, (c.args.stripe, x) ∷ rest (taken.2 i)))
          c.requires.mark.1 c.requires.mark.3 (λ i. record { span = p.0 i; value = p.1 i }) p.2
          stands c.in-Ok.ensures.stands,
    )

pub returns-in-Ok-clause-added : goal.returns-in-Ok-clause-added
returns-in-Ok-clause-added g c =
    let taken = c.acquire.ensures.acquired c.if-not-acquire.false in
    let a = taken.1 in
    let me = c.args.who.now.me in
    let m : Mark = record { span = c.args.mark.span.now; value = c.args.mark.value } in
    let x : StoredStripe = with_value c.slot_mut-stored.result.now c.add.new.self in
    let same = same_in_hand c.acquire.new.who.me.1 c.args.stripe c.args.stripe taken.0
    c.slot_mut-stored.result.now _ _ taken.2 c.slot_mut-stored.ensures.value in
    let stands = subst (λ (y : Stripe). IsStateOn me.0.setup c.args.stripe a.history y.cache)
    (sym c.deref_mut.ensures.value)
    (subst (λ (y : StoredStripe). IsStateOn me.0.setup c.args.stripe a.history y.value.cache) same
    a.stands) in
    let p = c.in-Ok.ensures.pending in
    committed_is me (c.acquire.new.who.me.0, (c.args.stripe, x) ∷ rest c.acquire.new.who.me.1)
    c.commit.new.who.me c.args.stripe a.history x c.deref_mut.result.now.cache m
    c.args.mark.moment c.in-Ok.made.added c.requires.rest.1
    (λ i. (a.after i, (c.args.stripe, x) ∷ rest (taken.2 i)))
    c.requires.mark.1 (λ i. record { span = p.0 i; value = p.1 i }) p.2 stands
    c.in-Ok.ensures.made.0 c.commit.ensures.committed c.commit.ensures.hand
